-- What is refused and what is accepted, from what reading and loading answer.
use Rattle.std.proofs.Common.{◌≡◌, ◌⊎◌, ℕ, ◌<◌, ◌≤◌, Bool, ◌||◌, List, [], ◌∷◌, length, map, Option, Some, None, Result, Ok, Err, MatchResult, is_some, refl, sym, ap, subst, ◌∙◌, inl, inr, arith}
use Rattle.std.specs.List.{list_any}
use Rattle.std.proofs.lemmas.Bool.{true≢false}
use Rattle.std.proofs.lemmas.Option.{same_Some}
use Rattle.cb_model.specs.Text.{Text}
use Rattle.cb_model.specs.declared.RawClause.{RawClause}
use Rattle.cb_model.specs.Forms.{clause_form}
use Rattle.cb_model.specs.Written.{AreClauses}
use Rattle.cb_model.specs.Grammar.{FormClause, Whole, Lexed, Syntax, Unfinished, Deep, IsReading, ReadsClause}
use Rattle.cb_model.specs.Loading.{is_fact}
use Rattle.cb_model.specs.Directives as dir
use Rattle.cb_model.specs.Directives.{Declared, Refusal, BadDirective, SortClash, Unknown}
use Rattle.cb_model.specs.Refusals.{Refused, file_too_long}
use Rattle.cb_model.specs.Outside.{bytes_named}
use Rattle.cb_model.specs.Output.{sort_refused}
use Rattle.cb_directives.specs.declared.fault.LoadError.{LoadError}
use Rattle.cb_directives.specs.declared.fault.LoadError.TheVariants as fault
use Rattle.cb_rules.specs.Refused as sorts
use Rattle.cb_lex.specs.Faults.{fault_of}
use Rattle.cb_syntax.specs.declared.texts.ReadError.{ReadError}
use Rattle.cb_syntax.specs.declared.texts.ReadError.TheVariants as error
use Rattle.cb_syntax.specs.Readings.{IsRefused}
use Rattle.cb_host.specs.Host as host
use Rattle.cb_host.specs.Host.{IfTold, HasLength}
use Rattle.cb_host.specs.declared.Load.TheVariants as load
use Rattle.cb_sorts.specs.Source.{Source, Loads}
use Rattle.cb_lines.specs.Refusals.{read_refused, load_refused, circuit_refused, placed_in}
use Rattle.cb_lines.specs.declared.refusals.Whose.TheVariants as whose
use Rattle.cb_model.specs.Facts as facts
use Rattle.cb_model.specs.Facts.{Circuits, FactRefusal, FactsRead, no_circuits}
use Rattle.cb_model.specs.Output as output
use Rattle.cb_model.specs.Output.{IsLoaded, FileRefused, unread, fact_refused}
use Rattle.cb_circ.specs.declared.reading.CircError.{CircError}
use Rattle.cb_circ.specs.declared.reading.CircError.TheVariants as circuit
use Rattle.cb_circ.specs.Refused.{RefusesFacts}
use Rattle.cb_accept.specs.Refusals.{AreAccepted, ClausesRefused, directive, rule, a_fact, IsRead}
use Rattle.cb_accept.specs.declared.Accepted.{Accepted}
use Rattle.cb_accept.specs.File.{forms, holds, IsAccepted, IsTold, IsLong}

pub some-none : {A : Type 0} (x : A) → Some x ≡ None → ⊥
some-none x e = true≢false (ap is_some e)

-- ---- the bytes

-- a file that was loaded whole
pub file-done : (files : Option (List (Text × Text))) (file into : Text) → IfTold files (λ fs. host.Loads (bytes_named fs file) 4194304 load.Done into) → IsTold files file into
file-done None file into h list p = absurd (some-none list (sym p))
file-done (Some fs) file into h list p = h.1 ∙ ap (λ x. bytes_named x file) (same_Some fs list p)

-- a file that was longer than its limit
pub file-long : (files : Option (List (Text × Text))) (file into : Text) → IfTold files (λ fs. host.Loads (bytes_named fs file) 4194304 load.Long into) → HasLength 4194304 load.Long into →
    (r : Refused) → r ≡ file_too_long → IsLong files file r
file-long None file into h l r e = record { bytes = into; long = omega arith; told = λ list p. absurd (some-none list (sym p)); is = e }
file-long (Some fs) file into h l r e = record { bytes = bytes_named fs file; long = h.0; told = λ list p. ap (λ x. bytes_named x file) (same_Some fs list p); is = e }

-- ---- the clauses

-- whether a clause is a fact
pub any_facts : (cs : List RawClause) → list_any is_fact (map clause_form cs) ≡ list_any (λ c. is_fact (clause_form c)) cs
any_facts [] = refl
any_facts (c ∷ cs) = ap (λ (b : Bool). is_fact (clause_form c) || b) (any_facts cs)

few_more : (n : ℕ) (cs : List FormClause) → n ≤ 4194304 → AreClauses n cs → AreClauses 4194304 cs
few_more n cs h w =
    let a = w.few in
    let b = w.few_goals in
    let c = w.few_terms in
    record { written = w.written; few = omega arith; few_goals = omega arith; few_terms = omega arith }

-- the clauses of a text that isn't too long are few enough
pub clauses_few : (n : ℕ) (xs : List RawClause) → n ≤ 4194304 → AreClauses n (map clause_form xs) → AreClauses 4194304 (map clause_form xs)
clauses_few n xs h w = few_more n (map clause_form xs) h w

-- a refusal of the file has its place as it is
pub in_file : (q : Option Refused) → placed_in whose.File q ≡ q
in_file None = refl
in_file (Some r) = refl

-- what was not read is refused
pub unread-refused : (file : Text) (e : ReadError) (r : Refused) → length file ≤ 4194304 → IsRefused ReadsClause file e → Some r ≡ placed_in whose.File (read_refused e) → FileRefused file r
unread-refused file (error.Lex f) r short h t = unread (Lexed (fault_of f)) short h (sym t)
unread-refused file (error.Syntax n) r short h t = unread (Syntax n) short h (sym t)
unread-refused file (error.Unfinished n) r short h t = unread (Unfinished n) short h (sym t)
unread-refused file (error.Deep n) r short h t = unread (Deep n) short h (sym t)
unread-refused file error.Memory r short h t = absurd (cc)

-- clauses that are not accepted are refused
same_refused : (cs : List FormClause) (e : Refusal × ℕ) (r : Refused) → Some r ≡ Some (sort_refused e) → ClausesRefused cs (sort_refused e) → ClausesRefused cs r
same_refused cs e r t h = let k : sort_refused e ≡ r = cc in subst (ClausesRefused cs) k h

pub unloaded-refused : (cs : List FormClause) (e : LoadError) (r : Refused) → sorts.Refuses cs e → Some r ≡ placed_in whose.File (load_refused e) → ClausesRefused cs r
unloaded-refused cs (fault.Directive n) r (inl h) t = same_refused cs (BadDirective, n) r t (directive (BadDirective, n) h)
unloaded-refused cs (fault.SortClash n) r (inl h) t = same_refused cs (SortClash, n) r t (directive (SortClash, n) h)
unloaded-refused cs (fault.Unknown n) r (inl h) t = same_refused cs (Unknown, n) r t (directive (Unknown, n) h)
unloaded-refused cs (fault.Twice n) r (inl h) t = same_refused cs (dir.Twice, n) r t (directive (dir.Twice, n) h)
unloaded-refused cs (fault.Directive n) r (inr w) t = absurd w.2
unloaded-refused cs (fault.SortClash n) r (inr w) t = same_refused cs (SortClash, n) r t (rule w.0 (SortClash, n) w.1 w.2)
unloaded-refused cs (fault.Unknown n) r (inr w) t = same_refused cs (Unknown, n) r t (rule w.0 (Unknown, n) w.1 w.2)
unloaded-refused cs (fault.Twice n) r (inr w) t = same_refused cs (dir.Twice, n) r t (rule w.0 (dir.Twice, n) w.1 w.2)
unloaded-refused cs fault.Memory r h t = absurd (cc)

-- facts that are not accepted are refused
a-fact-refused : (cs : List FormClause) (d : Declared) (k : FactRefusal) (n : ℕ) (r : Refused) → AreAccepted cs d → (c : Circuits) × FactsRead no_circuits cs (Some (k, n)) c →
    Some r ≡ Some (fact_refused (k, n)) → ClausesRefused cs r
a-fact-refused cs d k n r a f t = let e : fact_refused (k, n) ≡ r = cc in subst (ClausesRefused cs) e (a_fact d (k, n) f.0 a f.1)

pub unconnected-refused : (cs : List FormClause) (d : Declared) (e : CircError) (r : Refused) → AreAccepted cs d → RefusesFacts cs e → Some r ≡ placed_in whose.File (circuit_refused e) → ClausesRefused cs r
unconnected-refused cs d (circuit.Twice n) r a h t = a-fact-refused cs d facts.Twice n r a h t
unconnected-refused cs d (circuit.Pins n) r a h t = a-fact-refused cs d facts.Pins n r a h t
unconnected-refused cs d (circuit.Driven n) r a h t = a-fact-refused cs d facts.Driven n r a h t
unconnected-refused cs d (circuit.Cycle n) r a h t = a-fact-refused cs d facts.Cycle n r a h t
unconnected-refused cs d (circuit.Part n) r a h t = a-fact-refused cs d facts.Part n r a h t
unconnected-refused cs d (circuit.Large n) r a h t = a-fact-refused cs d facts.Large n r a h t
unconnected-refused cs d circuit.Memory r a h t = absurd (cc)

-- the first refusal of the clauses of a file is the file's
pub clauses-refused : (file : Text) (cs : List FormClause) (r : Refused) → IsRead file cs → ClausesRefused cs r → FileRefused file r
clauses-refused file cs r i (directive e h) = output.directive cs e i.short i.reading h refl
clauses-refused file cs r i (rule d e h k) = output.rule cs d e i.short i.reading h k refl
clauses-refused file cs r i (a_fact d e c a f) = output.a_fact cs d e c i.short i.reading a.declares a.rules f refl

-- what a program says of its clauses
pub accepted-of : (cs : List FormClause) (s : Source) → Loads cs s → AreAccepted cs s.declared
accepted-of cs s l = record { declares = l.declares; rules = l.rules }

-- an answer stays, where what is said of the others is said in another way
pub or-else : {A E : Type 0} (P : A → Type 0) (Q R : E → Type 0) (r : Result A E) → ((e : E) → Q e → R e) → MatchResult r P Q → MatchResult r P R
or-else P Q R (Ok a) f h = h
or-else P Q R (Err e) f h = f e h

-- an accepted file is loaded by the definition
pub accepted-loaded : (a : Accepted) → IsAccepted a → IsLoaded a.text.now (holds a)
accepted-loaded a i =
    let l = accepted-of (forms a) a.program i.loads in
    record { short = i.read.short; reading = i.read.reading; declares = l.declares; rules = l.rules; facts = i.facts }
