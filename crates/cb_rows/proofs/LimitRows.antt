-- Limits, of lists that are too long to be computed.
use Rattle.std.proofs.Common.{◌≡◌, ℕ, zero, suc, ◌+◌, ◌<◌, ◌≤◌, true, false, nat_lt, nat_le, List, [], ◌∷◌, ◌++◌, map, length, take, refl, sym, ◌∙◌, ap, subst, inl, inr, codes, arith, lit<, lit≤, length-append}
use Rattle.std.proofs.lemmas.List.{length-map}
use Rattle.std.specs.Prelude.{Option, Some, None, Contains, if◌then◌else◌, slice_get, bytes_eq}
use Rattle.std.specs.Fmt.{digits}
use Rattle.cb_model.specs.declared.Kind.{Kind}
use Rattle.cb_model.specs.declared.GateKind.TheVariants as gate
use Rattle.cb_model.specs.declared.Outcome.TheVariants as outcome
use Rattle.cb_model.specs.Text.{Text, lines_text}
use Rattle.cb_model.specs.Tokens.{Token, Fault, Lexes, ended, layout, comment, token, number, quote, byte, spelled, is_layout}
use Rattle.cb_model.specs.Grammar.{FormClause, FormQuery, ReadsClause, ReadsQuery, ReadsAll, no_more, one_more, Reading, IsReading, whole, lexed, syntax_at, deep_at, unfinished, Whole}
use Rattle.cb_model.specs.Grammar as grammar
use Rattle.cb_model.specs.Circuits.{In, flat}
use Rattle.cb_model.specs.Facts.{Feeds, feeds, leads_on, HasCycle, ModuleRefusal, Large, FactRefusal, FactsRead, no_facts, no_circuits, Circuits}
use Rattle.cb_model.specs.Directives.{Declared, Sign, Refusal, directives}
use Rattle.cb_model.specs.Facts as facts
use Rattle.cb_model.specs.Loading.{RulesRefusal}
use Rattle.cb_model.specs.Loading as load
use Rattle.cb_model.specs.Refusals.{Refused}
use Rattle.cb_model.specs.Output.{Loaded, IsLoaded, FileRefused, unread, directive, rule, a_fact, InputRefused, QueriesRefusal, QueriesSay, no_queries, Output, reading_refused}
use Rattle.cb_model.specs.Output as out
use Rattle.cb_rows.specs.LimitExamples.{many, spaces, part_with, around, empty, check_words, run_words, LimitExamples}
use Rattle.cb_rows.proofs.TextRows.{shallow}
use Rattle.cb_rows.proofs.FileRows.{feeds_net, only_net, no_net, outs_of, ins_of}

count : {T : Type 0} (n : ℕ) (x : T) → length (many n x) ≡ n
unfolding many
count zero x = refl
count (suc n) x = ap suc (count n x)

-- ---- gates

none_feeds : (i j : ℕ) → Feeds around i j → ⊥
none_feeds i j f = go i j f.net (feeds_net around i j f).0 (feeds_net around i j f).1
  where
    go : (i j : ℕ) (x : Text) → Contains (outs_of (slice_get around.instances i)) x → Contains (ins_of (slice_get around.instances j)) x → ⊥
    go zero zero x g t = let e : true ≡ false = ap (bytes_eq (codes "Y")) (only_net _ _ g ∙ sym (only_net _ _ t)) in cc
    go zero (suc j) x g t = no_net x t
    go (suc i) j x g t = no_net x g

no_cycle : HasCycle around → ⊥
no_cycle (i, feeds f) = none_feeds i i f
no_cycle (i, leads_on j f l) = none_feeds i j f

mapped : {A B : Type 0} (f : A → B) (xs : List A) (n : ℕ) → length xs ≡ n → length (map f xs ++ []) ≡ n
mapped f xs n e = length-append (map f xs) [] ∙ (omega (arith, length-map xs f, e))

gates_of : (n : ℕ) → length (flat (part_with n ∷ []) around).gates ≡ n
gates_of n = mapped _ (many n (gate.Not, In 0 ∷ [])) n (count n (gate.Not, In 0 ∷ []))

abbrev by_gates : ℕ → Option FactRefusal
by_gates k = if nat_lt 1000000 k then Some Large else None

most_gates : ModuleRefusal (part_with 1000000 ∷ []) around None
most_gates = inr (no_cycle, ap by_gates (sym (gates_of 1000000)))

too_many_gates : ModuleRefusal (part_with 1000001 ∷ []) around (Some Large)
too_many_gates = inr (no_cycle, ap by_gates (sym (gates_of 1000001)))

-- ---- spaces

blank : (at n : ℕ) → Lexes at 1 (spaces n) [] None
unfolding many
blank at zero = ended
blank at (suc n) = layout refl (blank (at + 1) n)

first_or : Text → ℕ
first_or [] = 32
first_or (x ∷ s) = x

behind : Text → Text
behind [] = []
behind (x ∷ s) = s

-- the first of some spaces, and the others
first_space : (x n : ℕ) (s : Text) → x ∷ s ≡ spaces n → (x ≡ 32) × ((m : ℕ) × (s ≡ spaces m))
unfolding many first_or behind
first_space x zero s e = absurd (cc)
first_space x (suc n) s e = (ap first_or e, (n, ap behind e))

no_spelled : (j n : ℕ) (k : Kind) → spelled (take j (spaces n)) ≡ Some k → ⊥
unfolding many
no_spelled zero n k h = cc
no_spelled (suc j) zero k h = cc
no_spelled (suc j) (suc n) k h = cc

not_space : (x : ℕ) → x ≡ 32 → nat_le 33 x ≡ false
not_space x e = ap (nat_le 33) e

no_tokens : {at line : ℕ} {s : Text} {ts : List Token} {f : Option Fault} (n : ℕ) → s ≡ spaces n → Lexes at line s ts f → (ts ≡ []) × (f ≡ None)
no_tokens n e ended = (refl, refl)
no_tokens n e (layout {x = x} {s = s} h l) = let k = (first_space x n s e).1 in no_tokens k.0 k.1 l
no_tokens n e (comment {s = s} l) = let k : true ≡ false = not_space 37 (first_space 37 n s e).0 in absurd (cc)
no_tokens n e (token j k t h i g l) = absurd (no_spelled j n k (subst (λ u. spelled (take j u) ≡ Some k) e h.token))
no_tokens n e (number j k h i) = absurd (no_spelled j n k (subst (λ u. spelled (take j u) ≡ Some k) e h.token))
no_tokens n e (quote {s = s} h) = let k : true ≡ false = not_space 39 (first_space 39 n s e).0 in absurd (cc)
no_tokens n e (byte {x = x} {s = s} h i j k) =
    let z : true ≡ false = ap is_layout (sym (first_space x n s e).0) ∙ h in absurd (cc)

read_blank : {A : Type 0} (R : List Token → List Token → A → Type 0) (n : ℕ) → IsReading R (spaces n) (Whole [])
read_blank R n = whole [] [] (blank 0 n) no_more (shallow [] refl)

-- no clause and no query is read from no tokens
no_clause : (ts us : List Token) (c : FormClause) → ts ≡ [] → ReadsClause ts us c → ⊥
no_clause _ us c e (grammar.directive d h a r i j) = cc
no_clause _ us c e (grammar.fact d r h i) = cc
no_clause _ us c e (grammar.rule n us' r h o i) = cc

no_query : (ts us : List Token) (q : FormQuery) → ts ≡ [] → ReadsQuery ts us q → ⊥
no_query _ us q e (grammar.a_query o h) = cc

module _ {A : Type 0} (R : List Token → List Token → A → Type 0) (none : (ts us : List Token) (x : A) → ts ≡ [] → R ts us x → ⊥) where
  no_pieces : (ts : List Token) (xs : List A) → ts ≡ [] → ReadsAll R ts xs → xs ≡ []
  no_pieces ts xs e no_more = refl
  no_pieces ts xs e (one_more {x = x} us r o) = absurd (none ts us x e r)

  only_whole : (n : ℕ) (x : Reading A) → IsReading R (spaces n) x → x ≡ Whole []
  only_whole n x (whole ts xs l r d) = ap Whole (no_pieces ts xs (no_tokens n refl l).0 r)
  only_whole n x (lexed ts f l) = let h : Some f ≡ None = (no_tokens n refl l).1 in absurd (cc)
  only_whole n x (syntax_at ts k l w first e) = let h : k < 0 = subst (λ t. k < length t) (no_tokens n refl l).0 w.within in absurd (omega arith)
  only_whole n x (deep_at ts k l d c e) = let h : k < 0 = subst (λ t. k < length t) (no_tokens n refl l).0 d.within in absurd (omega arith)
  only_whole n x (unfinished ts l g none_read deep e) = absurd (none_read [] (subst (λ t. ReadsAll R t []) (sym (no_tokens n refl l).0) no_more))

  not_refused : (n : ℕ) (x : Reading A) (r : Refused) → IsReading R (spaces n) x → reading_refused x ≡ Some r → ⊥
  not_refused n x r i e = let h : None ≡ Some r = ap reading_refused (sym (only_whole n x i)) ∙ e in cc

  listed : Reading A → List A
  listed (Whole xs) = xs
  listed _ = []

  read_none : (n : ℕ) (xs : List A) → IsReading R (spaces n) (Whole xs) → xs ≡ []
  unfolding listed
  read_none n xs i = ap listed (only_whole n (Whole xs) i)

-- ---- files

abbrev limit : ℕ
limit = 4194304

longest_file : IsLoaded (spaces limit) empty
longest_file = record { short = subst (λ n. n ≤ limit) (sym (count limit 32)) (lit≤ tt); reading = read_blank ReadsClause limit; declares = refl; rules = load.none; facts = no_facts }

longer_not_loaded : (l : Loaded) → IsLoaded (spaces 4194305) l → ⊥
longer_not_loaded l i = let h : 4194305 ≤ 4194304 = subst (λ n. n ≤ 4194304) (count 4194305 32) i.short in omega arith

no_rule : (d : Declared) (hs : List Sign) (ms : List (Option Text)) (cs : List FormClause) (o : Option (Refusal × ℕ)) → cs ≡ [] → RulesRefusal d hs ms cs o → o ≡ None
no_rule d hs ms _ o z load.none = refl
no_rule d hs ms _ o z (load.skip h r) = absurd (cc)
no_rule d hs ms _ o z (load.directive r) = absurd (cc)
no_rule d hs ms _ o z (load.passes h b r) = absurd (cc)
no_rule d hs ms _ o z (load.refused h b) = absurd (cc)

no_fact : (b c : Circuits) (cs : List FormClause) (o : Option (FactRefusal × ℕ)) → cs ≡ [] → FactsRead b cs o c → o ≡ None
no_fact b c _ o z no_facts = refl
no_fact b c _ o z (facts.no_fact h r) = absurd (cc)
no_fact b c _ o z (facts.a_fact d h r s) = absurd (cc)
no_fact b c _ o z (facts.refused h r) = absurd (cc)

longest_not_refused : (r : Refused) → FileRefused (spaces limit) r → ⊥
longest_not_refused r (out.long h) = let k : limit < limit = subst (λ n. limit < n) (count limit 32) h in omega arith
longest_not_refused r (unread x h i e) = not_refused ReadsClause no_clause limit x r i e
longest_not_refused r (directive cs e h i k s) =
    let none : None ≡ Some e = ap (λ cs. (directives cs).refusal) (sym (read_none ReadsClause no_clause limit cs i)) ∙ k in cc
longest_not_refused r (rule cs d e h i k s t) = let z = no_rule d _ _ cs (Some e) (read_none ReadsClause no_clause limit cs i) s in cc
longest_not_refused r (a_fact cs d e c h i k s f t) = let z = no_fact no_circuits c cs (Some e) (read_none ReadsClause no_clause limit cs i) f in cc

checked : Output check_words (spaces limit) [] (lines_text (codes "checked: 0 clauses, 0 modules" ∷ [])) outcome.Done
unfolding digits
checked = record { lines = codes "checked: 0 clauses, 0 modules" ∷ []; says = inr (empty, (longest_file, (refl, refl))); is = refl }

long_file : limit < length (spaces 4194305)
long_file = subst (λ n. limit < n) (sym (count 4194305 32)) (lit< tt)

file_too_long : Output check_words (spaces 4194305) [] (lines_text (codes "error: file too long" ∷ [])) (outcome.Refused 20)
file_too_long = record { lines = codes "error: file too long" ∷ []; says = inl (_, (out.long long_file, (refl, refl))); is = refl }

-- ---- the input

abbrev most : ℕ
most = 1048576

empty_file : IsLoaded [] empty
empty_file = record { short = lit≤ tt; reading = whole [] [] ended no_more (shallow [] refl); declares = refl; rules = load.none; facts = no_facts }

no_refusal : (qs : List FormQuery) (o : Option (Refusal × ℕ)) → qs ≡ [] → QueriesRefusal empty qs o → o ≡ None
no_refusal _ o z out.none = refl
no_refusal _ o z (out.passes h r) = absurd (cc)
no_refusal _ o z (out.stops h) = absurd (cc)

input_not_refused : (r : Refused) → InputRefused empty (spaces most) r → ⊥
input_not_refused _ (out.InputRefused.long h) = let k : most < most = subst (λ n. most < n) (count most 32) h in omega arith
input_not_refused _ (out.InputRefused.unread {r = r} x h i e) = not_refused ReadsQuery no_query most x r i e
input_not_refused _ (out.InputRefused.sorts qs e h i q k) = let z = no_refusal qs (Some e) (read_none ReadsQuery no_query most qs i) q in cc

longest_input : Output run_words [] (spaces most) [] outcome.Done
longest_input = record {
  lines = [];
  says = inr (empty, (empty_file, inr ([], false, subst (λ n. n ≤ most) (sym (count most 32)) (lit≤ tt), read_blank ReadsQuery most, out.none, no_queries, refl)));
  is = refl;
}

long_input : most < length (spaces 1048577)
long_input = subst (λ n. most < n) (sym (count 1048577 32)) (lit< tt)

input_too_long : Output run_words [] (spaces 1048577) (lines_text (codes "error: input too long" ∷ [])) (outcome.Refused 20)
input_too_long = record {
  lines = codes "error: input too long" ∷ [];
  says = inr (empty, (empty_file, inl (_, (out.InputRefused.long long_input, (refl, refl)))));
  is = refl;
}

pub rows_hold : LimitExamples
rows_hold = record {
  most_gates = most_gates;
  too_many_gates = too_many_gates;
  longest_file = longest_file;
  longest_not_refused = longest_not_refused;
  longer_not_loaded = longer_not_loaded;
  checked = checked;
  file_too_long = file_too_long;
  input_not_refused = input_not_refused;
  longest_input = longest_input;
  input_too_long = input_too_long;
}
