-- A file is refused or accepted, and not both; its clauses are one list.
use Rattle.std.proofs.Common.{◌≡◌, ◌⊎◌, ℕ, zero, suc, ◌<◌, Bool, true, false, ◌||◌, MatchBool, List, [], ◌∷◌, drop, get_or, Option, Some, None, All, refl, sym, ap, subst, ◌∙◌, inl, inr, arith}
use Rattle.std.specs.List.{list_any}
use Rattle.std.proofs.lemmas.List.{take-append-drop}
use Rattle.std.proofs.lemmas.Bool.{true≢false}
use Rattle.cb_model.specs.Text.{Text}
use Rattle.cb_model.specs.Tokens.{Token, Lexes}
use Rattle.cb_model.specs.Grammar.{FormClause, Reading, Whole, IsReading, whole, lexed, syntax_at, deep_at, unfinished, ReadsClause, ReadsAll, nestings}
use Rattle.cb_model.specs.Directives.{Sign, Declared, Refusal, Checked, Twice, Unknown, SortClash, directives, heads}
use Rattle.cb_model.specs.Sorts.{Body, Clash}
use Rattle.cb_model.specs.Loading.{is_fact, is_taken, goal_unknown, body_of, module_names, BodyRefusal, RulesRefusal, none, skip, directive, passes, refused}
use Rattle.cb_model.specs.Refusals.{Refused}
use Rattle.cb_model.specs.Facts.{FactRefusal, FactsRead, no_circuits, no_facts, no_fact}
use Rattle.cb_model.specs.Output as output
use Rattle.cb_model.specs.Output.{Loaded, IsLoaded, FileRefused, reading_refused}
use Rattle.cb_lex.proofs.OneList.{one_list}
use Rattle.cb_laws.proofs.OneReading.{clauses_are_one}
use Rattle.cb_laws.proofs.OneFacts.{facts-are-one}

-- ---- the reading

-- what a whole reading has
record IsWhole (file : Text) (cs : List FormClause) : Type 0 where
  pub ts : List Token
  pub lexes : Lexes 0 1 file ts None
  pub reads : ReadsAll ReadsClause ts cs
  pub shallow : All (λ n. n < 257) (nestings (0 ∷ []) ts)

is-whole : (file : Text) (cs : List FormClause) → IsReading ReadsClause file (Whole cs) → IsWhole file cs
is-whole file cs (whole ts xs l r n) = record { ts = ts; lexes = l; reads = r; shallow = n }

-- the clauses of a file are one list
pub clauses-one : (file : Text) (cs bs : List FormClause) → IsReading ReadsClause file (Whole cs) → IsReading ReadsClause file (Whole bs) → cs ≡ bs
clauses-one file cs bs h k =
    let a = is-whole file cs h in
    let b = is-whole file bs k in
    let e = one_list a.lexes b.lexes in
    clauses_are_one b.ts cs bs (subst (λ ts. ReadsAll ReadsClause ts cs) e.0 a.reads) b.reads

-- no nesting is past the limit
below : (ns : List ℕ) (k : ℕ) → All (λ n. n < 257) ns → get_or ns k 0 ≡ 257 → ⊥
below [] k s d = absurd (omega arith)
below (n ∷ ns) zero s d = let h : n < 257 = s 0 0 (omega arith) in absurd (omega arith)
below (n ∷ ns) (suc k) s d = below ns k (λ j x h. s (suc j) x (omega arith)) d

-- a text that is read whole has no fault
no-fault : (file : Text) (cs : List FormClause) (x : Reading FormClause) (r : Refused) → IsWhole file cs → IsReading ReadsClause file x → reading_refused x ≡ Some r → ⊥
no-fault file cs x r a (whole ts xs l h n) e = absurd (cc)
no-fault file cs x r a (lexed ts f l) e = absurd (let p = (one_list a.lexes l).1 in cc)
no-fault file cs x r a (syntax_at ts k l w d n) e =
    let ts_are = (one_list a.lexes l).0 in
    let reads : ReadsAll ReadsClause ts cs = subst (λ us. ReadsAll ReadsClause us cs) ts_are a.reads in
    w.wrong (drop (suc k) ts, cs, subst (λ us. ReadsAll ReadsClause us cs) (sym (take-append-drop (suc k) ts)) reads)
no-fault file cs x r a (deep_at ts k l w g n) e =
    below (nestings (0 ∷ []) ts) k (subst (λ us. All (λ n. n < 257) (nestings (0 ∷ []) us)) (one_list a.lexes l).0 a.shallow) w.deep
no-fault file cs x r a (unfinished ts l g n d m) e = n cs (subst (λ us. ReadsAll ReadsClause us cs) (one_list a.lexes l).0 a.reads)

-- ---- the rules

abbrev no_refusal : Option Refusal
no_refusal = None

two-refusals : (x y : Bool) (C : Type 0) (r : Refusal) → MatchBool x (no_refusal ≡ Some Twice) (MatchBool y (no_refusal ≡ Some Unknown) ((C × (no_refusal ≡ Some SortClash)) ⊎ ((C → ⊥) × (no_refusal ≡ None)))) →
    MatchBool x (Some r ≡ Some Twice) (MatchBool y (Some r ≡ Some Unknown) ((C × (Some r ≡ Some SortClash)) ⊎ ((C → ⊥) × (Some r ≡ None)))) → ⊥
two-refusals true y C r h k = absurd (cc)
two-refusals false true C r h k = absurd (cc)
two-refusals false false C r (inl p) k = absurd (let e = p.1 in cc)
two-refusals false false C r (inr p) (inl q) = p.0 q.0
two-refusals false false C r (inr p) (inr q) = absurd (let e = q.1 in cc)

body-not : (d : Declared) (hs : List Sign) (ms : List (Option Text)) (b : Body) (r : Refusal) → BodyRefusal d hs ms b None → BodyRefusal d hs ms b (Some r) → ⊥
body-not d hs ms b r h k = two-refusals (is_taken b.head) (list_any (goal_unknown d hs ms) b.goals) (Clash d b) r h k

fact-not : (c : FormClause) → is_fact c ≡ true → is_fact c ≡ false → ⊥
fact-not c t f = true≢false (sym t ∙ f)

-- rules are refused or not
rules-not : {d : Declared} {hs : List Sign} {ms : List (Option Text)} {cs : List FormClause} {e : Refusal × ℕ} → RulesRefusal d hs ms cs None → RulesRefusal d hs ms cs (Some e) → ⊥
rules-not none k = elim k [ ]
rules-not (skip t h) (skip u k) = rules-not h k
rules-not (skip t h) (directive k) = absurd (cc)
rules-not (skip {c = c} t h) (passes f b k) = fact-not c t f
rules-not (skip {c = c} t h) (refused f b) = fact-not c t f
rules-not (directive h) (skip u k) = absurd (cc)
rules-not (directive h) (directive k) = rules-not h k
rules-not (passes f b h) (skip {c = c} u k) = fact-not c u f
rules-not (passes f b h) (passes g c k) = rules-not h k
rules-not {d} {hs} {ms} (passes {f = x} {gs = gs} f b h) (refused {r = r} g c) = body-not d hs ms (body_of x gs) r b c

-- ---- the file

abbrev no_error : Option (Refusal × ℕ)
no_error = None

abbrev no_fault : Option (FactRefusal × ℕ)
no_fault = None

-- clauses that are accepted have no refusal
directives-not : (l : Loaded) (e : Refusal × ℕ) → directives l.clauses ≡ record { refusal = None; declared = l.declared } → (directives l.clauses).refusal ≡ Some e → ⊥
directives-not l e d h = let p : no_error ≡ Some e = sym (ap (λ (x : Checked). x.refusal) d) ∙ h in cc

-- what is said of the clauses of one reading holds of those of the other
over : (file : Text) (cs : List FormClause) (l : Loaded) (P : List FormClause → Type 0) → IsReading ReadsClause file (Whole cs) → IsLoaded file l → P cs → P l.clauses
over file cs l P r i h = subst P (clauses-one file cs l.clauses r i.reading) h

-- the directives of accepted clauses declare one thing
declared-one : (l : Loaded) (d : Declared) → directives l.clauses ≡ record { refusal = None; declared = l.declared } → directives l.clauses ≡ record { refusal = None; declared = d } → d ≡ l.declared
declared-one l d e h = ap (λ (x : Checked). x.declared) (sym h ∙ e)

-- a refused file isn't accepted
pub refused-not-loaded : (file : Text) (r : Refused) → FileRefused file r → (l : Loaded) → IsLoaded file l → ⊥
refused-not-loaded file r (output.long h) l i = let s = i.short in absurd (omega arith)
refused-not-loaded file r (output.unread x s h e) l i = no-fault file l.clauses x r (is-whole file l.clauses i.reading) h e
refused-not-loaded file r (output.directive cs e s h k p) l i = directives-not l e i.declares (over file cs l (λ xs. (directives xs).refusal ≡ Some e) h i k)
refused-not-loaded file r (output.rule cs d e s h k n p) l i =
    let same = declared-one l d i.declares (over file cs l (λ xs. directives xs ≡ record { refusal = None; declared = d }) h i k) in
    rules-not i.rules
    (subst (λ x. RulesRefusal x (heads l.clauses) (module_names l.clauses) l.clauses (Some e)) same (over file cs l (λ xs. RulesRefusal d (heads xs) (module_names xs) xs (Some e)) h i n))
refused-not-loaded file r (output.a_fact cs d e c s h k n f p) l i =
    let q : no_fault ≡ Some e = (facts-are-one i.facts (over file cs l (λ xs. FactsRead no_circuits xs (Some e) c) h i f)).0 in cc

-- clauses without facts have no circuits
pub read_none : (cs : List FormClause) → list_any is_fact cs ≡ false → FactsRead no_circuits cs None no_circuits
read_none [] h = no_facts
read_none (c ∷ cs) h = step (is_fact c) refl h (read_none cs)
  where
    step : (b : Bool) → is_fact c ≡ b → (b || list_any is_fact cs) ≡ false → (list_any is_fact cs ≡ false → FactsRead no_circuits cs None no_circuits) → FactsRead no_circuits (c ∷ cs) None no_circuits
    step true e k rest = absurd (cc)
    step false e k rest = no_fact e (rest k)
