-- From the machine's answer on all tokens to the grammar's.
use Rattle.std.proofs.Common.{◌≡◌, ℕ, suc, ◌<◌, ◌≤◌, List, [], ◌∷◌, ◌++◌, length, take, refl, sym, ap, subst, arith, ⊎_elim}
use Rattle.std.proofs.lemmas.List.Elements.{All-from_get_or}
use Rattle.std.proofs.lemmas.Bool.{cases_lt}
use Rattle.cb_model.specs.Tokens.{Token}
use Rattle.cb_model.specs.Grammar.{nest, nestings, ReadsAll, no_more, one_more, CanGoOn, FirstDeep, ReadsClause, ReadsQuery}
use Rattle.cb_syntax.specs.Machine.{Item, Clauses, Queries, Outcome, run}
use Rattle.cb_syntax.specs.Machine as out
use Rattle.cb_syntax.specs.declared.read.Stop.{Stop}
use Rattle.cb_syntax.specs.declared.read.Stop.TheVariants.{Memory, Ended, Wrong, Deep}
use Rattle.cb_syntax.specs.Answers.{Agrees, IsText, NoText}
use Rattle.cb_syntax.proofs.Parts.{ReadsMany, no_piece, a_piece, Holds}
use Rattle.cb_syntax.proofs.Stack.{Good}
use Rattle.cb_syntax.proofs.Run.{Says, says, CanGo, Shallow}

to_all : {A : Type 0} {R : List Token → List Token → A → Type 0} (ts us : List Token) → ReadsMany R ts us → us ≡ [] → (xs : List A) × ReadsAll R ts xs
to_all {R = R} ts us no_piece e = ([], subst (λ vs. ReadsAll R vs []) (sym e) no_more)
to_all ts us (a_piece vs x r m) e = let p = to_all vs us m e in (x ∷ p.0, one_more vs r p.1)

from_all : {A : Type 0} {R : List Token → List Token → A → Type 0} (ts : List Token) (xs : List A) → ReadsAll R ts xs → ReadsMany R ts []
from_all ts [] no_more = no_piece
from_all ts (x ∷ xs) (one_more us r m) = a_piece us x r (from_all us xs m)

long : (ns : List ℕ) (ts : List Token) → length (nestings ns ts) ≡ length ts
long ns [] = refl
long ns (t ∷ ts) = ap suc (long (nest t.kind ts ns) ts)

-- no token is the first that is too deep, before a place up to which the nesting is in the limit
not_deep : (ts : List Token) (k j : ℕ) → Shallow (0 ∷ []) ts k → FirstDeep ts j → k ≤ j
not_deep ts k j s d = ⊎_elim (λ lt. let h = s j lt in let e = d.deep in absurd (omega arith)) (λ le. le) (cases_lt j k)

-- the items that read a whole text of pieces
pub record Starts {A : Type 0} (R : List Token → List Token → A → Type 0) (is : List Item) : Type 0 where
  pub good : Good is
  pub to : (ts : List Token) → Holds is ts → ReadsMany R ts []
  pub from : (ts : List Token) → ReadsMany R ts [] → Holds is ts

pub clauses_start : Starts ReadsClause (Clauses ∷ [])
clauses_start = record { good = (refl, tt); to = λ ts h. subst (λ us. ReadsMany ReadsClause ts us) h.2 h.1; from = λ ts m. ([], m, refl) }

pub queries_start : Starts ReadsQuery (Queries ∷ [])
queries_start = record { good = (refl, tt); to = λ ts h. subst (λ us. ReadsMany ReadsQuery ts us) h.2 h.1; from = λ ts m. ([], m, refl) }

module _ (A : Type 0) (R : List Token → List Token → A → Type 0) (is : List Item) (start : Starts R is) where
  go_on : (ts : List Token) → CanGo is ts → CanGoOn R ts
  go_on ts g = let p = to_all (ts ++ g.0) [] (start.to (ts ++ g.0) g.1) refl in (g.0, p.0, p.1)

  goes : (ts : List Token) → CanGoOn R ts → CanGo is ts
  goes ts g = (g.0, start.from (ts ++ g.0) (from_all (ts ++ g.0) g.1 g.2))

  answer : (ts : List Token) (o : Outcome) (e : Stop) → Agrees e o → Says o is (0 ∷ []) ts → NoText R ts e
  answer ts o Memory a s = tt
  answer ts o Ended a s =
      let r : Says out.Ended is (0 ∷ []) ts = subst (λ p. Says p is (0 ∷ []) ts) a s in
      (go_on ts r.0, λ xs h. r.1 (start.from ts (from_all ts xs h)), λ k d. let h = r.2 k d.within in let e = d.deep in omega arith)
  answer ts o (Wrong n) a s =
      let r : Says (out.Wrong n) is (0 ∷ []) ts = subst (λ p. Says p is (0 ∷ []) ts) a s in
      let w = r.1 in
      (r.0, w.place, record { within = w.within; before = go_on (take r.0 ts) w.before; wrong = λ g. w.wrong (goes (take (suc r.0) ts) g) }, λ j d. not_deep ts r.0 j w.shallow d)
  answer ts o (Deep n) a s =
      let r : Says (out.Deep n) is (0 ∷ []) ts = subst (λ p. Says p is (0 ∷ []) ts) a s in
      let w = r.1 in
      (r.0, w.place, record { within = w.within; deep = w.deep; before = w.shallow }, go_on (take (suc r.0) ts) w.before)

  pub stopped : (ts : List Token) (e : Stop) → Agrees e (run is (0 ∷ []) ts) → NoText R ts e
  stopped ts e a = answer ts (run is (0 ∷ []) ts) e a (says is start.good (0 ∷ []) (omega arith) ts)

  pub whole : (ts : List Token) (xs : List A) → ReadsAll R ts xs → run is (0 ∷ []) ts ≡ out.Whole → IsText R ts xs
  whole ts xs r e =
      let s : Says out.Whole is (0 ∷ []) ts = subst (λ p. Says p is (0 ∷ []) ts) e (says is start.good (0 ∷ []) (omega arith) ts) in
      record { reads = r; shallow = All-from_get_or (λ n. n < 257) (nestings (0 ∷ []) ts) 0 (λ i lt. s.1 i (let l = long (0 ∷ []) ts in omega arith)) }
