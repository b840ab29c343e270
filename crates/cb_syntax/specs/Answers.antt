-- What the reading functions answer about tokens.
use Rattle.std.specs.Prelude.{◌≡◌, ℕ, suc, ◌+◌, ◌<◌, ◌≤◌, List, [], ◌∷◌, length, take, All}
use Rattle.cb_model.specs.Tokens.{Token}
use Rattle.cb_model.specs.Grammar.{nestings, ReadsAll, CanGoOn, FirstWrong, FirstDeep}
use Rattle.cb_syntax.specs.Machine.{Item, Outcome, run}
use Rattle.cb_syntax.specs.Machine as out
use Rattle.cb_syntax.specs.declared.read.Stop.{Stop}
use Rattle.cb_syntax.specs.declared.read.Stop.TheVariants.{Memory, Ended, Wrong, Deep}

-- the outcome is what made a function stop
abbrev pub Agrees : Stop → Outcome → Type 0
Agrees Memory o = Unit {0}
Agrees Ended o = o ≡ out.Ended
Agrees (Wrong n) o = o ≡ out.Wrong n
Agrees (Deep n) o = o ≡ out.Deep n

-- ---- what callers see

-- the tokens are these pieces, in the limit
pub record IsText {A : Type 0} (R : List Token → List Token → A → Type 0) (ts : List Token) (xs : List A) : Type 0 where
  pub reads : ReadsAll R ts xs
  pub shallow : All (λ n. n < 257) (nestings (0 ∷ []) ts)

-- the tokens are no pieces, for this cause, first at the token from which so many are left
abbrev pub NoText : {A : Type 0} → (List Token → List Token → A → Type 0) → List Token → Stop → Type 0
NoText R ts Memory = Unit {0}
NoText {A} R ts Ended = CanGoOn R ts × ((xs : List A) → ReadsAll R ts xs → ⊥) × ((k : ℕ) → FirstDeep ts k → ⊥)
NoText R ts (Wrong left) = (k : ℕ) × (k + left ≡ length ts) × FirstWrong R ts k × ((j : ℕ) → FirstDeep ts j → k ≤ j)
NoText R ts (Deep left) = (k : ℕ) × (k + left ≡ length ts) × FirstDeep ts k × CanGoOn R (take (suc k) ts)
