-- Renaming apart, by values.
use Rattle.std.specs.Prelude.{◌≡◌, ℕ, ◌+◌, List, [], ◌∷◌}
use Rattle.cb_model.specs.declared.Tree.{Tree}
use Rattle.cb_model.specs.declared.Goal.{Goal}
use Rattle.cb_model.specs.declared.Goal.TheVariants as goal
use Rattle.cb_model.specs.Bits.{Bits}
use Rattle.cb_model.specs.Values.{Valuation, tree_value}

-- each variable is read under the number that is k higher
abbrev pub shifted : ℕ → Valuation → Valuation
shifted k v = record { bits = λ n. v.bits (k + n); words = λ n. v.words (k + n); terms = λ n. v.terms (k + n) }

-- the second tree is the first with variables k higher, by its values
abbrev pub IsShifted : ℕ → Tree → Tree → Type 0
IsShifted k x y = (a : Bits) (v : Valuation) → tree_value a v y ≡ tree_value a (shifted k v) x

-- the same of trees in order
abbrev pub AreShifted : ℕ → List Tree → List Tree → Type 0
AreShifted k [] [] = Unit {0}
AreShifted k (x ∷ xs) (y ∷ ys) = IsShifted k x y × AreShifted k xs ys
AreShifted k _ _ = ⊥

-- the same of goals; those of circuits are left out
abbrev pub IsShiftedGoal : ℕ → Goal → Goal → Type 0
IsShiftedGoal k goal.True goal.True = Unit {0}
IsShiftedGoal k goal.Fail goal.Fail = Unit {0}
IsShiftedGoal k (goal.Equal l r) (goal.Equal l' r') = IsShifted k l l' × IsShifted k r r'
IsShiftedGoal k (goal.Call n xs) (goal.Call m ys) = (n ≡ m) × AreShifted k xs ys
IsShiftedGoal k _ _ = ⊥
