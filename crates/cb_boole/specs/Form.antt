-- The values of a store's variables as a parametric form: each takes its own level's bit wherever the range allows that.
use Rattle.std.specs.Prelude.{◌≡◌, ◌⊎◌, ℕ, suc, ◌<◌, ◌≤◌, List, [], ◌∷◌, map, Option, Some}
use Rattle.std.specs.Option.{option_map_or}
use Rattle.cb_model.specs.Bits.{Bits}
use Rattle.cb_boole.specs.Elimination.{Function, DependsOnly}
use Rattle.cb_boole.specs.View.{View, Agrees}

-- the variables of lower levels have the same bits at both
abbrev pub AreSameBelow : View → ℕ → Bits → Bits → Type 0
AreSameBelow S l p q = (k y : ℕ) → S.stands k ≡ Some y → k < l → S.values y p ≡ S.values y q

-- Each variable depends on no greater level than its own. And it has its own level's bit wherever some bits of the levels,
-- with the same constants and the same bits of the variables before it, give it that bit.
pub record IsForm (S : View) : Type 0 where
  pub own : (l x : ℕ) → S.stands l ≡ Some x → DependsOnly (λ k. k ≤ l) (S.values x)
  pub picks : (l x : ℕ) → S.stands l ≡ Some x → (p q : Bits) → Agrees S p q → AreSameBelow S l p q →
      S.values x q ≡ p l → S.values x p ≡ p l

-- ---- answers from such a store: no elimination, the levels' names alone change

-- for each level the parameter's level that takes its place, if one does
abbrev pub Names : Type 0
Names = ℕ → Option ℕ

-- the bits where each level with a parameter has the parameter's bit
abbrev pub named : Names → Bits → Bits
named at p l = option_map_or p (at l) (p l)

-- the values of these slots
abbrev pub values_of : View → List ℕ → List Function
values_of S slots = map S.values slots

-- The value of slot x, whose parameter has level u, depends on the constants and on the levels with parameters up to u
-- alone. The level that has the parameter u, if there is one, stands for x.
pub record IsSettledLeaf (S : View) (at : Names) (u x : ℕ) : Type 0 where
  pub depends : DependsOnly (λ k. (k < S.constants) ⊎ ((v : ℕ) × (at k ≡ Some v) × (v ≤ u))) (S.values x)
  pub stands : (l : ℕ) → at l ≡ Some u → S.stands l ≡ Some x

-- the same of slots whose parameters have levels from u on
abbrev pub AreSettled : View → Names → ℕ → List ℕ → Type 0
AreSettled S at u [] = Unit {0}
AreSettled S at u (x ∷ xs) = IsSettledLeaf S at u x × AreSettled S at (suc u) xs
