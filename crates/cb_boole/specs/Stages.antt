-- The parametric form, found leaf by leaf.
use Rattle.std.specs.Prelude.{◌≡◌, ◌↔◌, ◌⊎◌, ℕ, suc, ◌+◌, ◌<◌, ◌≤◌, Bool, List, [], ◌∷◌, ◌++◌, map, length}
use Rattle.cb_model.specs.Bits.{Bits, Each, numbers_from, xor}
use Rattle.cb_model.specs.Answers.{Gen}
use Rattle.cb_boole.specs.Elimination.{Function, AreAlike, DependsOnly, IsAway, solved}
use Rattle.cb_boole.specs.Parametric.{values_at, Reaches, parametric}

-- a constant, or one of so many parameters from the level first on
abbrev pub IsSettled : ℕ → ℕ → ℕ → ℕ → Type 0
IsSettled constants first n k = (k < constants) ⊎ ((first ≤ k) × (k < first + n))

-- with the bits of the constants and of the parameters kept, some bits of the other levels give the functions these bits
pub record Goes (constants first n : ℕ) (fs : List Function) (p : Bits) (bits : List Bool) : Type 0 where
  pub at : Bits
  pub alike : AreAlike (IsSettled constants first n) at p
  pub gives : values_at fs at ≡ bits

-- each function depends on the constants and on the parameters up to its own
abbrev pub AreOwn : ℕ → ℕ → ℕ → List Function → Type 0
AreOwn constants first n [] = Unit {0}
AreOwn constants first n (g ∷ gs) = DependsOnly (IsSettled constants first (suc n)) g × AreOwn constants first (suc n) gs

-- after some leaves: the functions of these, and the others with the solutions put in
pub record IsStage (constants first : ℕ) (fs done left : List Function) : Type 0 where
  pub room : constants ≤ first
  pub own : AreOwn constants first 0 done
  pub below : Each (λ g. DependsOnly (λ k. k < first + length done) g) left
  pub gen : (p : Bits) → Gen (Reaches constants fs p) [] (map p (numbers_from first (length done))) (values_at done p)
  pub after : (p : Bits) (bits : List Bool) → Goes constants first (length done) left p bits ↔ Goes constants first 0 fs p (values_at done p ++ bits)

-- the levels are those on which the function of the next leaf depends, but for constants and parameters
pub record AreFor (constants first n : ℕ) (f : Function) (ls : List ℕ) : Type 0 where
  pub away : (k : ℕ) → IsSettled constants first (suc n) k → IsAway k ls
  pub depends : DependsOnly (λ k. IsSettled constants first n k ⊎ (IsAway k ls → ⊥)) f

-- 1 where the function isn't the parametric one
unfoldable pub misses : List ℕ → ℕ → Function → Function
misses ls u f p = xor (f p) (parametric ls u f p)

-- the functions with the solution put in
abbrev pub put_in : List ℕ → Function → List Function → List Function
put_in ls e gs = map (λ g p. g (solved ls e p)) gs
