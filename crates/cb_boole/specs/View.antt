-- What contracts see of a store of Boolean variables, and its range.
use Rattle.std.specs.Prelude.{◌≡◌, ℕ, ◌<◌, Bool, List, Option, Some, None, ◌⊎◌, cond, eqb}
use Rattle.cb_model.specs.Bits.{Bits}
use Rattle.cb_boole.specs.Elimination.{Function, solved, DependsOnly}

-- constants 0 up to a number, for each free level the variable that it stands for (a slot's number),
-- which slots are variables, and the slots' values
pub record View : Type 1 where
  pub constants : ℕ
  pub stands : ℕ → Option ℕ
  pub IsVariable : ℕ → Type 0
  pub values : ℕ → Function

-- a constant or a free level
abbrev pub IsLive : View → ℕ → Type 0
IsLive S l = (l < S.constants) ⊎ ((x : ℕ) × (S.stands l ≡ Some x))

abbrev pub bit_of : Option ℕ → Bool → (ℕ → Bool) → Bool
bit_of None own b = own
bit_of (Some x) own b = b x

-- the point of an assignment and a valuation: each free level has the bit of its variable
unfoldable pub point : (ℕ → Option ℕ) → Bits → (ℕ → Bool) → Bits
point stands a b l = bit_of (stands l) (a l) b

abbrev pub Agrees : View → Bits → Bits → Type 0
Agrees S a p = (k : ℕ) → k < S.constants → p k ≡ a k

-- the values of the variables' slots at a give b for some bits of the free levels
pub record InRange (S : View) (a : Bits) (b : ℕ → Bool) : Type 0 where
  pub at : Bits
  pub agrees : Agrees S a at
  pub gives : (x : ℕ) → S.IsVariable x → S.values x at ≡ b x

-- the point where each free level gets the bit which the slot of its variable has
abbrev pub back : View → Bits → Bits
back S p = point S.stands p (λ x. S.values x p)

-- the condition on a node that is handed to the store
pub record IsFit (S : View) (f : Function) : Type 0 where
  pub only : DependsOnly (IsLive S) f
  pub kept : (p : Bits) → f (back S p) ≡ f p

pub record IsGood (S : View) : Type 0 where
  pub above : (l x : ℕ) → S.stands l ≡ Some x → l < S.constants → ⊥
  pub variable : (l x : ℕ) → S.stands l ≡ Some x → S.IsVariable x
  pub single : (k l x : ℕ) → S.stands k ≡ Some x → S.stands l ≡ Some x → k ≡ l
  pub fit : (x : ℕ) → IsFit S (S.values x)

-- the store after an equation f = 0, with these levels eliminated
abbrev pub unified : View → List ℕ → Function → View
unified S ls f = record {
  constants = S.constants;
  stands = S.stands;
  IsVariable = S.IsVariable;
  values = λ x p. S.values x (solved ls f p);
}

-- the function with another value at one number
unfoldable pub with_at {ℓ} : {A : Type ℓ} → (ℕ → A) → ℕ → A → (ℕ → A)
with_at f n v k = cond (eqb k n) v (f k)

-- the store after a new variable: a slot, whose value is a new free level that stands for it
abbrev pub with_variable : View → ℕ → ℕ → View
with_variable S l x = record {
  constants = S.constants;
  stands = with_at S.stands l (Some x);
  IsVariable = λ y. S.IsVariable y ⊎ (y ≡ x);
  values = with_at S.values x (λ p. p l);
}

-- the store after a new slot that is no variable
abbrev pub with_slot : View → ℕ → Function → View
with_slot S x f = record {
  constants = S.constants;
  stands = S.stands;
  IsVariable = S.IsVariable;
  values = with_at S.values x f;
}
