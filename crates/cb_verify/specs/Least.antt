-- The least row of bits at which a function is 1.
use Rattle.std.specs.Prelude.{◌≡◌, ℕ, ◌≤◌, nat_lt, Bool, true, false, if◌then◌else◌, List, map, length, Option, Some, None, Vec}
use Rattle.cb_model.specs.Bits.{Bits, weight}

-- a row, if there is one
abbrev pub row_of : {A : Type 0} → Option (Vec Bool A) → Option (List Bool)
row_of None = None
row_of (Some v) = Some v.items

-- the row of less weight, where there are two
abbrev pub lesser_of : Option (List Bool) → Option (List Bool) → Option (List Bool)
lesser_of None q = q
lesser_of (Some x) None = Some x
lesser_of (Some x) (Some y) = Some (if nat_lt (weight y) (weight x) then y else x)

-- None where the function is 0 everywhere; else the bits of these levels at which it is 1, of the least weight
abbrev pub LeastOf : List ℕ → (Bits → Bool) → Option (List Bool) → Type 0
LeastOf ls f None = (a : Bits) → f a ≡ false
LeastOf ls f (Some row) = (length row ≡ length ls) × ((a : Bits) → map a ls ≡ row → f a ≡ true) × ((a : Bits) → f a ≡ true → weight row ≤ weight (map a ls))
