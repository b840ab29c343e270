-- Bits, and functions of them.
use Rattle.std.specs.List.{list_all, list_any}
use Rattle.std.specs.Prelude.{◌≡◌, ℕ, zero, suc, ◌+◌, ◌^◌, ◌<◌, Bool, true, false, not, ◌&&◌, ◌||◌, if◌then◌else◌, ◌==◌, List, [], ◌∷◌, ◌++◌, map, length, get_or}

-- a bit for each number: an assignment of the constants, or the bits of the Boolean variables
abbrev pub Bits : Type 0
Bits = ℕ → Bool

-- the bits of a list, and 0 past its end
abbrev pub bits_of : List Bool → Bits
bits_of xs n = get_or xs n false

-- the numbers from n on, as many as the second
abbrev pub numbers_from : ℕ → ℕ → List ℕ
numbers_from n zero = []
numbers_from n (suc k) = n ∷ numbers_from (suc n) k

-- the numbers below n
abbrev pub numbers : ℕ → List ℕ
numbers = numbers_from 0

-- the bits below n, in order
abbrev pub first_bits : ℕ → Bits → List Bool
first_bits n a = map a (numbers n)

-- the same bits but for one
abbrev pub put : ℕ → Bool → Bits → Bits
put n x a = λ k. if k == n then x else a k

-- bits that agree below n
abbrev pub AgreeBelow : ℕ → Bits → Bits → Type 0
AgreeBelow n a b = (k : ℕ) → k < n → a k ≡ b k

-- the other bit where the first is 1
abbrev pub xor : Bool → Bool → Bool
xor true c = not c
xor false c = c

-- whether all bits are 1, whether one at least is, and whether an odd number is
abbrev pub all_of : List Bool → Bool
all_of xs = list_all (λ x. x) xs

-- whether one bit at least is 1
abbrev pub some_of : List Bool → Bool
some_of xs = list_any (λ x. x) xs

-- whether an odd number of bits is 1
abbrev pub odd_of : List Bool → Bool
odd_of [] = false
odd_of (x ∷ xs) = xor x (odd_of xs)

-- all lists of n bits, the least first: 0 before 1, and the first bit weighs most
abbrev pub rows : ℕ → List (List Bool)
rows zero = [] ∷ []
rows (suc n) = map (λ r. false ∷ r) (rows n) ++ map (λ r. true ∷ r) (rows n)

-- the number that a row of bits writes, the first bit weighing most
abbrev pub weight : List Bool → ℕ
weight [] = 0
weight (x ∷ xs) = (if x then 2 ^ length xs else 0) + weight xs

-- the fact holds of each element
abbrev pub Each : {A : Type 0} → (A → Type 0) → List A → Type 0
Each P [] = Unit {0}
Each P (x ∷ xs) = P x × Each P xs

-- the list is parted, in order, into the elements of which the fact holds and the others
pub data Parts {A : Type 0} (P : A → Type 0) : List A → List A → List A → Type 0 where
  none : Parts P [] [] []
  yes_here : {x : A} {xs ys zs : List A} → P x → Parts P xs ys zs → Parts P (x ∷ xs) (x ∷ ys) zs
  no_here : {x : A} {xs ys zs : List A} → (P x → ⊥) → Parts P xs ys zs → Parts P (x ∷ xs) ys (x ∷ zs)

-- whether some list of n bits passes the test, and whether each does
abbrev pub some_bits : ℕ → (List Bool → Bool) → Bool
some_bits zero p = p []
some_bits (suc n) p = some_bits n (λ r. p (false ∷ r)) || some_bits n (λ r. p (true ∷ r))

-- whether each list of n bits passes the test
abbrev pub every_bits : ℕ → (List Bool → Bool) → Bool
every_bits zero p = p []
every_bits (suc n) p = every_bits n (λ r. p (false ∷ r)) && every_bits n (λ r. p (true ∷ r))
