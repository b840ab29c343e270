-- What the operations on diagrams promise.
use Rattle.std.specs.Prelude.{◌≡◌, ◌≢◌, ℕ, ◌+◌, ◌*◌, ◌<◌, ◌≤◌, ◌^◌, Bool, true, false, List, [], ◌∷◌, ◌++◌, map, length, if◌then◌else◌}
use Rattle.cb_model.specs.Bits.{Bits, put, weight, xor}
use Rattle.cb_model.specs.Outside.{Rose}
use Rattle.cb_dd.specs.declared.Triple.{Triple}
use Rattle.cb_dd.specs.Diagram.{Store, IsNode, function_of, level_of}

-- the new store has the old one's triples in their places, and perhaps more after them
pub record Grows (old new : Store) : Type 0 where
  pub budget : new.budget ≡ old.budget
  pub more : List Triple
  pub triples : new.triples ≡ old.triples ++ more
  pub fulls : old.fulls ≤ new.fulls

-- node n has this function
pub record StandsFor (ts : List Triple) (n : ℕ) (f : Bits → Bool) : Type 0 where
  pub at : (a : Bits) → function_of ts n a ≡ f a

-- two assignments agree at the levels of the list
abbrev pub Agree : List ℕ → Bits → Bits → Type 0
Agree [] a b = Unit {0}
Agree (l ∷ ls) a b = (a l ≡ b l) × Agree ls a b

-- the node's function depends on the levels of the list alone
pub record DependsOn (ts : List Triple) (n : ℕ) (ls : List ℕ) : Type 0 where
  pub agrees : (a b : Bits) → Agree ls a b → function_of ts n a ≡ function_of ts n b

-- the node's function is the same for both bits at the level
abbrev pub IsFree : List Triple → ℕ → ℕ → Type 0
IsFree ts n l = (a : Bits) (b : Bool) → function_of ts n (put l b a) ≡ function_of ts n a

-- each of these nodes depends on the levels of the list alone
abbrev pub DependAll : List Triple → List ℕ → List ℕ → Type 0
DependAll ts [] ls = Unit {0}
DependAll ts (n ∷ ns) ls = DependsOn ts n ls × DependAll ts ns ls

-- a call on these nodes adds fewer nodes than so many times the rows of the levels on which they depend
pub record Room (ns : List ℕ) (times : ℕ) (old new : Store) : Type 0 where
  pub most : (ls : List ℕ) → DependAll old.triples ns ls → length new.triples + times ≤ length old.triples + times * 2 ^ length ls

-- a stop for nodes has its cause: the count of refusals rose, and the budget is below the nodes at the call and those that it may add
pub record HasCause (ns : List ℕ) (times : ℕ) (old new : Store) : Type 0 where
  pub rose : Rose old.fulls new.fulls
  pub below : (ls : List ℕ) → DependAll old.triples ns ls → old.budget < length old.triples + times * 2 ^ length ls

-- node r is node g where node f is 1, and node h where it is 0
abbrev pub IsIte : List Triple → List Triple → ℕ → ℕ → ℕ → ℕ → Type 0
IsIte old new f g h r = StandsFor new r (λ a. if function_of old f a then function_of old g a else function_of old h a)

-- node r is 1 where exactly one of f and g is
abbrev pub IsXor : List Triple → List Triple → ℕ → ℕ → ℕ → Type 0
IsXor old new f g r = StandsFor new r (λ a. xor (function_of old f a) (function_of old g a))

-- node r is node n with the bit at a level that is below the level of r
pub record IsCofactor (ts : List Triple) (n level : ℕ) (bit : Bool) (r : ℕ) : Type 0 where
  pub node : IsNode ts r
  pub above : level < level_of ts r
  pub function : (a : Bits) → function_of ts r a ≡ function_of ts n (put level bit a)

-- the bits, given to the levels in order, make the node true; and no assignment that makes it true gives the levels bits of less weight
pub record IsLeastTrue (ts : List Triple) (n : ℕ) (levels : List ℕ) (bits : List Bool) : Type 0 where
  pub as_many : length bits ≡ length levels
  pub makes_true : (a : Bits) → map a levels ≡ bits → function_of ts n a ≡ true
  pub least : (a : Bits) → function_of ts n a ≡ true → weight bits ≤ weight (map a levels)

-- node r isn't 0 everywhere, and is node n with the bit at the level; the bit is 1 only where n is 0 with the other
pub record IsLeastSide (ts : List Triple) (n level : ℕ) (bit : Bool) (r : ℕ) : Type 0 where
  pub cofactor : IsCofactor ts n level bit r
  pub some : r ≢ 0
  pub other : bit ≡ true → (a : Bits) → function_of ts n (put level false a) ≡ false
