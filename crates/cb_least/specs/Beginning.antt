-- The search for the least input at which a diagram is 1, where the inputs have levels in any order.
use Rattle.std.specs.Prelude.{◌≡◌, ◌⊎◌, ◌↔◌, ℕ, zero, suc, ◌+◌, ◌-◌, ◌<◌, ◌≤◌, nat_le, Bool, true, false, ◌&&◌, if◌then◌else◌, List, length, get_or, Some}
use Rattle.cb_model.specs.Bits.{Bits}
use Rattle.cb_dd.specs.declared.Triple.{Triple}
use Rattle.cb_dd.specs.declared.Node.{Node}
use Rattle.cb_dd.specs.Diagram.{IsNode, function_of, level_of, parts_of}
use Rattle.cb_levels.specs.Inverse.{IsInverse}

-- the assignment has these bits at the inputs below a number; `order` has the input of each level
abbrev pub Begins : List ℕ → List Bool → ℕ → Bits → Type 0
Begins order bits count a = (k : ℕ) → k < length order → get_or order k 0 < count → a k ≡ get_or bits (get_or order k 0) false

-- node n is 1 at some assignment that begins with these bits
abbrev pub CanBegin : List Triple → List ℕ → List Bool → ℕ → ℕ → Type 0
CanBegin ts order bits count n = (a : Bits) × (Begins order bits count a × (function_of ts n a ≡ true))

-- node n is 1 at some assignment that begins with the bits as far as a number exactly where it is below this one
pub record IsReach (ts : List Triple) (order : List ℕ) (bits : List Bool) (next n reach : ℕ) : Type 0 where
  pub low : reach ≤ length order + 1
  pub is : (count : ℕ) → next ≤ count → count ≤ length order → (count < reach) ↔ CanBegin ts order bits count n

-- no input from this one on has a bit yet
pub record AreBits (order : List ℕ) (bits : List Bool) (next : ℕ) : Type 0 where
  pub long : length bits ≡ length order
  pub within : next ≤ length order
  pub rest : (i : ℕ) → next ≤ i → get_or bits i false ≡ false

-- at the first input where the assignment has another bit, it has 1
abbrev pub IsAbove : List ℕ → List Bool → ℕ → Bits → Type 0
IsAbove order bits next a = (k : ℕ) × ((k < length order) × (get_or order k 0 < next) × Begins order bits (get_or order k 0) a × (a k ≡ true) × (get_or bits (get_or order k 0) false ≡ false))

-- no assignment at which the node is 1 begins with lesser bits
abbrev pub AreLeast : List Triple → List ℕ → List Bool → ℕ → ℕ → Type 0
AreLeast ts order bits next n = (a : Bits) → function_of ts n a ≡ true → Begins order bits next a ⊎ IsAbove order bits next a

-- how many of these inputs have 1 at the assignment, those alone whose level is at least `low`
abbrev pub ones : List ℕ → Bits → ℕ → ℕ → ℕ → ℕ
ones levels a low from zero = 0
ones levels a low from (suc count) = (if nat_le low (get_or levels from 0) && a (get_or levels from 0) then 1 else 0) + ones levels a low (suc from) count

-- at each assignment that begins with the bits, at which node n is 1, so many of the inputs from `next` to `upto` have 1
abbrev pub HasOnes : List Triple → List ℕ → List Bool → ℕ → ℕ → ℕ → ℕ → Type 0
HasOnes ts order bits next upto n least =
    (levels : List ℕ) → IsInverse order levels → (a : Bits) → Begins order bits next a → function_of ts n a ≡ true → least ≤ ones levels a (level_of ts n) next (upto - next)

-- the first bits of the least input are found, as far as a number
pub record AreFound (ts : List Triple) (order : List ℕ) (bits : List Bool) (next n : ℕ) : Type 0 where
  pub bits_so_far : AreBits order bits next
  pub some : CanBegin ts order bits next n
  pub least : AreLeast ts order bits next n

-- the nodes of a diagram are marked: its root, and with each node its children
pub record AreMarks (ts : List Triple) (root low : ℕ) (marks : List Bool) : Type 0 where
  pub long : length marks ≡ root + 1
  pub root_in : get_or marks root false ≡ true
  pub closed : (n level : ℕ) (lo hi : Node) → low < n → n ≤ root → get_or marks n false ≡ true → parts_of ts n ≡ Some (level, lo, hi) → (get_or marks lo.0 false ≡ true) × (get_or marks hi.0 false ≡ true)

-- the next mark behind each place
pub record AreNexts (marks : List Bool) (nexts : List ℕ) : Type 0 where
  pub long : length nexts ≡ length marks
  pub on : (k : ℕ) → k < length marks → k < get_or nexts k 0
  pub skipped : (k j : ℕ) → k < length marks → k < j → j < get_or nexts k 0 → get_or marks j false ≡ false

-- what a search goes over: the marked diagram of a node that isn't the constant 0, and the input of each level
pub record IsSearch (ts : List Triple) (root : ℕ) (marks : List Bool) (nexts : List ℕ) (order : List ℕ) : Type 0 where
  pub node : IsNode ts root
  pub some : 1 ≤ root
  pub marked : AreMarks ts root 1 marks
  pub next_marked : AreNexts marks nexts
  pub inverse : (levels : List ℕ) × IsInverse order levels

-- these inputs have 1 at each assignment that begins with the bits at which node n is 1
abbrev pub AreOnes : List Triple → List ℕ → List Bool → ℕ → ℕ → ℕ → Type 0
AreOnes ts order bits next upto n =
    (a : Bits) → Begins order bits next a → function_of ts n a ≡ true → (k : ℕ) → k < length order → next ≤ get_or order k 0 → get_or order k 0 < upto → a k ≡ true
