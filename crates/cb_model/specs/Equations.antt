-- Equations, and when they have solutions.
use Rattle.std.specs.Prelude.{◌≡◌, ℕ, Bool, ◌&&◌, nat_lt, List, map, ℤ}
use Rattle.std.specs.List.{list_all}
use Rattle.cb_model.specs.declared.Tree.{Tree}
use Rattle.cb_model.specs.declared.Circuit.{Circuit}
use Rattle.cb_model.specs.Bits.{Bits, AgreeBelow, Each}
use Rattle.cb_model.specs.Values.{Admitted, Ground, Bit, Word, Int, Name, Grounds, Last, More, World, Valuation, IsValuation, tree_value, tree_in_scope}
use Rattle.cb_model.specs.Circuits.{Outputs}

-- two trees that are to be equal; or a flattened circuit with its inputs, its outputs and a Boolean variable for each input
pub data Item : Type 0 where
  Pair : Tree → Tree → Item
  Part : Circuit → Tree → Tree → List ℕ → Item

-- the circuit has the outputs at the inputs that the variables give
pub record PartHolds (a : Bits) (b : Valuation) (c : Circuit) (ins outs : Tree) (own : List ℕ) : Type 0 where
  pub inputs : tree_value a b ins ≡ Word (map b.bits own)
  pub output : List Bool
  pub given : Outputs c (map b.bits own) output
  pub outputs : tree_value a b outs ≡ Word output

-- an item holds
abbrev pub Holds : Bits → Valuation → Item → Type 0
Holds a b (Pair l r) = tree_value a b l ≡ tree_value a b r
Holds a b (Part c ins outs own) = PartHolds a b c ins outs own

-- the item has only constants below c and variables below v
abbrev pub item_in_scope : ℕ → ℕ → Item → Bool
item_in_scope c v (Pair l r) = tree_in_scope c v l && tree_in_scope c v r
item_in_scope c v (Part k ins outs own) = tree_in_scope c v ins && (tree_in_scope c v outs && list_all (λ n. nat_lt n v) own)

-- every item holds
abbrev pub Sat : List Item → Bits → Valuation → Type 0
Sat es a b = Each (Holds a b) es

-- under this assignment, values of the variables satisfy the items
pub record SolvedAt (w : World) (es : List Item) (a : Bits) : Type 0 where
  pub b : Valuation
  pub sorted : IsValuation w b
  pub sat : Sat es a b

-- every assignment of the constants has values that satisfy the items
abbrev pub Solvable : World → List Item → Type 0
Solvable w es = (a : Bits) → Admitted w a → SolvedAt w es a

-- some assignment has none
pub record Refuted (w : World) (es : List Item) : Type 0 where
  pub a : Bits
  pub admitted : Admitted w a
  pub none : (b : Valuation) → IsValuation w b → Sat es a b → ⊥

-- a valuation that satisfies the items at an assignment
pub record Meets (w : World) (es : List Item) (a : Bits) (b : Valuation) : Type 0 where
  pub admitted : Admitted w a
  pub sorted : IsValuation w b
  pub sat : Sat es a b

-- ---- solutions in the algebra

-- a table: a bit for each assignment
abbrev pub Table : Type 0
Table = Bits → Bool

-- the table reads only the constants below c
abbrev pub ReadsBelow : ℕ → Table → Type 0
ReadsBelow c f = (a a' : Bits) → AgreeBelow c a a' → f a ≡ f a'

-- a value with tables at its bits
mutual
  pub data Tabled : Type 0 where
    TableBit : Table → Tabled
    TableWord : List Table → Tabled
    TableInt : ℤ → Tabled
    TableName : ℕ → Tableds → Tabled

  -- a list of such values
  pub data Tableds : Type 0 where
    NoTabled : Tableds
    OneTabled : Tabled → Tableds → Tableds

-- what such a value is at an assignment
abbrev mutual
  pub at : Bits → Tabled → Ground
  at a (TableBit f) = Bit (f a)
  at a (TableWord fs) = Word (map (λ f. f a) fs)
  at a (TableInt z) = Int z
  at a (TableName n xs) = Name n (all_at a xs)

  pub all_at : Bits → Tableds → Grounds
  all_at a NoTabled = Last
  all_at a (OneTabled x xs) = More (at a x) (all_at a xs)

-- a table for each Boolean variable, tables for each bus variable, and a value with tables for each term variable
pub record Substitution : Type 0 where
  pub bits : ℕ → Table
  pub words : ℕ → List Table
  pub terms : ℕ → Tabled

-- the valuation that a substitution gives at an assignment
abbrev pub valued : Substitution → Bits → Valuation
valued s a = record { bits = λ n. s.bits n a; words = λ n. map (λ f. f a) (s.words n); terms = λ n. at a (s.terms n) }

-- the substitution satisfies the items at every assignment
abbrev pub Solves : World → List Item → Substitution → Type 0
Solves w es s = (a : Bits) → Admitted w a → Meets w es a (valued s a)

-- the tables of a value read only the constants below c
abbrev mutual
  pub TabledBelow : ℕ → Tabled → Type 0
  TabledBelow c (TableBit f) = ReadsBelow c f
  TabledBelow c (TableWord fs) = Each (ReadsBelow c) fs
  TabledBelow c (TableInt z) = Unit {0}
  TabledBelow c (TableName n xs) = AllBelow c xs

  pub AllBelow : ℕ → Tableds → Type 0
  AllBelow c NoTabled = Unit {0}
  AllBelow c (OneTabled x xs) = TabledBelow c x × AllBelow c xs

-- the same of a substitution: a solution in the algebra over the first c constants
pub record ReadsOnly (c : ℕ) (s : Substitution) : Type 0 where
  pub bits : (n : ℕ) → ReadsBelow c (s.bits n)
  pub words : (n : ℕ) → Each (ReadsBelow c) (s.words n)
  pub terms : (n : ℕ) → TabledBelow c (s.terms n)
