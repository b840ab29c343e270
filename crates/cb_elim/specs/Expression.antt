-- The value of an expression over the slots of its variables.
use Rattle.std.specs.Prelude.{◌≡◌, ℕ, ◌+◌, ◌-◌, ◌*◌, ◌^◌, ◌<◌, ◌≤◌, Bool, true, false, ◌&&◌, ◌||◌, List, Option, None, length, map, sum, slice_index_or}
use Rattle.std.specs.Option.{option_map_or}
use Rattle.cb_model.specs.declared.Expr.{Expr}
use Rattle.cb_model.specs.Bits.{Bits, xor, all_of, some_of, odd_of}
use Rattle.cb_model.specs.Values.{expr_value, in_scope}
use Rattle.cb_model.specs.Room.{expr_size}
use Rattle.cb_model.specs.Outside.{Rose}
use Rattle.cb_dd.specs.Diagram.{Store, function_of}
use Rattle.cb_ops.specs.Support.{IsListed}
use Rattle.cb_dd.specs.declared.Triple.{Triple}
use Rattle.cb_dd.specs.declared.Node.{Node}
use Rattle.cb_elim.specs.declared.Slot.{Slot}
use Rattle.cb_elim.specs.declared.expression.Operator.{Operator}
use Rattle.cb_elim.specs.declared.expression.Operator.TheVariants as operator
use Rattle.cb_elim.specs.Store.{Seen, value_in}
use Rattle.cb_elim.specs.Equation.{DependEach}

-- the bits of the variables: those of their slots, and 0 for a variable that has none
abbrev pub variable_bits : List Triple → List Node → List (Option Slot) → Bits → Bits
variable_bits ts ns vars p = λ n. option_map_or (λ s. value_in ts ns s.0 p) (slice_index_or vars n None) false

-- the node has the bit of a variable's slot
abbrev pub IsBitOf : List Triple → List Node → List (Option Slot) → ℕ → ℕ → Type 0
IsBitOf ts ns vars v n = (p : Bits) → function_of ts n p ≡ variable_bits ts ns vars p v

-- the node has the value of the expression over the slots as they were
abbrev pub IsValueOf : List Triple → List Triple → List Node → List (Option Slot) → Expr → ℕ → Type 0
IsValueOf old new ns vars e n = (p : Bits) → function_of new n p ≡ expr_value p (variable_bits old ns vars p) e

-- the same of a store
abbrev pub HasValueOf : Seen → Seen → List (Option Slot) → Expr → ℕ → Type 0
HasValueOf old new vars e n = IsValueOf old.nodes.triples new.nodes.triples old.slots vars e n

-- the value of a connective
abbrev pub operator_value : Operator → Bool → Bool → Bool
operator_value operator.And x y = x && y
operator_value operator.Or x y = x || y
operator_value operator.Xor x y = xor x y

-- the same of any number of operands
abbrev pub chain_value : Operator → List Bool → Bool
chain_value operator.And xs = all_of xs
chain_value operator.Or xs = some_of xs
chain_value operator.Xor xs = odd_of xs

-- the node is the connective of two nodes
abbrev pub IsApplied : List Triple → List Triple → Operator → ℕ → ℕ → ℕ → Type 0
IsApplied old new op f g n = (p : Bits) → function_of new n p ≡ operator_value op (function_of old f p) (function_of old g p)

-- the node has the value of the connective of expressions over the slots as they were
abbrev pub IsChainOf : List Triple → List Triple → List Node → List (Option Slot) → Operator → List Expr → ℕ → Type 0
IsChainOf old new ns vars op es n = (p : Bits) → function_of new n p ≡ chain_value op (map (expr_value p (variable_bits old ns vars p)) es)

-- the list has the levels of the constants, c of them, and those on which the slots' values depend
pub record AreLevels (ts : List Triple) (c : ℕ) (ns : List Node) (ls : List ℕ) : Type 0 where
  pub constants : (k : ℕ) → k < c → IsListed ls k
  pub slots : DependEach ts ns ls

-- nodes that an expression in so many variables adds at most: two for each operator and leaf and each row of the levels
pub record ExprRoom (ns : List Node) (vars : ℕ) (e : Expr) (old new : Store) : Type 0 where
  pub most : (c : ℕ) (ls : List ℕ) → in_scope c vars e ≡ true → AreLevels old.triples c ns ls → length new.triples ≤ length old.triples + 2 * expr_size e * 2 ^ length ls

-- the same of a connective of expressions
pub record ChainRoom (ns : List Node) (vars : ℕ) (es : List Expr) (old new : Store) : Type 0 where
  pub most : (c : ℕ) (ls : List ℕ) → all_of (map (in_scope c vars) es) ≡ true → AreLevels old.triples c ns ls → length new.triples ≤ length old.triples + 2 * (sum (map expr_size es) + (length es - 1)) * 2 ^ length ls

-- A stop for nodes has its cause: the count of refusals rose, and the budget is below the nodes at the call and those
-- that the expression may add, four for each operator and leaf and each row of the levels, for each list that has them.
pub record ExprCause (old new : Seen) (e : Expr) : Type 0 where
  pub rose : Rose old.nodes.fulls new.nodes.fulls
  pub below : (ls : List ℕ) → AreLevels old.nodes.triples old.constants old.slots ls → old.nodes.budget < length old.nodes.triples + 4 * expr_size e * 2 ^ length ls
