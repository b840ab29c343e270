-- What the nodes of a comparison stand for.
use Rattle.std.specs.Prelude.{◌≡◌, ℕ, ◌+◌, ◌*◌, ◌^◌, ◌≤◌, Bool, false, ◌&&◌, ◌||◌, List, ◌∷◌, map, length, slice_index_or, get_or, take, ◌<◌, ◌≢◌}
use Rattle.cb_model.specs.Bits.{Bits, Each, xor, all_of, some_of, odd_of}
use Rattle.cb_dd.specs.declared.Node.{Node}
use Rattle.cb_dd.specs.declared.Triple.{Triple}
use Rattle.cb_dd.specs.Diagram.{Store, IsNode, function_of}
use Rattle.cb_ops.specs.Ops.{DependsOn}
use Rattle.cb_verify.specs.declared.nodes.Operator.{Operator}
use Rattle.cb_verify.specs.declared.nodes.Operator.TheVariants as operator

-- they are nodes of the store
abbrev pub AreNodes : List Triple → List Node → Type 0
AreNodes ts ns = Each (λ n. IsNode ts n.0) ns

-- the bits of the nodes at an assignment of the levels
abbrev pub node_bits : List Triple → List Node → Bits → List Bool
node_bits ts ns a = map (λ n. function_of ts n.0 a) ns

-- the nodes depend on the levels of the list alone
abbrev pub DependOn : List Triple → List Node → List ℕ → Type 0
DependOn ts ns ls = Each (λ n. DependsOn ts n.0 ls) ns

-- At most so many operations were made: each adds at most two nodes for each assignment of the levels on which the
-- nodes depend.
pub record Adds (old new : Store) (operations : ℕ) (nodes : List Node) : Type 0 where
  pub most : (ls : List ℕ) → DependOn old.triples nodes ls → length new.triples ≤ length old.triples + operations * (2 * 2 ^ length ls)

-- the value of an operator
abbrev pub operator_value : Operator → Bool → Bool → Bool
operator_value operator.And x y = x && y
operator_value operator.Or x y = x || y
operator_value operator.Xor x y = xor x y

-- the value of a chain of operands
abbrev pub chain_value : Operator → List Bool → Bool
chain_value operator.And xs = all_of xs
chain_value operator.Or xs = some_of xs
chain_value operator.Xor xs = odd_of xs

-- whether the two lists differ in some place
abbrev pub unequal : List Bool → List Bool → Bool
unequal (x ∷ xs) (y ∷ ys) = xor x y || unequal xs ys
unequal _ _ = false

-- the node of a net, and node 0 past the end
abbrev pub node_at : List Node → ℕ → Node
node_at ns k = slice_index_or ns k (record { 0 = 0 })

-- the first place where two lists of bits differ, and the bits there
pub record IsFirst (xs ys : List Bool) (at : ℕ) (x y : Bool) : Type 0 where
  pub within : at < length xs
  pub has : x ≡ get_or xs at false
  pub wants : y ≡ get_or ys at false
  pub differ : x ≢ y
  pub least : take at xs ≡ take at ys
