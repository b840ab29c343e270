-- What every operation that makes nodes keeps, adds and refuses.
use Rattle.std.specs.Prelude.{◌≡◌, ◌≢◌, ℕ, ◌-◌, ◌^◌, List, length, Result, Err, IfOk}
use Rattle.cb_dd.specs.declared.Node.{Node}
use Rattle.cb_dd.specs.declared.Stop.{Stop}
use Rattle.cb_dd.specs.declared.Stop.TheVariants.{Nodes}
use Rattle.cb_dd.specs.Diagram.{Store, IsDiagram, IsNode, fulls_after}
use Rattle.cb_ops.specs.Ops.{Grows, Room, HasCause}

-- An operation on these nodes gives a node of the new store, in which the old nodes stand as they did; it adds no more nodes
-- than its room, and stops for nodes only with its cause, where the store is full.
pub record Makes (ns : List ℕ) (times : ℕ) (old new : Store) (result : Result Node Stop) : Type 0 where
  pub is_node : IfOk result (λ n. IsNode new.triples n.0)
  pub grows : Grows old new
  pub room : Room ns times old new
  pub full : result ≡ Err Nodes → length new.triples ≡ new.budget
  pub nodes : result ≡ Err Nodes → HasCause ns times old new
  pub unbounded : old.budget ≡ 2 ^ 64 - 1 → result ≢ Err Nodes
  pub fulls : new.fulls ≡ fulls_after old.fulls result
  pub diagram : IsDiagram new.triples

-- the same but for what it may add
pub record MakesNode (old new : Store) (result : Result Node Stop) : Type 0 where
  pub is_node : IfOk result (λ n. IsNode new.triples n.0)
  pub grows : Grows old new
  pub full : result ≡ Err Nodes → length new.triples ≡ new.budget
  pub unbounded : old.budget ≡ 2 ^ 64 - 1 → result ≢ Err Nodes
  pub fulls : new.fulls ≡ fulls_after old.fulls result
  pub diagram : IsDiagram new.triples
