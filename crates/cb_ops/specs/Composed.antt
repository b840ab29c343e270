-- What compositions one after another promise.
use Rattle.std.specs.Prelude.{◌≡◌, ℕ, ◌+◌, ◌*◌, ◌<◌, ◌≤◌, ◌^◌, Bool, cond, List, length, Some}
use Rattle.std.specs.List.{filter}
use Rattle.std.specs.Option.{is_some}
use Rattle.cb_model.specs.Outside.{Rose}
use Rattle.cb_dd.specs.declared.Triple.{Triple}
use Rattle.cb_dd.specs.declared.Node.{Node}
use Rattle.cb_dd.specs.Diagram.{Store}
use Rattle.cb_ops.specs.Ops.{IsFree}
use Rattle.cb_ops.specs.Substitute.{Images, Spreads, image_of}

-- no node that replaces a level depends on a greater level that is replaced
pub record AreLower (ts : List Triple) (list : Images) : Type 0 where
  pub free : (l k : ℕ) (m n : Node) → image_of list l ≡ Some m → image_of list k ≡ Some n → l < k → IsFree ts m.0 k

-- the level is replaced
abbrev pub is_replaced : Images → ℕ → Bool
is_replaced list l = is_some (image_of list l)

-- Where the node and what replaces its levels depend on the levels of the list alone, the call adds no more nodes than three
-- for each of these levels that is replaced and each row of them all.
pub record ComposedRoom (n : ℕ) (list : Images) (old new : Store) : Type 0 where
  pub most : (ls : List ℕ) → Spreads old.triples n list ls ls → length new.triples ≤ length old.triples + length (filter (is_replaced list) ls) * (3 * 2 ^ length ls)

-- a stop for nodes has its cause: the count of refusals rose, and the budget is below the nodes at the call and those that it may add
pub record ComposedCause (n : ℕ) (list : Images) (old new : Store) : Type 0 where
  pub rose : Rose old.fulls new.fulls
  pub below : (ls : List ℕ) → Spreads old.triples n list ls ls → old.budget < length old.triples + length (filter (is_replaced list) ls) * (3 * 2 ^ length ls)

-- one level replaced adds fewer nodes than three for each row, and none where the level isn't replaced
pub record LevelRoom (n level : ℕ) (list : Images) (old new : Store) : Type 0 where
  pub most : (ls : List ℕ) → Spreads old.triples n list ls ls → length new.triples + cond (is_replaced list level) 3 0 ≤ length old.triples + cond (is_replaced list level) 1 0 * (3 * 2 ^ length ls)
