use Rattle.std.proofs.Common.{◌≡◌, map, take}
use Rattle.cb_elim.proofs.Together.{nodes_of}
use Rattle.cb_unify.proofs.solve.slot_nodes.Given as goal

abbrev pub invariant-loop-x : goal.invariant-loop-x
invariant-loop-x l = l.nodes.items ≡ map (nodes_of l.store.slots) (take l.x-index l.pairs)
