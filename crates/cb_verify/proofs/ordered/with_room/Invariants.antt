use Rattle.std.proofs.Common.{◌≡◌, ◌++◌, take, replicate}
use Rattle.cb_verify.proofs.ordered.with_room.Given as goal

abbrev pub invariant-loop-node : goal.invariant-loop-node
invariant-loop-node l = l.nodes.items ≡ take l.node-index l.inputs

abbrev pub invariant-loop : goal.invariant-loop
invariant-loop l = l.nodes.items ≡ l.inputs ++ replicate l.counter (record { 0 = 0 })
