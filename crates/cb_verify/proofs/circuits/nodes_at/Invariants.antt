use Rattle.std.proofs.Common.{◌≡◌, map, take}
use Rattle.cb_verify.specs.Nodes.{node_at}
use Rattle.cb_verify.proofs.circuits.nodes_at.Given as goal

abbrev pub invariant-loop-net : goal.invariant-loop-net
invariant-loop-net l = l.found.items ≡ map (node_at l.nodes) (take l.net-index l.nets)
