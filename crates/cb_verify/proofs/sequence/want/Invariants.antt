use Rattle.std.proofs.Common.{◌≡◌, ◌++◌, drop}
use Rattle.cb_verify.specs.Order.{own_nets}
use Rattle.cb_verify.proofs.sequence.want.Given as goal

abbrev pub invariant-loop-net : goal.invariant-loop-net
invariant-loop-net l = l.initial.needs.items ++ own_nets l.inputs l.nets ≡ l.needs.items ++ own_nets l.inputs (drop l.net-index l.nets)
