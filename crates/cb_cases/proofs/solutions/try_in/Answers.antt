use Rattle.std.proofs.Common.{arith}
use Rattle.cb_dd.proofs.Children.{bottom_child, top_child}
use Rattle.cb_cases.proofs.solutions.try_in.Goals as goal

pub node-requires-clause-lo_child : goal.node-requires-clause-lo_child
node-requires-clause-lo_child c = bottom_child _ _ (omega arith)

pub node-requires-clause-hi_child : goal.node-requires-clause-hi_child
node-requires-clause-hi_child c = top_child _ _ (omega arith)

pub node-requires-2-clause-lo_child : goal.node-requires-2-clause-lo_child
node-requires-2-clause-lo_child c = bottom_child _ _ (omega arith)

pub node-requires-2-clause-hi_child : goal.node-requires-2-clause-hi_child
node-requires-2-clause-hi_child c = top_child _ _ (omega arith)
