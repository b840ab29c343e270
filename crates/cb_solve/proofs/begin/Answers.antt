use Rattle.std.proofs.Common.{arith}
use Rattle.cb_solve.proofs.Starts.{begun-few, begun-goes, begun-variables}
use Rattle.cb_solve.proofs.begin.Goals as goal

pub returns-then-query_variables-gt4096 : goal.returns-then-query_variables-gt4096
returns-then-query_variables-gt4096 c = let n = c.query_variables.ensures.count in begun-variables c.args.m.now c.requires (omega arith)

pub returns-in-Ok : goal.returns-in-Ok
returns-in-Ok c = let n = c.query_variables.ensures.count in begun-goes c.args.m.now c.requires c.begin.new.self (omega arith) c.in-Ok.ensures.keeps c.in-Ok.ensures.begun

pub returns-in-Err-Nodes : goal.returns-in-Err-Nodes
returns-in-Err-Nodes c = let n = c.query_variables.ensures.count in begun-few c.args.m.now c.requires c.begin.new.self (omega arith) c.in-Err-Nodes.ensures.keeps (c.in-Err-Nodes.ensures.nodes (cc))
