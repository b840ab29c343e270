use Rattle.std.proofs.Common.{arith}
use Rattle.cb_solve.proofs.Starts.{room-for}
use Rattle.cb_solve.proofs.passed.Goals as goal

pub returns-clause-fits : goal.returns-clause-fits
returns-clause-fits c = room-for c.args.m.now.branch c.args.more c.variables.result c.steps.result c.variables.ensures.count c.steps.ensures.count (omega arith) (omega arith)
