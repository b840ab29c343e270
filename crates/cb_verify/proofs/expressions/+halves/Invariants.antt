use Rattle.std.proofs.Common.{◌+◌, ◌*◌, length, map, sum}
use Rattle.cb_verify.proofs.Operands.{weight}
use Rattle.cb_verify.proofs.expressions.+halves.Given as goal

abbrev pub decreases-expression : goal.decreases-expression
decreases-expression l = 2 * weight l.e.now

abbrev pub decreases-operands : goal.decreases-operands
decreases-operands l = 2 * sum (map weight l.xs.now) + length l.xs.now
