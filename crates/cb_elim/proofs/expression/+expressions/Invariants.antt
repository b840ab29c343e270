use Rattle.std.proofs.Common.{◌+◌, ◌*◌, length, map, sum}
use Rattle.cb_elim.proofs.Expressions.{weight}
use Rattle.cb_elim.proofs.expression.+expressions.Given as goal

abbrev pub decreases-expression : goal.decreases-expression
decreases-expression l = 2 * weight l.e.now

abbrev pub decreases-operands : goal.decreases-operands
decreases-operands l = 2 * sum (map weight l.xs.now) + length l.xs.now
