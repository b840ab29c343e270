use Rattle.std.proofs.Common.{◌-◌, length}
use Rattle.cb_lex.specs.View.{tokens_of}
use Rattle.cb_syntax.specs.Steps.{rest}
use Rattle.cb_syntax.proofs.LineSteps.{StartsAt}
use Rattle.cb_syntax.proofs.lines.last_start.Given as goal

abbrev pub invariant-loop-token : goal.invariant-loop-token
invariant-loop-token l = StartsAt (tokens_of l.fn.tokens) l.start l.at (rest l.tokens l.at)

abbrev pub decreases-loop-token : goal.decreases-loop-token
decreases-loop-token l = length l.tokens - l.at
