use Rattle.std.proofs.Common.{sym}
use Rattle.cb_syntax.proofs.Moves.{placed, past}
use Rattle.cb_syntax.proofs.read.peek.Goals as goal

pub returns-in-Some : goal.returns-in-Some
returns-in-Some c = placed c.args.tokens.now c.args.at c.in-Some.token.now (sym c.in-Some.ensures)

pub returns-in-None : goal.returns-in-None
returns-in-None c = past c.args.tokens.now c.args.at (sym c.in-None.ensures)
