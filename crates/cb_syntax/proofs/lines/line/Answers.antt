use Rattle.cb_lex.specs.View.{token_of, tokens_of}
use Rattle.cb_syntax.proofs.LineSteps.{line_there, line_behind}
use Rattle.cb_syntax.proofs.lines.line.Goals as goal

pub returns-in-Some : goal.returns-in-Some
returns-in-Some c = line_there (tokens_of c.args.tokens.now) c.args.at (token_of c.in-Some.token) _ c.in-Some.ensures.first

pub returns-in-None : goal.returns-in-None
returns-in-None c = line_behind (tokens_of c.args.tokens.now) c.args.at c.in-None.ensures
