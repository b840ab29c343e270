use Rattle.cb_laws.proofs.LineOfTokens.{token_lines as law}
use Rattle.cb_laws.proofs.token_lines.Goals as goal

pub returns : goal.returns
returns c = law
