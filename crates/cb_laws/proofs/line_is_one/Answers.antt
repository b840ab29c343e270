use Rattle.cb_laws.proofs.OneLine.{line_is_one as law}
use Rattle.cb_laws.proofs.line_is_one.Goals as goal

pub returns : goal.returns
returns c = law
