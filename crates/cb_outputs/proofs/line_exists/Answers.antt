use Rattle.cb_outputs.proofs.Lines.{line_exists as law}
use Rattle.cb_outputs.proofs.line_exists.Goals as goal

pub returns : goal.returns
returns c = law
