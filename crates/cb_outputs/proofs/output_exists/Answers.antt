use Rattle.cb_outputs.proofs.Outputs.{output_exists as law}
use Rattle.cb_outputs.proofs.output_exists.Goals as goal

pub returns : goal.returns
returns c = law
