use Rattle.cb_outputs.proofs.OneOutput.{output_one as law}
use Rattle.cb_outputs.proofs.output_is_one.Goals as goal

pub returns : goal.returns
returns c = law
