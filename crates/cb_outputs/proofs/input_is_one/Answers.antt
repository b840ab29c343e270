use Rattle.cb_outputs.proofs.OneFile.{input_one as law}
use Rattle.cb_outputs.proofs.input_is_one.Goals as goal

pub returns : goal.returns
returns c = law
