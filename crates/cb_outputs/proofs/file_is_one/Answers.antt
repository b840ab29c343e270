use Rattle.cb_outputs.proofs.OneFile.{file_one as law}
use Rattle.cb_outputs.proofs.file_is_one.Goals as goal

pub returns : goal.returns
returns c = law
