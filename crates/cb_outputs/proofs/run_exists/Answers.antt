use Rattle.cb_outputs.proofs.Runs.{run_exists as law}
use Rattle.cb_outputs.proofs.run_exists.Goals as goal

pub returns : goal.returns
returns c = law
