use Rattle.cb_laws.proofs.Determined.{run_determined as law}
use Rattle.cb_laws.proofs.run_determined.Goals as goal

pub returns : goal.returns
returns c = law
