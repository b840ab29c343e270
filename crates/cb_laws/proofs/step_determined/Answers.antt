use Rattle.cb_laws.proofs.Determined.{step_determined as law}
use Rattle.cb_laws.proofs.step_determined.Goals as goal

pub returns : goal.returns
returns c = law
