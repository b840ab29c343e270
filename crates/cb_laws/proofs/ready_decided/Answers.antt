use Rattle.cb_laws.proofs.ReadyGoals.{ready_decided as law}
use Rattle.cb_laws.proofs.ready_decided.Goals as goal

pub returns : goal.returns
returns c = law
