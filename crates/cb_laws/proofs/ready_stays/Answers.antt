use Rattle.cb_laws.proofs.Stays.{ready_stays as law}
use Rattle.cb_laws.proofs.ready_stays.Goals as goal

pub returns : goal.returns
returns c = law
