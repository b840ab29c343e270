use Rattle.cb_branch.proofs.Accepted.{accepted-can-run as law}
use Rattle.cb_branch.proofs.accepted_can_run.Goals as goal

pub returns : goal.returns
returns c = law
