use Rattle.cb_laws.proofs.Decided.{solvable_decided as law}
use Rattle.cb_laws.proofs.solvable_decided.Goals as goal

pub returns : goal.returns
returns c = law
