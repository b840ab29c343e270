use Rattle.cb_laws.proofs.Merged.{solvable_in_algebra as law}
use Rattle.cb_laws.proofs.solvable_in_algebra.Goals as goal

pub returns : goal.returns
returns c = law
