use Rattle.cb_boole.proofs.Laws.{by_cofactors}
use Rattle.cb_boole.proofs.solution_by_cofactors.Goals as goal

pub returns : goal.returns
returns c = by_cofactors
