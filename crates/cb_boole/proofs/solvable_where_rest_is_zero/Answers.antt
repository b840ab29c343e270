use Rattle.cb_boole.proofs.Laws.{solvable}
use Rattle.cb_boole.proofs.solvable_where_rest_is_zero.Goals as goal

pub returns : goal.returns
returns c = solvable
