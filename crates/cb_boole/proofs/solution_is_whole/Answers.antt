use Rattle.cb_boole.proofs.Laws.{whole}
use Rattle.cb_boole.proofs.solution_is_whole.Goals as goal

pub returns : goal.returns
returns c = whole
