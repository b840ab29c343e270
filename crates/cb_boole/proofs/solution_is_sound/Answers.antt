use Rattle.cb_boole.proofs.Laws.{sound}
use Rattle.cb_boole.proofs.solution_is_sound.Goals as goal

pub returns : goal.returns
returns c = sound
