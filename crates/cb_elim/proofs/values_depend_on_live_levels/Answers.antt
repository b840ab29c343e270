use Rattle.cb_elim.proofs.Live.{live-levels}
use Rattle.cb_elim.proofs.values_depend_on_live_levels.Goals as goal

pub returns : goal.returns
returns c = live-levels
