use Rattle.cb_laws.proofs.OneLine.{room_of_none as law}
use Rattle.cb_laws.proofs.room_of_none.Goals as goal

pub returns : goal.returns
returns c = law
