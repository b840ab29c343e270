use Rattle.cb_boole.proofs.Picking.{leaf_is_picked as law}
use Rattle.cb_boole.proofs.leaf_is_picked.Goals as goal

pub returns : goal.returns
returns c = law
