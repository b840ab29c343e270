use Rattle.cb_boole.proofs.Stages.{leaf_by_leaf as law}
use Rattle.cb_boole.proofs.leaf_by_leaf.Goals as goal

pub returns : goal.returns
returns c = law
