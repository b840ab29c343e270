use Rattle.cb_laws.proofs.DecidedTrees.{items_decided as law}
use Rattle.cb_laws.proofs.items_decided.Goals as goal

pub returns : goal.returns
returns c = law
