use Rattle.cb_items.proofs.Instances.{solutions-of-items as law}
use Rattle.cb_items.proofs.solutions_are_instances.Goals as goal

pub returns : goal.returns
returns c = law
