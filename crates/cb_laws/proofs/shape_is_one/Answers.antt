use Rattle.cb_laws.proofs.OneShape.{shape_is_one as law}
use Rattle.cb_laws.proofs.shape_is_one.Goals as goal

pub returns : goal.returns
returns c = law
