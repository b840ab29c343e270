use Rattle.cb_laws.proofs.Shaped.{has_shape as law}
use Rattle.cb_laws.proofs.has_shape.Goals as goal

pub returns : goal.returns
returns c = law
