use Rattle.cb_shape.proofs.Valued.{cells-value}
use Rattle.cb_shape.proofs.terms_have_values.Goals as goal

pub returns : goal.returns
returns c = λ cs g o holds opens roots ps are. cells-value cs g o holds opens roots ps are
