use Rattle.cb_shape.proofs.Standing.{roots-stand}
use Rattle.cb_shape.proofs.cells_are_terms.Goals as goal

pub returns : goal.returns
returns c = λ t h finite sorted roots there. roots-stand t h.sorts h.cells sorted finite roots there
