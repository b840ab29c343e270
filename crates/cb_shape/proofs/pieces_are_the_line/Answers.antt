use Rattle.cb_shape.proofs.Texts.{pieces-line}
use Rattle.cb_shape.proofs.pieces_are_the_line.Goals as goal

pub returns : goal.returns
returns c = pieces-line
