use Rattle.cb_model.specs.Forms.{form_of}
use Rattle.cb_syntax.proofs.pieces.equation.Goals as goal

pub returns-in-Ok-clause-answer : goal.returns-in-Ok-clause-answer
returns-in-Ok-clause-answer c = c.in-Ok.ensures.answer (form_of c.args.left)
