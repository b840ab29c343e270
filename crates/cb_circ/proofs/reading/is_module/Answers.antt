use Rattle.std.proofs.Common.{◌∙◌}
use Rattle.cb_model.specs.Forms.{form_of}
use Rattle.cb_model.specs.Loading.{module_sign}
use Rattle.cb_known.proofs.Names.{sign_named}
use Rattle.cb_circ.proofs.reading.is_module.Goals as goal

pub returns-in-Some : goal.returns-in-Some
returns-in-Some c = c.is.ensures ∙ sign_named module_sign (form_of c.args.head.now) c.in-Some.name.now c.in-Some.args.now c.in-Some.ensures
