use Rattle.std.proofs.Common.{length, refl}
use Rattle.cb_model.specs.Forms.{form_of}
use Rattle.cb_signs.proofs.Adding.{adds_argument}
use Rattle.cb_signs.proofs.clauses.add_argument.Goals as goal

pub returns-in-Some : goal.returns-in-Some
returns-in-Some c = adds_argument c.add_name.result c.args.base.now c.args.more.now c.add_name.new.more (form_of c.args.term.now) c.in-Some.name.now c.in-Some.args.now (length c.in-Some.args.now) c.in-Some.ensures refl c.add_name.ensures
