use Rattle.std.specs.Prelude.{◌++◌}
use Rattle.cb_model.specs.Forms.{form_of}
use Rattle.cb_trees.proofs.InPlaces.{head_is}
use Rattle.cb_trees.proofs.trees.head_number.Goals as goal

pub returns : goal.returns
returns c = head_is c.sign.result (c.args.numbers.now.names.now ++ c.args.numbers.now.more.now) (form_of c.args.head.now) c.in-Some.name.now c.in-Some.args.now c.in-Some.ensures c.sign.ensures
