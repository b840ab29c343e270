use Rattle.cb_model.specs.Forms.{form_of}
use Rattle.cb_trees.specs.Numbered.{numbering_of}
use Rattle.cb_trees.specs.Places.{sorts_given}
use Rattle.cb_trees.proofs.InPlaces.{arguments_is}
use Rattle.cb_trees.proofs.trees.arguments.Goals as goal

pub returns-clause-trees : goal.returns-clause-trees
returns-clause-trees c =
    arguments_is c.trees.result c.args.numbers.now.declared.now (numbering_of c.args.numbers.now) (form_of c.args.head.now) c.in-Some.name.now c.in-Some.args.now c.args.own.now
    (sorts_given c.of-places.result.declared c.of-places.result.count) c.in-Some.ensures c.of-places.ensures.sorts c.trees.ensures.trees
