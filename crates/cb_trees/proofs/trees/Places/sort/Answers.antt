use Rattle.cb_trees.proofs.InPlaces.{undeclared_sort}
use Rattle.cb_trees.proofs.trees.Places.sort.Goals as goal

pub returns-in-None : goal.returns-in-None
returns-in-None c = undeclared_sort c.args.self.now.declared c.args.self.now.count c.args.place c.in-None.is c.requires
