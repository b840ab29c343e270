use Rattle.std.proofs.Common.{length, refl}
use Rattle.cb_model.specs.declared.Tree.TheVariants as tree
use Rattle.cb_unify.proofs.Written.{is-written, node-scope}
use Rattle.cb_unify.proofs.State.compound.Goals as goal

pub returns-in-Ok-clause-written : goal.returns-in-Ok-clause-written
returns-in-Ok-clause-written c = is-written c.args.self.now c.compound_cell.new.state c.args.frame.now (tree.Node c.args.name c.args.args.now) c.in-Ok.r.0 c.in-Ok.ensures.tree

pub compound_cell-requires-clause-scope : goal.compound_cell-requires-clause-scope
compound_cell-requires-clause-scope c = node-scope c.args.self.now.store.constants (length c.args.frame.now) (tree.Node c.args.name c.args.args.now) c.args.name c.args.args.now c.args.args.now refl refl c.requires.scope
