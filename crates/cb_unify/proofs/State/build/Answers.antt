use Rattle.cb_unify.proofs.Written.{is-written}
use Rattle.cb_unify.proofs.State.build.Goals as goal

pub returns-in-Ok-clause-written : goal.returns-in-Ok-clause-written
returns-in-Ok-clause-written c = is-written c.args.self.now c.tree_cell.new.state c.args.frame.now c.args.tree.now c.in-Ok.r.0 c.in-Ok.ensures.tree
