use Rattle.std.proofs.Common.{◌≡◌}
use Rattle.cb_items.proofs.Additions.{adds-pair, no-pair}
use Rattle.cb_items.proofs.equal.Goals as goal

pub returns-clause-adds : goal.returns-clause-adds
returns-clause-adds c = λ e.
    adds-pair c.args.state.now c.solve-solved.new.self c.args.left.0 c.args.right.0 c.requires.state c.solve-solved.ensures.moments (c.solve-solved.ensures.solved e) (c.solve-solved.ensures.rewritten e)

pub returns-clause-none : goal.returns-clause-none
returns-clause-none c = λ e. no-pair c.args.state.now c.args.left.0 c.args.right.0 (c.solve-solved.ensures.none e)
