use Rattle.cb_signs.proofs.Adding.{adds_equal}
use Rattle.cb_signs.proofs.terms.add_goal.Goals as goal

pub returns-in_ok-add_term-in-Equal : goal.returns-in_ok-add_term-in-Equal
returns-in_ok-add_term-in-Equal c =
    adds_equal c.add_term-in-Equal-2.result c.args.base.now c.args.more.now c.add_term-in-Equal.new.more c.add_term-in-Equal-2.new.more c.args.goal.now c.in-Equal.left c.in-Equal.right c.in-Equal.is
    c.in_ok-add_term-in-Equal.ensures c.add_term-in-Equal-2.ensures
