use Rattle.cb_join.proofs.Joins.{more-pairs}
use Rattle.cb_join.proofs.owe_each.Goals as goal

pub loop-n-preserved : goal.loop-n-preserved
loop-n-preserved c = more-pairs c.args.pending.now.items c.loop-n.pending.items c.push.new.self.items c.args.i c.args.j c.loop-n.n c.in_ok-push.ensures.items c.loop-n.invariant
