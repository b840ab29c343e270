use Rattle.cb_ops.proofs.Gather.{adds-sides}
use Rattle.cb_ops.proofs.Ops.reach.Goals as goal

pub returns : goal.returns
returns c = record { added = adds-sides c.args.self.now.triples c.args.n.0 c.in-Some.at c.in-Some.lo.0 c.in-Some.hi.0 c.args.nodes.now.keys c.insert-2.new.self.keys c.insert-3.new.self.keys c.args.levels.now.keys c.insert.new.self.keys c.in-Some.ensures.inner c.in_ok-insert.ensures.updates.0 c.in_ok-insert-2.ensures.keys c.in_ok-insert-2.ensures.updates.0 c.in_ok-insert-3.ensures.keys c.in_ok-insert-3.ensures.updates.0 c.insert-3.ensures.unique }
