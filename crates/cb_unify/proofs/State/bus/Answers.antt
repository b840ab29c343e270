use Rattle.cb_unify.proofs.Leaves.{bus-now}
use Rattle.cb_unify.proofs.State.bus.Goals as goal

pub returns-in-Ok-clause-value : goal.returns-in-Ok-clause-value
returns-in-Ok-clause-value c = bus-now c.args.self.now c.elements.new.state c.args.nodes.now c.in-Ok.r.0 c.in-Ok.ensures.bus
