use Rattle.std.proofs.Common.{ap}
use Rattle.cb_heap.specs.Heap.{Terms}
use Rattle.cb_unify.proofs.Solving.{settled-cells}
use Rattle.cb_unify.proofs.Inside.{seen}
use Rattle.cb_unify.proofs.Leaves.{puts}
use Rattle.cb_unify.proofs.State.put.Goals as goal

pub returns-clause-put : goal.returns-clause-put
returns-clause-put c =
    puts c.args.self.now (seen c.self.inside) c.self.view_is c.requires.state c.args.cell c.requires.apart c.add.new.self c.in_ok-r.ensures.added.1 c.add.ensures.heap c.add.ensures.finite c.add.ensures.moments c.in_ok-r.r.0 c.in_ok-r.ensures.added.0

pub invariant_of-self-2 : goal.invariant_of-self-2
invariant_of-self-2 c = settled-cells c.self.inside.settled c.self.inside.heap.cells c.add.new.self.cells _ (ap (λ (t : Terms). t.cells) c.in_ok-r.ensures.added.1) c.self.invariant
