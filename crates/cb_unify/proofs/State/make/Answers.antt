use Rattle.std.proofs.Common.{◌<◌, length, ap, sym, subst}
use Rattle.cb_model.specs.Bits.{Each}
use Rattle.cb_heap.specs.Heap.{Terms}
use Rattle.cb_unify.specs.State.{Seen}
use Rattle.cb_unify.proofs.Compounds.{compound-of}
use Rattle.cb_unify.proofs.Inside.{seen}
use Rattle.cb_unify.proofs.Solving.{settled-cells}
use Rattle.cb_unify.proofs.State.make.Goals as goal

pub returns-clause-made : goal.returns-clause-made
returns-clause-made c =
    compound-of c.args.self.now (seen c.self.inside) c.self.view_is c.requires.state c.args.name c.args.args.now (subst (λ (o : Seen). Each (λ r. r.0 < length o.heap.cells) c.args.args.now) (sym c.self.view_is) c.requires.there)
    c.add_node.new.self c.in_ok-r.ensures.added.1 c.add_node.ensures.heap c.add_node.ensures.finite c.add_node.ensures.moments c.in_ok-r.r.0 c.in_ok-r.ensures.added.0

pub invariant_of-self-2 : goal.invariant_of-self-2
invariant_of-self-2 c = settled-cells c.self.inside.settled c.self.inside.heap.cells c.add_node.new.self.cells _ (ap (λ (t : Terms). t.cells) c.in_ok-r.ensures.added.1) c.self.invariant
