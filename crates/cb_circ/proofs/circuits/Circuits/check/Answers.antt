use Rattle.std.proofs.Common.{sym, subst, ◌∙◌, arith}
use Rattle.cb_model.specs.Order.{IsOrder}
use Rattle.cb_flat.specs.Acyclic.{instance_graph}
use Rattle.cb_circ.specs.View.{module_view}
use Rattle.cb_circ.proofs.Refusing.{none-named, refused-large, accepted}
use Rattle.cb_circ.proofs.circuits.Circuits.check.Goals as goal

pub returns-then-found-gt-LIMIT : goal.returns-then-found-gt-LIMIT
returns-then-found-gt-LIMIT c =
    let p = rw c.in-Ok.is at c.in_ok-found.ensures in
    refused-large c.args.self.now.flats (module_view c.args.raw.now) (none-named c.args.self.now.flats c.args.raw.now.name.now c.part.result c.part.ensures (sym c.is_some.ensures ∙ c.if-is_some.false)) p.faultless
    (sym c.in_ok-driven_once.ensures ∙ c.if-not-branch.false) (rw c.in-Some.is at c.in_ok-order.ensures.none) c.in-Ok.found.gates p.gates (omega (arith, c.if-found-gt-LIMIT.true))

pub netlist-requires-clause-accepted : goal.netlist-requires-clause-accepted
netlist-requires-clause-accepted c =
    let p = rw c.in-Ok.is at c.in_ok-found.ensures in
    (accepted c.args.self.now.flats (module_view c.args.raw.now) (none-named c.args.self.now.flats c.args.raw.now.name.now c.part.result c.part.ensures (sym c.is_some.ensures ∙ c.if-is_some.false)) p.faultless
    (sym c.in_ok-driven_once.ensures ∙ c.if-not-branch.false) (rw c.in-Some.is at c.in_ok-order.ensures.none) c.in-Ok.found.gates p.gates (omega (arith, c.if-found-gt-LIMIT.false))).0

pub netlist-requires-clause-order : goal.netlist-requires-clause-order
netlist-requires-clause-order c = subst (IsOrder (instance_graph (module_view c.args.raw.now))) (sym c.as_slice.ensures.value) (rw c.in-Some.is at c.in_ok-order.ensures.order)
