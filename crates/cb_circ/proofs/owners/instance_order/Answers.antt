use Rattle.std.proofs.Common.{length, ap, sym, subst, arith}
use Rattle.cb_model.specs.Order.{IsGraph}
use Rattle.cb_circ.specs.View.{module_view}
use Rattle.cb_circ.proofs.Marking.{lists-long}
use Rattle.cb_circ.proofs.Owning.{graph-of-items, graph-long, order-known, no-cycle-known}
use Rattle.cb_circ.proofs.owners.instance_order.Goals as goal

pub order-requires-clause-items : goal.order-requires-clause-items
order-requires-clause-items c = subst IsGraph (sym c.in_ok-graph.ensures) (graph-of-items (module_view c.args.raw.now))

pub order-requires-clause-small : goal.order-requires-clause-small
order-requires-clause-small c =
    let long = lists-long c.args.raw.now c.requires.well in
    omega (arith, ap length c.in_ok-graph.ensures, graph-long (module_view c.args.raw.now), long.2, c.len.ensures, c.if-len.false)

pub returns-clause-order : goal.returns-clause-order
returns-clause-order c = order-known c.order.result (λ v. v.items) _ (module_view c.args.raw.now) c.in_ok-graph.ensures (c.flat_has_one.ensures.cycles (module_view c.args.raw.now) c.requires.once) c.order.ensures.order

pub returns-clause-none : goal.returns-clause-none
returns-clause-none c = no-cycle-known c.order.result _ (module_view c.args.raw.now) c.in_ok-graph.ensures (c.flat_has_one.ensures.cycles (module_view c.args.raw.now) c.requires.once) c.order.ensures.none
