use Rattle.std.proofs.Common.{◌≤◌, ◌^◌, ℕ, List, length, Option, Vec, Global, MatchOption, sym, subst, arith}
use Rattle.cb_model.specs.Order as graph
use Rattle.cb_verify.specs.Order.{gate_needs}
use Rattle.cb_verify.proofs.Bridge.{circuit-graph, circuit-small, circuit-fits, circuit-acyclic, circuit-evaluates, circuit-order-pins}
use Rattle.cb_verify.proofs.sequence.gate_order.Goals as goal

pub order-requires-clause-items : goal.order-requires-clause-items
order-requires-clause-items c = subst graph.IsGraph (sym c.in_ok-graph.ensures) (circuit-graph c.args.circuit.now c.requires.flattened)

pub order-requires-clause-small : goal.order-requires-clause-small
order-requires-clause-small c =
    let P : List (List ℕ) → Type 0 = λ g. length g ≤ 2 ^ 32 in
    let a = circuit-small c.args.circuit.now c.requires.flattened in
    let b = circuit-fits c.args.circuit.now c.requires.flattened in
    subst P (sym c.in_ok-graph.ensures) (let q : length (gate_needs c.args.circuit.now) ≤ 2 ^ 32 = omega (arith, a, b) in q)

pub unreachable-requires : goal.unreachable-requires
unreachable-requires c =
    let g = c.in_ok-graph.graph in
    let P : Option (Vec ℕ Global) → Type 0 = λ o. MatchOption o (graph.HasCycle g) (λ v. graph.IsOrder g v.items) in
    circuit-acyclic c.args.circuit.now c.requires.flattened (subst graph.HasCycle c.in_ok-graph.ensures (subst P c.in-None.is c.in_ok-order.ensures.order))

pub returns-clause-order : goal.returns-clause-order
returns-clause-order c =
    let g = c.in_ok-graph.graph in
    let P : Option (Vec ℕ Global) → Type 0 = λ o. MatchOption o (graph.HasCycle g) (λ v. graph.IsOrder g v.items) in
    circuit-evaluates c.args.circuit.now c.requires.flattened c.in-Some.order.items (subst (λ x. graph.IsOrder x c.in-Some.order.items) c.in_ok-graph.ensures (subst P c.in-Some.is c.in_ok-order.ensures.order))

pub returns-clause-pins : goal.returns-clause-pins
returns-clause-pins c =
    let g = c.in_ok-graph.graph in
    let P : Option (Vec ℕ Global) → Type 0 = λ o. MatchOption o (graph.HasCycle g) (λ v. graph.IsOrder g v.items) in
    circuit-order-pins c.args.circuit.now c.requires.flattened c.in-Some.order.items (subst (λ x. graph.IsOrder x c.in-Some.order.items) c.in_ok-graph.ensures (subst P c.in-Some.is c.in_ok-order.ensures.order))
