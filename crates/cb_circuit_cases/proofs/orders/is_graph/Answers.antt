use Rattle.cb_circuit_cases.proofs.Graphs.{graph-of}
use Rattle.cb_circuit_cases.proofs.orders.is_graph.Goals as goal

pub returns : goal.returns
returns c t = graph-of c.args.graph.now c.items.result.now c.len.result c.items.ensures c.len.ensures (c.are_below.ensures t)
