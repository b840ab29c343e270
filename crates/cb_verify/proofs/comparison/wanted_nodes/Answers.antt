use Rattle.std.proofs.Common.{IfOk, sym, subst}
use Rattle.cb_model.specs.Bits.{Bits}
use Rattle.cb_verify.specs.Nodes.{node_bits}
use Rattle.cb_verify.specs.Wanted.{Wants}
use Rattle.cb_verify.proofs.comparison.wanted_nodes.Goals as goal

pub returns-in-Second-clause-values : goal.returns-in-Second-clause-values
returns-in-Second-clause-values c =
    subst (λ w. IfOk c.unfold_circuit.result (λ ns. (a : Bits) → Wants w (node_bits c.args.ops.now.triples c.args.inputs.now a) (node_bits c.unfold_circuit.new.ops.triples ns.items a))) (sym c.in-Second.is) c.unfold_circuit.ensures.outputs
