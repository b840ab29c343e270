use Rattle.std.proofs.Common.{◌↔◌, sym, subst}
use Rattle.std.specs.Prelude.{IsTrue, IfOk}
use Rattle.cb_model.specs.declared.When.{When}
use Rattle.cb_dd.specs.Diagram.{function_of}
use Rattle.cb_unify.specs.Delays.{IsSettledBit}
use Rattle.cb_unify.proofs.holds.is_settled.Goals as goal

pub returns-in-Known : goal.returns-in-Known
returns-in-Known c =
    subst (λ (d : When). IfOk c.known.result (λ b. IsTrue b ↔ IsSettledBit c.args.store.now.constants d (function_of c.args.store.now.nodes.triples c.args.value.0))) (sym c.in-Known.is) c.known.ensures
