use Rattle.std.proofs.Common.{◌≡◌, ◌↔◌, Bool, sym, subst}
use Rattle.std.specs.Prelude.{IsTrue}
use Rattle.cb_model.specs.Bits.{Bits}
use Rattle.cb_dd.specs.Diagram.{function_of}
use Rattle.cb_unify.proofs.Delays.{some-constant}
use Rattle.cb_unify.proofs.holds.is_constant.Goals as goal

pub returns : goal.returns
returns c =
    subst (λ (x : Bool). IsTrue x ↔ ((b : Bool) × ((p : Bits) → function_of c.args.store.now.nodes.triples c.args.value.0 p ≡ b))) (sym c.is_some.ensures)
    (some-constant c.is_const.result (function_of c.args.store.now.nodes.triples c.args.value.0) c.is_const.ensures)
