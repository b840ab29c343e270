use Rattle.std.proofs.Common.{subst}
use Rattle.cb_levels.specs.Inverse.{IsInverse}
use Rattle.cb_verify.proofs.Spread.{places-are}
use Rattle.cb_verify.proofs.places.Places.of.Goals as goal

pub returns : goal.returns
returns c =
    places-are c.args.circuit.now.inputs c.in_ok-order.order.items c.in_ok-levels.levels.items c.in_ok-order.ensures
    (subst (λ order. IsInverse order c.in_ok-levels.levels.items) c.as_slice.ensures.value c.in_ok-levels.ensures)
