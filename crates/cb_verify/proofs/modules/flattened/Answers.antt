use Rattle.cb_circ.specs.At.{flat_at}
use Rattle.cb_flat.proofs.Carry.{total_has_one}
use Rattle.cb_verify.proofs.modules.flattened.Goals as goal

pub returns-in-Ok-clause-flattened : goal.returns-in-Ok-clause-flattened
returns-in-Ok-clause-flattened c = record { is = c.in-Ok.ensures.is; carries = c.flat.ensures.carries; pins = c.in-Ok.ensures.pins; small = c.in-Ok.ensures.small }

pub returns-in-Ok-clause-determined : goal.returns-in-Ok-clause-determined
returns-in-Ok-clause-determined c = total_has_one (flat_at c.args.circuits.now c.args.m) c.flat.ensures.carries.total

pub returns-in-Err-clause-determined : goal.returns-in-Err-clause-determined
returns-in-Err-clause-determined c = total_has_one (flat_at c.args.circuits.now c.args.m) c.flat.ensures.carries.total
