use Rattle.cb_model.specs.Bits.{bits_of}
use Rattle.cb_verify.proofs.Unequal.{value-end}
use Rattle.cb_verify.proofs.differences.value.Goals as goal

pub returns : goal.returns
returns c = value-end c.args.ops.now.triples c.loop-level.at.0 c.args.node.0 c.eq.result (bits_of c.args.input.now) c.in_default.ensures.constant.1 c.loop-level.invariant.same c.eq.ensures
