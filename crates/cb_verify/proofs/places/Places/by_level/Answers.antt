use Rattle.std.proofs.Common.{length, ap, arith}
use Rattle.cb_verify.proofs.Spread.{all-spread}
use Rattle.cb_verify.proofs.places.Places.by_level.Goals as goal

pub returns : goal.returns
returns c =
    all-spread c.args.self.now.order.items c.args.self.now.levels.items c.requires.places c.args.row.now c.requires.as_many c.loop-input.bits.items c.loop-input.input-index
    (omega (arith, c.loop-input-test.false, ap length c.loop-input.invariant.items)) c.loop-input.invariant.bits
