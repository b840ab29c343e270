use Rattle.std.proofs.Common.{◌∙◌, sym, arith}
use Rattle.cb_verify.proofs.Rows.{before-here, differ_bits}
use Rattle.cb_verify.proofs.least.is_before.Goals as goal

pub returns-then-x-y : goal.returns-then-x-y
returns-then-x-y c = before-here c.args.one.now c.args.two.now c.loop-i.i c.requires (omega arith) (differ_bits _ _ c.if-x-y.true) ∙ sym c.loop-i.invariant
