use Rattle.cb_model.specs.Bits.{bits_of}
use Rattle.cb_verify.proofs.Unequal.{not-here, some-differs, same_bits}
use Rattle.cb_verify.proofs.differences.first_difference.Goals as goal

pub loop-i-preserved : goal.loop-i-preserved
loop-i-preserved c =
    not-here c.args.ops.now.triples c.args.got.now c.args.wanted.now (bits_of c.args.input.now) c.requires.as_many c.loop-i.i c.loop-i-test.true (record { 0 = 0 }) c.value-x.result c.value-y.result c.value-x.ensures c.value-y.ensures c.loop-i.invariant (same_bits c.value-x.result c.value-y.result c.if-x-y.false)

pub unreachable-requires : goal.unreachable-requires
unreachable-requires c =
    some-differs c.args.ops.now.triples c.args.got.now c.args.wanted.now (bits_of c.args.input.now) c.loop-i.i c.requires.as_many c.loop-i-test.false c.loop-i.invariant c.requires.differ
