use Rattle.std.proofs.Common.{length, ap, arith}
use Rattle.cb_circ.proofs.Marking.{within-as, outs-at}
use Rattle.cb_circ.proofs.owners.owners.Goals as goal

pub own-requires : goal.own-requires
own-requires c =
    within-as (length c.args.raw.now.nets) _ _ c.list.result.now (outs-at c.args.raw.now c.requires.well c.loop-instance.instance (omega (arith, c.loop-instance-test.true, c.len-instance-end.ensures)))
    (omega (arith, ap length c.as_mut_slice.ensures.value, c.loop-instance.invariant.long)) c.list.ensures
