use Rattle.std.proofs.Common.{◌++◌, length, map, ap, sym, ◌∙◌, arith, append-nil}
use Rattle.cb_circ.specs.Owners.{wanted}
use Rattle.cb_circ.specs.View.{module_view}
use Rattle.cb_circ.proofs.Loops.{past}
use Rattle.cb_circ.proofs.Marking.{within-as, ins-at}
use Rattle.cb_circ.proofs.Owning.{owned-all-long, graph-is}
use Rattle.cb_circ.proofs.owners.graph.Goals as goal

pub want-requires : goal.want-requires
want-requires c =
    within-as (length c.args.raw.now.nets) _ _ c.list.result.now (ins-at c.args.raw.now c.requires.well c.loop-instance.instance (omega (arith, c.loop-instance-test.true, c.len-instance-end.ensures)))
    (ap length c.as_slice.ensures.value ∙ ap length c.in_ok-owners.ensures ∙ owned-all-long (length c.args.raw.now.nets) c.args.raw.now.outs) c.list.ensures

pub returns : goal.returns
returns c =
    let r = c.args.raw.now in
    let os = c.in_ok-owners.owners.items in
    sym (c.loop-instance.invariant ∙ ap (λ kss. c.loop-instance.graph ++ map (wanted os) kss) (past r.ins c.loop-instance.instance (omega (arith, c.loop-instance-test.false, c.len-instance-end.ensures))) ∙ append-nil c.loop-instance.graph)
    ∙ ap (λ v. map (wanted v) r.ins) c.in_ok-owners.ensures ∙ graph-is (module_view r) r.nets c.requires.well.fit
