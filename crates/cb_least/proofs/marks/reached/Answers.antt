use Rattle.std.proofs.Common.{◌≡◌, ◌-◌, length, sym, ap, subst, ◌∙◌, arith}
use Rattle.cb_least.specs.Beginning.{AreMarks}
use Rattle.cb_least.proofs.Marking.{written, more-marks}
use Rattle.cb_least.proofs.marks.reached.Goals as goal

pub loop-at-preserved : goal.loop-at-preserved
loop-at-preserved c =
    let ts = c.args.ops.now.triples in
    let old = c.deref_mut.result.now in
    let new = c.mark_children.new.marks in
    let e : old ≡ c.loop-at.marks.items = c.deref_mut.ensures.value in
    let m = c.mark_children.ensures in
    let long : length new ≡ length old = c.mark_children.auto.marks in
    record {
      within = omega (arith, c.loop-at.invariant.within);
      marks = subst (AreMarks ts c.args.root.0 (c.loop-at.at - 1)) (sym (written new c.loop-at.marks.items c.loop-at.marks.len (long ∙ ap length e) (omega (arith, c.loop-at.marks.ok))))
          (more-marks ts c.args.root.0 c.loop-at.at old new c.loop-at-test.true c.loop-at.invariant.within (subst (AreMarks ts c.args.root.0 c.loop-at.at) (sym e) c.loop-at.invariant.marks) long m.kept m.above m.children);
    }
