use Rattle.std.proofs.Common.{◌≡◌, ◌<◌, ◌≤◌, ◌+◌, true, false, inl, inr, length, get_or, slice_set, length-set, sym, ap, subst, ◌∙◌, arith, rules}
use Rattle.std.proofs.lemmas.Bool.{cases_eq, true≢false}
use Rattle.cb_least.specs.Beginning.{IsReach}
use Rattle.cb_least.proofs.Marking.{before-next, child-low}
use Rattle.cb_least.proofs.Reaches.{start-right, next-right}
use Rattle.cb_least.proofs.passes.reach_of_root.Goals as goal
use Rattle.cb_least.proofs.passes.reach_of_root.Goals.{then-marks-at, else-marks-at}

pub loop-at-init : goal.loop-at-init
loop-at-init c = record {
  low = omega arith;
  right = λ n l is. start-right c.args.ops.now.triples c.args.prefix.now.order.now c.args.prefix.now.bits.now c.args.prefix.now.next c.args.reaches.now (omega (arith, c.requires.room, c.requires.some)) n l;
}

pub reach-found-requires-clause-children : goal.reach-found-requires-clause-children
reach-found-requires-clause-children c level lo hi parts =
    let ts = c.args.ops.now.triples in
    let root = c.args.root.0 in
    let at = c.loop-at.at in
    let here : get_or c.args.marks.now at false ≡ true = search rules in
    let within : at ≤ root = omega arith in
    let m = c.requires.marks.closed at level lo hi (omega (arith, c.loop-at.invariant.low)) within here parts in
    let low = child-low ts c.count-count.ensures.diagram at level lo hi (omega (arith, within, c.requires.node)) parts in
    (c.loop-at.invariant.right lo.0 low.0 m.0, c.loop-at.invariant.right hi.0 low.1 m.1)

pub loop-at-preserved : goal.loop-at-preserved
loop-at-preserved c =
    let on = c.requires.nexts.on c.loop-at.at (omega (arith, c.requires.marks.long, c.loop-at-test.true)) in
    record {
      low = omega (arith, on, c.loop-at.invariant.low);
      right = elim c.if-marks-at.branch [
        | then-marks-at w ↦ λ n l is.
            let p = c.args.prefix.now in
            let ts = c.args.ops.now.triples in
            let at = c.loop-at.at in
            let long : at < length c.loop-at.reaches = omega (arith, c.loop-at.auto.reaches, c.loop-at-test.true, c.requires.room, length-set (slice_set c.args.reaches.now 0 0) 1 (length p.order.now + 1), length-set c.args.reaches.now 0 0) in
            subst (λ rs. IsReach ts p.order.now p.bits.now p.next n (get_or rs n 0)) (sym w.reaches-is)
            (next-right ts p.order.now p.bits.now p.next at w.reach-found.result c.args.marks.now c.loop-at.reaches long w.reach-found.ensures c.loop-at.invariant.right n (before-next c.args.marks.now c.args.nexts.now c.requires.nexts c.loop-at.at (omega (arith, c.requires.marks.long, c.loop-at-test.true)) n l is) is)
        | else-marks-at w ↦ λ n l is.
            let p = c.args.prefix.now in
            let ts = c.args.ops.now.triples in
            subst (λ rs. IsReach ts p.order.now p.bits.now p.next n (get_or rs n 0)) (sym w.reaches-is)
            (elim (cases_eq n c.loop-at.at) [
              | inl e ↦ absurd (true≢false (sym is ∙ ap (λ k. get_or c.args.marks.now k false) e ∙ w.if-marks-at.false))
              | inr ne ↦
                  let m = before-next c.args.marks.now c.args.nexts.now c.requires.nexts c.loop-at.at (omega (arith, c.requires.marks.long, c.loop-at-test.true)) n l is in
                  c.loop-at.invariant.right n (omega (arith, m, ne)) is
            ])
      ];
    }
