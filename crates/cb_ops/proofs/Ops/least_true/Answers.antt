use Rattle.std.proofs.Common.{◌≡◌, ◌<◌, ◌^◌, length, get_or, refl, arith, ◌∙◌}
use Rattle.cb_ops.proofs.Least.{least-above, least-more, least-end}
use Rattle.cb_ops.proofs.Ops.least_true.Goals as goal

pub least_side-bit-requires-clause-above : goal.least_side-bit-requires-clause-above
least_side-bit-requires-clause-above c =
    let fits = c.type_inv.levels c.loop-i.i in
    let small : get_or c.args.levels.now c.loop-i.i 0 < 2 ^ 32 = omega (arith, fits) in
    least-above c.args.self.now.triples c.count-count.ensures.diagram c.args.f.0 c.args.levels.now c.loop-i.i c.loop-i.into c.loop-i.n.0 c.requires.rise c.loop-i-test.true c.loop-i.invariant (get_or c.args.levels.now c.loop-i.i 0) refl small

pub loop-i-preserved : goal.loop-i-preserved
loop-i-preserved c =
    least-more c.args.self.now.triples c.count-count.ensures.diagram c.args.f.0 c.args.levels.now c.loop-i.i c.loop-i.into c.loop-i.n.0 c.requires.rise c.loop-i-test.true c.loop-i.invariant (get_or c.args.levels.now c.loop-i.i 0) refl
    (c.loop-i.auto.into ∙ c.requires.as_many) c.least_side-bit.result.0 c.least_side-bit.result.1.0 c.least_side-bit.ensures.side

pub returns-clause-least : goal.returns-clause-least
returns-clause-least c =
    let end : c.loop-i.i ≡ length c.args.levels.now = omega (arith, c.loop-i.auto.i-end, c.loop-i-test.false) in
    λ _. least-end c.args.self.now.triples c.count-count.ensures.diagram c.args.f.0 c.args.levels.now c.loop-i.into c.loop-i.n.0 c.loop-i.i end (c.loop-i.auto.into ∙ c.requires.as_many) c.loop-i.invariant
