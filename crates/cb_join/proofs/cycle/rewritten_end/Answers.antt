use Rattle.std.proofs.Common.{◌∙◌, ap, arith, Ok}
use Rattle.cb_join.proofs.Follow.{new-idle, settled-idle}
use Rattle.cb_join.proofs.Roots.{settled-finite, whole-finite}
use Rattle.cb_join.proofs.cycle.rewritten_end.Goals as goal

pub roots_end-requires-clause-idle : goal.roots_end-requires-clause-idle
roots_end-requires-clause-idle c =
    new-idle c.args.heap.now.cells 0 c.extend.new.work (λ r less. absurd (let x = less in omega arith)) (let a = c.in_ok-extend.ensures.number in let n = c.len-count.ensures.number in omega (arith, a, n))
    c.in_ok-extend.ensures.new (c.in_ok-extend.ensures.met ∙ c.requires.empty.0) (c.in_ok-extend.ensures.way ∙ c.requires.empty.1)

pub roots_end-requires-2-clause-idle : goal.roots_end-requires-2-clause-idle
roots_end-requires-2-clause-idle c =
    let ends = c.in_ok-roots_end.ensures.ends (ap Ok c.if-not-branch.false) in
    settled-idle c.args.heap.now.cells 0 c.args.settled c.roots_end.new.work (c.in_ok-roots_end.ensures.idle (ap Ok c.if-not-branch.false))
    (settled-finite c.args.heap.now c.args.since c.requires.since c.requires.none_added c.requires.before c.requires.ends c.args.settled c.requires.settled ends)

pub returns-clause-finite : goal.returns-clause-finite
returns-clause-finite c h =
    whole-finite c.args.heap.now c.args.since c.requires.since c.requires.none_added c.requires.before c.requires.ends c.len-count.result c.len-count.ensures.number (c.roots_end-2.ensures.ends h)
