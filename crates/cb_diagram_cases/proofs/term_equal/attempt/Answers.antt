use Rattle.std.proofs.Common.{ap, Ok}
use Rattle.cb_unify.proofs.Solving.{then-ends}
use Rattle.cb_diagram_cases.proofs.term_equal.attempt.Goals as goal

pub is_finite-requires-clause-ends : goal.is_finite-requires-clause-ends
is_finite-requires-clause-ends c =
    then-ends c.args.heap.now c.join.new.heap c.requires.sound.heap c.in_ok-join.ensures.moments c.mark-since.result c.mark-since.ensures.moment c.mark-since.ensures.now
    (c.in_ok-join.ensures.keeps (ap Ok c.if-not-branch.false)).ends
