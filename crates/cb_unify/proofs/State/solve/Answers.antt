use Rattle.std.proofs.Common.{◌∙◌, ap, Ok}
use Rattle.cb_unify.proofs.Inside.{seen}
use Rattle.cb_unify.proofs.Solving.{settled-now, solved-rewritten, solved-state, back-moments, back-state, heap-back, no-err, state-alone}
use Rattle.cb_unify.proofs.State.solve.Goals as goal

pub invariant_of-self : goal.invariant_of-self
invariant_of-self c =
    settled-now c.len-self-inside.result c.attempt-solved.new.heap c.attempt-solved.ensures.heap c.len-self-inside.ensures.number

pub returns-in-Ok-true-clause-rewritten : goal.returns-in-Ok-true-clause-rewritten
returns-in-Ok-true-clause-rewritten c _ =
    solved-rewritten c.args.self.now (seen c.self.inside) c.self.view_is c.requires.state c.attempt-solved.new.heap c.attempt-solved.new.store c.attempt-solved.ensures.kept.sorts c.attempt-solved.ensures.heap (c.attempt-solved.ensures.solved (c.in-Ok-true.is ∙ ap Ok c.in-Ok-true.field-0-test)).leaves.0 (c.attempt-solved.ensures.solved (c.in-Ok-true.is ∙ ap Ok c.in-Ok-true.field-0-test)).leaves.1 (c.attempt-solved.ensures.solved (c.in-Ok-true.is ∙ ap Ok c.in-Ok-true.field-0-test)).values

pub returns-in-Ok-true-clause-state : goal.returns-in-Ok-true-clause-state
returns-in-Ok-true-clause-state c =
    solved-state c.args.self.now (seen c.self.inside) c.self.view_is c.requires.state c.attempt-solved.new.heap c.attempt-solved.new.store c.attempt-solved.ensures.kept.sorts c.attempt-solved.ensures.heap (c.attempt-solved.ensures.solved (c.in-Ok-true.is ∙ ap Ok c.in-Ok-true.field-0-test)).leaves.0 (c.attempt-solved.ensures.solved (c.in-Ok-true.is ∙ ap Ok c.in-Ok-true.field-0-test)).leaves.1 (c.attempt-solved.ensures.solved (c.in-Ok-true.is ∙ ap Ok c.in-Ok-true.field-0-test)).values c.attempt-solved.ensures.store (c.attempt-solved.ensures.solved (c.in-Ok-true.is ∙ ap Ok c.in-Ok-true.field-0-test)).finite

pub returns-in-Err-clause-moments : goal.returns-in-Err-clause-moments
returns-in-Err-clause-moments c =
    back-moments c.args.self.now (seen c.self.inside) c.self.view_is c.requires.state c.undo-in-Err.new.self c.attempt-solved.new.store
    (c.undo-in-Err.ensures.back c.self.inside.heap (heap-back c.args.self.now (seen c.self.inside) c.self.view_is c.requires.state) c.mark-before.ensures.moment c.attempt-solved.ensures.kept.terms)
    (c.attempt-solved.ensures.as_before (no-err c.attempt-solved.result c.in-Err.stop c.in-Err.is))

pub returns-in-Err-clause-state : goal.returns-in-Err-clause-state
returns-in-Err-clause-state c =
    back-state c.args.self.now (seen c.self.inside) c.self.view_is c.requires.state c.undo-in-Err.new.self c.attempt-solved.new.store
    (c.undo-in-Err.ensures.back c.self.inside.heap (heap-back c.args.self.now (seen c.self.inside) c.self.view_is c.requires.state) c.mark-before.ensures.moment c.attempt-solved.ensures.kept.terms)
    (c.attempt-solved.ensures.as_before (no-err c.attempt-solved.result c.in-Err.stop c.in-Err.is))

pub attempt-solved-requires-clause-state : goal.attempt-solved-requires-clause-state
attempt-solved-requires-clause-state c = state-alone (seen c.self.inside) c.args.self.now c.self.view_is c.requires.state
