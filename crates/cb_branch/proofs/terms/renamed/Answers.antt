use Rattle.std.proofs.Common.{ap, Ok, Bool}
use Rattle.cb_branch.proofs.Cells.{head-buildable, renamed-no, renamed-yes, there-later}
use Rattle.cb_branch.proofs.terms.renamed.Goals as goal

pub headed-requires-clause-call : goal.headed-requires-clause-call
headed-requires-clause-call c = there-later c.args.state.now c.variables.new.state c.args.call.0 c.in_ok-frame.ensures.adds.grown c.requires.call

pub headed-requires-clause-buildable : goal.headed-requires-clause-buildable
headed-requires-clause-buildable c =
    let h = c.requires.head in
    (h.0, c.args.sorts.now, head-buildable h.0 c.args.state.now c.variables.new.state c.args.sorts.now c.in_ok-frame.frame c.args.name c.args.head.now c.in_ok-frame.ensures.adds h.1)

pub returns-in-Ok-true-clause-yes : goal.returns-in-Ok-true-clause-yes
returns-in-Ok-true-clause-yes c =
    renamed-yes c.args.state.now c.variables.new.state c.headed.new.state c.args.sorts.now c.in_ok-frame.frame c.args.name c.args.call.0 c.args.head.now c.in_ok-frame.ensures.state c.in-Ok-true.ensures.state
    c.in_ok-frame.ensures.adds (c.in-Ok-true.ensures.yes (ap (λ (b : Bool). Ok b) c.in-Ok-true.field-0-test))

pub returns-in-Ok-false-clause-no : goal.returns-in-Ok-false-clause-no
returns-in-Ok-false-clause-no c =
    renamed-no c.args.state.now c.variables.new.state c.headed.new.state c.args.sorts.now c.in_ok-frame.frame c.args.name c.args.call.0 c.args.head.now c.in_ok-frame.ensures.state c.in-Ok-false.ensures.state
    c.in_ok-frame.ensures.adds (c.in-Ok-false.ensures.no (ap (λ (b : Bool). Ok b) c.in-Ok-false.field-0-test))
