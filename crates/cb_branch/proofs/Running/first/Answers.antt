use Rattle.std.proofs.Common.{[], sym, ◌∙◌}
use Rattle.cb_branch.proofs.Calls.{goals-here, top-here}
use Rattle.cb_branch.proofs.Looks.{top-inside}
use Rattle.cb_branch.proofs.Branches.{is-text}
use Rattle.cb_branch.proofs.Takes.{first-call, first-called, first-circuit, first-equal, first-fail, first-nothing, first-place, first-true}
use Rattle.cb_branch.proofs.Running.first.Goals as goal

pub first-requires : goal.first-requires
first-requires c = top-here c.args.self.now c.self.inside.program.now c.self.inside.query.now c.self.inside.state c.self.inside.frames.items c.self.inside.goals c.self.inside.top c.self.inside.steps c.self.inside.waits c.self.inside.parked.items c.self.view_is (top-inside c.args.self.now c.requires.0 c.requires.1)

pub returns-in_default : goal.returns-in_default
returns-in_default c = λ b is. first-nothing c.args.self.now b is (goals-here c.args.self.now c.self.inside.program.now c.self.inside.query.now c.self.inside.state c.self.inside.frames.items c.self.inside.goals c.self.inside.top c.self.inside.steps c.self.inside.waits c.self.inside.parked.items c.self.view_is [] c.in_default.ensures.none)

pub written-written-requires : goal.written-written-requires
written-written-requires c = first-place c.args.self.now c.requires.0 c.requires.1 c.in-Some.pending _ (goals-here c.args.self.now c.self.inside.program.now c.self.inside.query.now c.self.inside.state c.self.inside.frames.items c.self.inside.goals c.self.inside.top c.self.inside.steps c.self.inside.waits c.self.inside.parked.items c.self.view_is _ c.in-Some.ensures.some.0) (is-text c.in-Some.pending c.in_default-pending.not-Called)

pub unreachable-requires : goal.unreachable-requires
unreachable-requires c = first-circuit c.args.self.now c.requires.0 c.requires.1 c.in-Some.pending _ (goals-here c.args.self.now c.self.inside.program.now c.self.inside.query.now c.self.inside.state c.self.inside.frames.items c.self.inside.goals c.self.inside.top c.self.inside.steps c.self.inside.waits c.self.inside.parked.items c.self.view_is _ c.in-Some.ensures.some.0) (is-text c.in-Some.pending c.in_default-pending.not-Called) c.in-Circuit.field-0 c.in-Circuit.field-1 c.in-Circuit.field-2 (λ w at. sym (c.written-written.ensures w at).0 ∙ c.in-Circuit.is)

pub returns-in-True : goal.returns-in-True
returns-in-True c = λ b is. first-true c.args.self.now b is c.in-Some.pending _ (goals-here c.args.self.now c.self.inside.program.now c.self.inside.query.now c.self.inside.state c.self.inside.frames.items c.self.inside.goals c.self.inside.top c.self.inside.steps c.self.inside.waits c.self.inside.parked.items c.self.view_is _ c.in-Some.ensures.some.0) (is-text c.in-Some.pending c.in_default-pending.not-Called) (λ w at. sym (c.written-written.ensures w at).0 ∙ c.in-True.is)

pub returns-in-Fail : goal.returns-in-Fail
returns-in-Fail c = λ b is. first-fail c.args.self.now b is c.in-Some.pending _ (goals-here c.args.self.now c.self.inside.program.now c.self.inside.query.now c.self.inside.state c.self.inside.frames.items c.self.inside.goals c.self.inside.top c.self.inside.steps c.self.inside.waits c.self.inside.parked.items c.self.view_is _ c.in-Some.ensures.some.0) (is-text c.in-Some.pending c.in_default-pending.not-Called) (λ w at. sym (c.written-written.ensures w at).0 ∙ c.in-Fail.is)

pub returns-in-Equal : goal.returns-in-Equal
returns-in-Equal c = λ b is. first-equal c.args.self.now b is c.in-Some.pending _ (goals-here c.args.self.now c.self.inside.program.now c.self.inside.query.now c.self.inside.state c.self.inside.frames.items c.self.inside.goals c.self.inside.top c.self.inside.steps c.self.inside.waits c.self.inside.parked.items c.self.view_is _ c.in-Some.ensures.some.0) (is-text c.in-Some.pending c.in_default-pending.not-Called) c.in-Equal.field-0 c.in-Equal.field-1 (λ w at. sym (c.written-written.ensures w at).0 ∙ c.in-Equal.is)

pub returns-in-Call : goal.returns-in-Call
returns-in-Call c = λ b is. first-call c.args.self.now b is c.in-Some.pending _ (goals-here c.args.self.now c.self.inside.program.now c.self.inside.query.now c.self.inside.state c.self.inside.frames.items c.self.inside.goals c.self.inside.top c.self.inside.steps c.self.inside.waits c.self.inside.parked.items c.self.view_is _ c.in-Some.ensures.some.0) (is-text c.in-Some.pending c.in_default-pending.not-Called) c.in-Call.pred c.in-Call.field-1 (λ w at. sym (c.written-written.ensures w at).0 ∙ c.in-Call.is)

pub returns-in-Called : goal.returns-in-Called
returns-in-Called c = λ b is. first-called c.args.self.now b is c.in-Some.pending _ (goals-here c.args.self.now c.self.inside.program.now c.self.inside.query.now c.self.inside.state c.self.inside.frames.items c.self.inside.goals c.self.inside.top c.self.inside.steps c.self.inside.waits c.self.inside.parked.items c.self.view_is _ c.in-Some.ensures.some.0) c.in-Called.pred _ c.in-Called.is
