use Rattle.std.proofs.Common.{[], ◌∙◌, sym}
use Rattle.cb_model.specs.declared.Goal.TheVariants as goal_is
use Rattle.cb_branch.proofs.Branches.{is-text}
use Rattle.cb_branch.proofs.Calls.{call-name, goals-here, list-inside, not-call, not-nothing, place-there, top-here}
use Rattle.cb_branch.proofs.Looks.{names-inside}
use Rattle.cb_branch.proofs.Parking.{at-once, not-delayed}
use Rattle.cb_branch.proofs.Running.runs_at_once.Goals as goal

pub first-requires : goal.first-requires
first-requires c = top-here c.args.self.now c.self.inside.program.now c.self.inside.query.now c.self.inside.state c.self.inside.frames.items c.self.inside.goals c.self.inside.top c.self.inside.steps c.self.inside.waits c.self.inside.parked.items c.self.view_is (list-inside c.args.self.now (goal_is.Call c.requires.first.0 c.requires.first.1) c.requires.first.2)

pub unreachable-requires : goal.unreachable-requires
unreachable-requires c = not-nothing c.args.self.now (goal_is.Call c.requires.first.0 c.requires.first.1) c.requires.first.2 (goals-here c.args.self.now c.self.inside.program.now c.self.inside.query.now c.self.inside.state c.self.inside.frames.items c.self.inside.goals c.self.inside.top c.self.inside.steps c.self.inside.waits c.self.inside.parked.items c.self.view_is [] c.in_default.ensures.none)

pub written-written-requires : goal.written-written-requires
written-written-requires c = place-there c.args.self.now (goal_is.Call c.requires.first.0 c.requires.first.1) c.requires.first.2 c.in-Some.pending _ (goals-here c.args.self.now c.self.inside.program.now c.self.inside.query.now c.self.inside.state c.self.inside.frames.items c.self.inside.goals c.self.inside.top c.self.inside.steps c.self.inside.waits c.self.inside.parked.items c.self.view_is _ c.in-Some.ensures.some.0) (is-text c.in-Some.pending c.in_default-pending.not-Called)

pub unreachable-requires-in_default-goal : goal.unreachable-requires-in_default-goal
unreachable-requires-in_default-goal c =
    not-call c.args.self.now c.requires.first.0 c.requires.first.1 c.requires.first.2 c.in-Some.pending _ (goals-here c.args.self.now c.self.inside.program.now c.self.inside.query.now c.self.inside.state c.self.inside.frames.items c.self.inside.goals c.self.inside.top c.self.inside.steps c.self.inside.waits c.self.inside.parked.items c.self.view_is _ c.in-Some.ensures.some.0) (is-text c.in-Some.pending c.in_default-pending.not-Called)
    c.written-written.result.goal.now (λ w at. (c.written-written.ensures w at).0) (λ u v e. c.in_default-goal.not-Call u v e)

pub is_delayed-requires : goal.is_delayed-requires
is_delayed-requires c = record { name = names-inside c.args.self.now c.self.inside.program.now c.self.inside.query.now c.self.inside.state c.self.inside.frames.items c.self.inside.goals c.self.inside.top c.self.inside.steps c.self.inside.waits c.self.inside.parked.items c.self.view_is c.in-Call.pred (call-name c.args.self.now c.requires.first.0 c.requires.first.1 c.requires.first.2 c.in-Some.pending _ (goals-here c.args.self.now c.self.inside.program.now c.self.inside.query.now c.self.inside.state c.self.inside.frames.items c.self.inside.goals c.self.inside.top c.self.inside.steps c.self.inside.waits c.self.inside.parked.items c.self.view_is _ c.in-Some.ensures.some.0) (is-text c.in-Some.pending c.in_default-pending.not-Called) c.in-Call.pred _ (λ w at. sym (c.written-written.ensures w at).0 ∙ c.in-Call.is)) }

pub returns : goal.returns
returns c = λ e b g rest is f.
    at-once c.args.self.now c.self.inside.program.now c.self.inside.query.now c.self.inside.state c.self.inside.frames.items c.self.inside.goals c.self.inside.top c.self.inside.steps c.self.inside.waits c.self.inside.parked.items c.self.view_is c.in-Some.pending c.in-Some.field-0-1 c.in-Call.pred c.len.result _ c.in-Some.ensures.some.0 (is-text c.in-Some.pending c.in_default-pending.not-Called) (λ w at. sym (c.written-written.ensures w at).0 ∙ c.in-Call.is) c.len.ensures
    (c.is_delayed.ensures.no (not-delayed c.is_delayed.result e)) b g rest is f
