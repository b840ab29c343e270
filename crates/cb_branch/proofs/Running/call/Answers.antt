use Rattle.std.proofs.Common.{List, [], sym, append-nil, arith}
use Rattle.cb_model.specs.declared.Goal.TheVariants as goal_is
use Rattle.std.proofs.Common.{ap, ◌∙◌}
use Rattle.cb_model.specs.declared.Tree.{Tree}
use Rattle.std.specs.Prelude.{Result}
use Rattle.cb_dd.specs.declared.Stop.{Stop}
use Rattle.cb_branch.specs.declared.Call.{Call}
use Rattle.cb_items.specs.Items.{wants_nodes}
use Rattle.cb_branch.proofs.Calls.{got-cells, frame-here, frame-number, goals-here, list-inside, not-call, not-nothing, place-there, top-here, call-can, call-is, read-at, rest-inside}
use Rattle.cb_branch.proofs.Methods.{keeps-to, wants-to}
use Rattle.cb_branch.proofs.Calls.{called-is, skip-keeps, state-here}
use Rattle.cb_branch.proofs.Branches.{is-text}
use Rattle.cb_branch.proofs.Running.call.Goals as goal

pub compound-requires-clause-state : goal.compound-requires-clause-state
compound-requires-clause-state c = state-here c.args.self.now c.self.inside.program.now c.self.inside.query.now c.self.inside.state c.self.inside.frames.items c.self.inside.goals c.self.inside.top c.self.inside.steps c.self.inside.waits c.self.inside.parked.items c.self.view_is c.requires.first.2.b c.requires.first.2.is

pub compound-requires-clause-buildable : goal.compound-requires-clause-buildable
compound-requires-clause-buildable c =
    let st = c.requires.first in
    call-can c.args.self.now c.self.inside.program.now c.self.inside.query.now c.self.inside.state c.self.inside.frames.items c.self.inside.goals c.self.inside.top c.self.inside.steps c.self.inside.waits c.self.inside.parked.items c.self.view_is c.in-Some.pending c.in-Some.rest c.in-Call.pred c.as_slice.result.now c.index-frame.result.now c.in-Some.ensures.some.0 (rest-inside c.args.self.now c.self.inside.program.now c.self.inside.query.now c.self.inside.state c.self.inside.frames.items c.self.inside.goals c.self.inside.top c.self.inside.steps c.self.inside.waits c.self.inside.parked.items c.self.view_is (goal_is.Call c.requires.first.0 c.requires.first.1) c.requires.first.2 c.in-Some.rest c.in-Some.ensures.some.1)
    (read-at c.args.self.now c.in-Some.pending c.written-written.result.goal.now (goal_is.Call c.in-Call.pred c.as_slice.result.now) c.written-written.result.frame c.index-frame.result.now c.self.inside.frames.items c.written-written.ensures (c.in-Call.is ∙ ap (λ (l : List Tree). goal_is.Call c.in-Call.pred l) (sym c.as_slice.ensures)) (got-cells c.self.inside.frames.items c.written-written.result.frame c.index-frame.result.now (frame-here c.args.self.now c.self.inside.program.now c.self.inside.query.now c.self.inside.state c.self.inside.frames.items c.self.inside.goals c.self.inside.top c.self.inside.steps c.self.inside.waits c.self.inside.parked.items c.self.view_is c.written-written.result.frame (frame-number c.args.self.now (goal_is.Call c.requires.first.0 c.requires.first.1) c.requires.first.2 c.in-Some.pending _ (goals-here c.args.self.now c.self.inside.program.now c.self.inside.query.now c.self.inside.state c.self.inside.frames.items c.self.inside.goals c.self.inside.top c.self.inside.steps c.self.inside.waits c.self.inside.parked.items c.self.view_is _ c.in-Some.ensures.some.0) (is-text c.in-Some.pending c.in_default-pending.not-Called) c.written-written.result.frame (λ w at. (c.written-written.ensures w at).1))) c.index-frame.ensures)) (is-text c.in-Some.pending c.in_default-pending.not-Called) st.2.b st.0 st.1 st.2.rest st.2.is st.2.goals

pub returns-in-Ok-clause-branch : goal.returns-in-Ok-clause-branch
returns-in-Ok-clause-branch c = λ b pred args rest is e.
    call-is c.args.self.now c.self.inside.program.now c.self.inside.query.now c.self.inside.state c.self.inside.frames.items c.self.inside.goals c.self.inside.top c.self.inside.steps c.self.inside.waits c.self.inside.parked.items c.self.view_is c.in-Some.pending c.in-Some.rest c.in-Call.pred c.as_slice.result.now c.index-frame.result.now c.in-Some.ensures.some.0 (rest-inside c.args.self.now c.self.inside.program.now c.self.inside.query.now c.self.inside.state c.self.inside.frames.items c.self.inside.goals c.self.inside.top c.self.inside.steps c.self.inside.waits c.self.inside.parked.items c.self.view_is (goal_is.Call c.requires.first.0 c.requires.first.1) c.requires.first.2 c.in-Some.rest c.in-Some.ensures.some.1)
    (read-at c.args.self.now c.in-Some.pending c.written-written.result.goal.now (goal_is.Call c.in-Call.pred c.as_slice.result.now) c.written-written.result.frame c.index-frame.result.now c.self.inside.frames.items c.written-written.ensures (c.in-Call.is ∙ ap (λ (l : List Tree). goal_is.Call c.in-Call.pred l) (sym c.as_slice.ensures)) (got-cells c.self.inside.frames.items c.written-written.result.frame c.index-frame.result.now (frame-here c.args.self.now c.self.inside.program.now c.self.inside.query.now c.self.inside.state c.self.inside.frames.items c.self.inside.goals c.self.inside.top c.self.inside.steps c.self.inside.waits c.self.inside.parked.items c.self.view_is c.written-written.result.frame (frame-number c.args.self.now (goal_is.Call c.requires.first.0 c.requires.first.1) c.requires.first.2 c.in-Some.pending _ (goals-here c.args.self.now c.self.inside.program.now c.self.inside.query.now c.self.inside.state c.self.inside.frames.items c.self.inside.goals c.self.inside.top c.self.inside.steps c.self.inside.waits c.self.inside.parked.items c.self.view_is _ c.in-Some.ensures.some.0) (is-text c.in-Some.pending c.in_default-pending.not-Called) c.written-written.result.frame (λ w at. (c.written-written.ensures w at).1))) c.index-frame.ensures)) (is-text c.in-Some.pending c.in_default-pending.not-Called) c.compound.new.state c.in-Ok.cell.0 c.in-Ok.ensures.state c.in-Ok.ensures.makes b pred args rest is e

pub returns-in-Ok-clause-keeps : goal.returns-in-Ok-clause-keeps
returns-in-Ok-clause-keeps c =
    keeps-to c.args.self.now c.self.inside.program.now c.self.inside.query.now c.self.inside.state c.self.inside.frames.items c.self.inside.goals c.self.inside.top c.self.inside.steps c.self.inside.waits c.self.inside.parked.items c.self.view_is c.compound.new.state _ (state-here c.args.self.now c.self.inside.program.now c.self.inside.query.now c.self.inside.state c.self.inside.frames.items c.self.inside.goals c.self.inside.top c.self.inside.steps c.self.inside.waits c.self.inside.parked.items c.self.view_is c.requires.first.2.b c.requires.first.2.is) c.in-Ok.ensures.moments c.in-Ok.ensures.refusals c.in-Ok.ensures.state c.self.inside.frames.items [] c.self.inside.goals [] c.in-Some.rest c.self.inside.steps
    (sym (append-nil c.self.inside.frames.items)) (sym (append-nil c.self.inside.goals))

pub first-requires : goal.first-requires
first-requires c = top-here c.args.self.now c.self.inside.program.now c.self.inside.query.now c.self.inside.state c.self.inside.frames.items c.self.inside.goals c.self.inside.top c.self.inside.steps c.self.inside.waits c.self.inside.parked.items c.self.view_is (list-inside c.args.self.now (goal_is.Call c.requires.first.0 c.requires.first.1) c.requires.first.2)

pub unreachable-requires : goal.unreachable-requires
unreachable-requires c = not-nothing c.args.self.now (goal_is.Call c.requires.first.0 c.requires.first.1) c.requires.first.2 (goals-here c.args.self.now c.self.inside.program.now c.self.inside.query.now c.self.inside.state c.self.inside.frames.items c.self.inside.goals c.self.inside.top c.self.inside.steps c.self.inside.waits c.self.inside.parked.items c.self.view_is [] c.in_default.ensures.none)

pub written-written-requires : goal.written-written-requires
written-written-requires c = place-there c.args.self.now (goal_is.Call c.requires.first.0 c.requires.first.1) c.requires.first.2 c.in-Some.pending _ (goals-here c.args.self.now c.self.inside.program.now c.self.inside.query.now c.self.inside.state c.self.inside.frames.items c.self.inside.goals c.self.inside.top c.self.inside.steps c.self.inside.waits c.self.inside.parked.items c.self.view_is _ c.in-Some.ensures.some.0) (is-text c.in-Some.pending c.in_default-pending.not-Called)

pub unreachable-requires-in_default-goal : goal.unreachable-requires-in_default-goal
unreachable-requires-in_default-goal c = not-call c.args.self.now c.requires.first.0 c.requires.first.1 c.requires.first.2 c.in-Some.pending _ (goals-here c.args.self.now c.self.inside.program.now c.self.inside.query.now c.self.inside.state c.self.inside.frames.items c.self.inside.goals c.self.inside.top c.self.inside.steps c.self.inside.waits c.self.inside.parked.items c.self.view_is _ c.in-Some.ensures.some.0) (is-text c.in-Some.pending c.in_default-pending.not-Called) c.written-written.result.goal.now (λ w at. (c.written-written.ensures w at).0) (λ u v e. c.in_default-goal.not-Call u v e)

pub index-frame-requires : goal.index-frame-requires
index-frame-requires c = let h = frame-here c.args.self.now c.self.inside.program.now c.self.inside.query.now c.self.inside.state c.self.inside.frames.items c.self.inside.goals c.self.inside.top c.self.inside.steps c.self.inside.waits c.self.inside.parked.items c.self.view_is c.written-written.result.frame (frame-number c.args.self.now (goal_is.Call c.requires.first.0 c.requires.first.1) c.requires.first.2 c.in-Some.pending _ (goals-here c.args.self.now c.self.inside.program.now c.self.inside.query.now c.self.inside.state c.self.inside.frames.items c.self.inside.goals c.self.inside.top c.self.inside.steps c.self.inside.waits c.self.inside.parked.items c.self.view_is _ c.in-Some.ensures.some.0) (is-text c.in-Some.pending c.in_default-pending.not-Called) c.written-written.result.frame (λ w at. (c.written-written.ensures w at).1)) in omega (arith, c.self.inside.frames.ok.0)

pub returns-in-Err-clause-keeps : goal.returns-in-Err-clause-keeps
returns-in-Err-clause-keeps c =
    keeps-to c.args.self.now c.self.inside.program.now c.self.inside.query.now c.self.inside.state c.self.inside.frames.items c.self.inside.goals c.self.inside.top c.self.inside.steps c.self.inside.waits c.self.inside.parked.items c.self.view_is c.compound.new.state _ (state-here c.args.self.now c.self.inside.program.now c.self.inside.query.now c.self.inside.state c.self.inside.frames.items c.self.inside.goals c.self.inside.top c.self.inside.steps c.self.inside.waits c.self.inside.parked.items c.self.view_is c.requires.first.2.b c.requires.first.2.is) c.compound.ensures.moments c.compound.ensures.refusals c.compound.ensures.state c.self.inside.frames.items [] c.self.inside.goals [] c.self.inside.top c.self.inside.steps
    (sym (append-nil c.self.inside.frames.items)) (sym (append-nil c.self.inside.goals))

pub returns-in-Err-clause-nodes : goal.returns-in-Err-clause-nodes
returns-in-Err-clause-nodes c = λ e b is.
    wants-to c.args.self.now c.self.inside.program.now c.self.inside.query.now c.self.inside.state c.self.inside.frames.items c.self.inside.goals c.self.inside.top c.self.inside.steps c.self.inside.waits c.self.inside.parked.items c.self.view_is c.compound.new.state _ (ap (λ (x : Result Call Stop). wants_nodes x) e) c.in-Err.ensures.refusals c.self.inside.frames.items c.self.inside.goals c.self.inside.top c.self.inside.steps b

pub returns-in-Called-clause-branch : goal.returns-in-Called-clause-branch
returns-in-Called-clause-branch c = λ b pred args rest is e.
    called-is c.args.self.now c.self.inside.program.now c.self.inside.query.now c.self.inside.state c.self.inside.frames.items c.self.inside.goals c.self.inside.top c.self.inside.steps c.self.inside.waits c.self.inside.parked.items c.self.view_is c.in-Some.pending c.in-Some.rest c.in-Called.pred c.in-Called.call c.in-Called.is c.in-Some.ensures.some.0
    (rest-inside c.args.self.now c.self.inside.program.now c.self.inside.query.now c.self.inside.state c.self.inside.frames.items c.self.inside.goals c.self.inside.top c.self.inside.steps c.self.inside.waits c.self.inside.parked.items c.self.view_is (goal_is.Call c.requires.first.0 c.requires.first.1) c.requires.first.2 c.in-Some.rest c.in-Some.ensures.some.1) b pred args rest is e

pub returns-in-Called-clause-keeps : goal.returns-in-Called-clause-keeps
returns-in-Called-clause-keeps c = skip-keeps c.args.self.now c.self.inside.program.now c.self.inside.query.now c.self.inside.state c.self.inside.frames.items c.self.inside.goals c.self.inside.top c.self.inside.steps c.self.inside.waits c.self.inside.parked.items c.self.view_is c.in-Some.rest
