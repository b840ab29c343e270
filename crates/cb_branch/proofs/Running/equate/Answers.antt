use Rattle.std.proofs.Common.{[], Bool, Ok, length, refl, sym, ap, append-nil}
use Rattle.cb_model.specs.declared.Goal.TheVariants as goal_is
use Rattle.std.proofs.Common.{arith}
use Rattle.std.specs.Prelude.{Result}
use Rattle.cb_dd.specs.declared.Stop.{Stop}
use Rattle.cb_items.specs.Items.{wants_nodes}
use Rattle.cb_branch.specs.Running.{Seen}
use Rattle.cb_branch.proofs.Calls.{got-cells, frame-here, goals-here, top-here, list-inside, not-nothing, not-equal, place-there, frame-number, read-at, rest-inside, steps-few, equal-is}
use Rattle.cb_branch.proofs.Methods.{equate-buildable, equate-yes, equate-no, keeps-to, wants-to}
use Rattle.cb_branch.proofs.Calls.{state-here}
use Rattle.cb_branch.proofs.Laws.{keeps-then}
use Rattle.cb_branch.proofs.Parking.{goes}
use Rattle.cb_branch.proofs.Work.{woken-work}
use Rattle.cb_branch.proofs.Running.equate.Goals as goal

pub equated-requires-clause-state : goal.equated-requires-clause-state
equated-requires-clause-state c = state-here c.args.self.now c.self.inside.program.now c.self.inside.query.now c.self.inside.state c.self.inside.frames.items c.self.inside.goals c.self.inside.top c.self.inside.steps c.self.inside.waits c.self.inside.parked.items c.self.view_is c.requires.first.2.b c.requires.first.2.is

pub equated-requires-clause-buildable : goal.equated-requires-clause-buildable
equated-requires-clause-buildable c =
    let st = c.requires.first in
    equate-buildable c.args.self.now c.self.inside.program.now c.self.inside.query.now c.self.inside.state c.self.inside.frames.items c.self.inside.goals c.self.inside.top c.self.inside.steps c.self.inside.waits c.self.inside.parked.items c.self.view_is c.in-Some.pending c.in-Some.rest c.in-Equal.left c.in-Equal.right c.index-frame.result.now c.in-Some.ensures.some.0 (rest-inside c.args.self.now c.self.inside.program.now c.self.inside.query.now c.self.inside.state c.self.inside.frames.items c.self.inside.goals c.self.inside.top c.self.inside.steps c.self.inside.waits c.self.inside.parked.items c.self.view_is (goal_is.Equal c.requires.first.0 c.requires.first.1) c.requires.first.2 c.in-Some.rest c.in-Some.ensures.some.1)
    (read-at c.args.self.now c.in-Some.pending c.written-written.result.goal.now (goal_is.Equal c.in-Equal.left c.in-Equal.right) c.written-written.result.frame c.index-frame.result.now c.self.inside.frames.items c.written-written.ensures c.in-Equal.is (got-cells c.self.inside.frames.items c.written-written.result.frame c.index-frame.result.now (frame-here c.args.self.now c.self.inside.program.now c.self.inside.query.now c.self.inside.state c.self.inside.frames.items c.self.inside.goals c.self.inside.top c.self.inside.steps c.self.inside.waits c.self.inside.parked.items c.self.view_is c.written-written.result.frame (frame-number c.args.self.now (goal_is.Equal c.requires.first.0 c.requires.first.1) c.requires.first.2 c.in-Some.pending _ (goals-here c.args.self.now c.self.inside.program.now c.self.inside.query.now c.self.inside.state c.self.inside.frames.items c.self.inside.goals c.self.inside.top c.self.inside.steps c.self.inside.waits c.self.inside.parked.items c.self.view_is _ c.in-Some.ensures.some.0) (equal-is c.args.self.now c.requires.first.0 c.requires.first.1 c.requires.first.2 c.in-Some.pending _ (goals-here c.args.self.now c.self.inside.program.now c.self.inside.query.now c.self.inside.state c.self.inside.frames.items c.self.inside.goals c.self.inside.top c.self.inside.steps c.self.inside.waits c.self.inside.parked.items c.self.view_is _ c.in-Some.ensures.some.0)) c.written-written.result.frame (λ w at. (c.written-written.ensures w at).1))) c.index-frame.ensures)) st.2.b st.0 st.1 st.2.rest st.2.is st.2.goals

pub returns-in-Ok-false-clause-no : goal.returns-in-Ok-false-clause-no
returns-in-Ok-false-clause-no c = λ e b l r rest is g.
    equate-no c.args.self.now c.self.inside.program.now c.self.inside.query.now c.self.inside.state c.self.inside.frames.items c.self.inside.goals c.self.inside.top c.self.inside.steps c.self.inside.waits c.self.inside.parked.items c.self.view_is c.in-Some.pending c.in-Some.rest c.in-Equal.left c.in-Equal.right c.index-frame.result.now c.in-Some.ensures.some.0 (rest-inside c.args.self.now c.self.inside.program.now c.self.inside.query.now c.self.inside.state c.self.inside.frames.items c.self.inside.goals c.self.inside.top c.self.inside.steps c.self.inside.waits c.self.inside.parked.items c.self.view_is (goal_is.Equal c.requires.first.0 c.requires.first.1) c.requires.first.2 c.in-Some.rest c.in-Some.ensures.some.1)
    (read-at c.args.self.now c.in-Some.pending c.written-written.result.goal.now (goal_is.Equal c.in-Equal.left c.in-Equal.right) c.written-written.result.frame c.index-frame.result.now c.self.inside.frames.items c.written-written.ensures c.in-Equal.is (got-cells c.self.inside.frames.items c.written-written.result.frame c.index-frame.result.now (frame-here c.args.self.now c.self.inside.program.now c.self.inside.query.now c.self.inside.state c.self.inside.frames.items c.self.inside.goals c.self.inside.top c.self.inside.steps c.self.inside.waits c.self.inside.parked.items c.self.view_is c.written-written.result.frame (frame-number c.args.self.now (goal_is.Equal c.requires.first.0 c.requires.first.1) c.requires.first.2 c.in-Some.pending _ (goals-here c.args.self.now c.self.inside.program.now c.self.inside.query.now c.self.inside.state c.self.inside.frames.items c.self.inside.goals c.self.inside.top c.self.inside.steps c.self.inside.waits c.self.inside.parked.items c.self.view_is _ c.in-Some.ensures.some.0) (equal-is c.args.self.now c.requires.first.0 c.requires.first.1 c.requires.first.2 c.in-Some.pending _ (goals-here c.args.self.now c.self.inside.program.now c.self.inside.query.now c.self.inside.state c.self.inside.frames.items c.self.inside.goals c.self.inside.top c.self.inside.steps c.self.inside.waits c.self.inside.parked.items c.self.view_is _ c.in-Some.ensures.some.0)) c.written-written.result.frame (λ w at. (c.written-written.ensures w at).1))) c.index-frame.ensures)) (c.in-Ok-false.ensures.no (ap (λ (b : Bool). Ok b) c.in-Ok-false.field-0-test)) b l r rest is g

pub first-requires : goal.first-requires
first-requires c = top-here c.args.self.now c.self.inside.program.now c.self.inside.query.now c.self.inside.state c.self.inside.frames.items c.self.inside.goals c.self.inside.top c.self.inside.steps c.self.inside.waits c.self.inside.parked.items c.self.view_is (list-inside c.args.self.now (goal_is.Equal c.requires.first.0 c.requires.first.1) c.requires.first.2)

pub unreachable-requires : goal.unreachable-requires
unreachable-requires c = not-nothing c.args.self.now (goal_is.Equal c.requires.first.0 c.requires.first.1) c.requires.first.2 (goals-here c.args.self.now c.self.inside.program.now c.self.inside.query.now c.self.inside.state c.self.inside.frames.items c.self.inside.goals c.self.inside.top c.self.inside.steps c.self.inside.waits c.self.inside.parked.items c.self.view_is [] c.in_default.ensures.none)

pub written-written-requires : goal.written-written-requires
written-written-requires c = place-there c.args.self.now (goal_is.Equal c.requires.first.0 c.requires.first.1) c.requires.first.2 c.in-Some.pending _ (goals-here c.args.self.now c.self.inside.program.now c.self.inside.query.now c.self.inside.state c.self.inside.frames.items c.self.inside.goals c.self.inside.top c.self.inside.steps c.self.inside.waits c.self.inside.parked.items c.self.view_is _ c.in-Some.ensures.some.0) (equal-is c.args.self.now c.requires.first.0 c.requires.first.1 c.requires.first.2 c.in-Some.pending _ (goals-here c.args.self.now c.self.inside.program.now c.self.inside.query.now c.self.inside.state c.self.inside.frames.items c.self.inside.goals c.self.inside.top c.self.inside.steps c.self.inside.waits c.self.inside.parked.items c.self.view_is _ c.in-Some.ensures.some.0))

pub unreachable-requires-in_default-goal : goal.unreachable-requires-in_default-goal
unreachable-requires-in_default-goal c = not-equal c.args.self.now c.requires.first.0 c.requires.first.1 c.requires.first.2 c.in-Some.pending _ (goals-here c.args.self.now c.self.inside.program.now c.self.inside.query.now c.self.inside.state c.self.inside.frames.items c.self.inside.goals c.self.inside.top c.self.inside.steps c.self.inside.waits c.self.inside.parked.items c.self.view_is _ c.in-Some.ensures.some.0) c.written-written.result.goal.now (λ w at. (c.written-written.ensures w at).0) (λ u v e. c.in_default-goal.not-Equal u v e)

pub index-frame-requires : goal.index-frame-requires
index-frame-requires c = let h = frame-here c.args.self.now c.self.inside.program.now c.self.inside.query.now c.self.inside.state c.self.inside.frames.items c.self.inside.goals c.self.inside.top c.self.inside.steps c.self.inside.waits c.self.inside.parked.items c.self.view_is c.written-written.result.frame (frame-number c.args.self.now (goal_is.Equal c.requires.first.0 c.requires.first.1) c.requires.first.2 c.in-Some.pending _ (goals-here c.args.self.now c.self.inside.program.now c.self.inside.query.now c.self.inside.state c.self.inside.frames.items c.self.inside.goals c.self.inside.top c.self.inside.steps c.self.inside.waits c.self.inside.parked.items c.self.view_is _ c.in-Some.ensures.some.0) (equal-is c.args.self.now c.requires.first.0 c.requires.first.1 c.requires.first.2 c.in-Some.pending _ (goals-here c.args.self.now c.self.inside.program.now c.self.inside.query.now c.self.inside.state c.self.inside.frames.items c.self.inside.goals c.self.inside.top c.self.inside.steps c.self.inside.waits c.self.inside.parked.items c.self.view_is _ c.in-Some.ensures.some.0)) c.written-written.result.frame (λ w at. (c.written-written.ensures w at).1)) in omega (arith, c.self.inside.frames.ok.0)

pub overflow_add-self : goal.overflow_add-self
overflow_add-self c = let f = steps-few c.args.self.now 0 c.requires.room in let e = ap (λ (o : Seen). o.steps) c.self.view_is in omega arith

pub returns-in-Ok-false-clause-keeps : goal.returns-in-Ok-false-clause-keeps
returns-in-Ok-false-clause-keeps c =
    keeps-to c.args.self.now c.self.inside.program.now c.self.inside.query.now c.self.inside.state c.self.inside.frames.items c.self.inside.goals c.self.inside.top c.self.inside.steps c.self.inside.waits c.self.inside.parked.items c.self.view_is c.equated.new.state _ (state-here c.args.self.now c.self.inside.program.now c.self.inside.query.now c.self.inside.state c.self.inside.frames.items c.self.inside.goals c.self.inside.top c.self.inside.steps c.self.inside.waits c.self.inside.parked.items c.self.view_is c.requires.first.2.b c.requires.first.2.is) c.equated.ensures.moments c.equated.ensures.refusals c.equated.ensures.state c.self.inside.frames.items [] c.self.inside.goals [] c.self.inside.top c.self.inside.steps (sym (append-nil c.self.inside.frames.items)) (sym (append-nil c.self.inside.goals))

pub returns-in-Err-clause-keeps : goal.returns-in-Err-clause-keeps
returns-in-Err-clause-keeps c =
    keeps-to c.args.self.now c.self.inside.program.now c.self.inside.query.now c.self.inside.state c.self.inside.frames.items c.self.inside.goals c.self.inside.top c.self.inside.steps c.self.inside.waits c.self.inside.parked.items c.self.view_is c.equated.new.state _ (state-here c.args.self.now c.self.inside.program.now c.self.inside.query.now c.self.inside.state c.self.inside.frames.items c.self.inside.goals c.self.inside.top c.self.inside.steps c.self.inside.waits c.self.inside.parked.items c.self.view_is c.requires.first.2.b c.requires.first.2.is) c.equated.ensures.moments c.equated.ensures.refusals c.equated.ensures.state c.self.inside.frames.items [] c.self.inside.goals [] c.self.inside.top c.self.inside.steps (sym (append-nil c.self.inside.frames.items)) (sym (append-nil c.self.inside.goals))

pub returns-in-Err-clause-nodes : goal.returns-in-Err-clause-nodes
returns-in-Err-clause-nodes c = λ e b l r rest is g.
    wants-to c.args.self.now c.self.inside.program.now c.self.inside.query.now c.self.inside.state c.self.inside.frames.items c.self.inside.goals c.self.inside.top c.self.inside.steps c.self.inside.waits c.self.inside.parked.items c.self.view_is c.equated.new.state _ (ap (λ (x : Result Bool Stop). wants_nodes x) e) c.in-Err.ensures.refusals c.self.inside.frames.items c.self.inside.goals c.self.inside.top c.self.inside.steps _

pub wake-requires : goal.wake-requires
wake-requires c =
    let st = c.requires.first in (
      _,
      equate-yes c.args.self.now c.self.inside.program.now c.self.inside.query.now c.self.inside.state c.self.inside.frames.items c.self.inside.goals c.self.inside.top c.self.inside.steps c.self.inside.waits c.self.inside.parked.items c.self.view_is c.in-Some.pending c.in-Some.rest c.in-Equal.left c.in-Equal.right c.index-frame.result.now c.in-Some.ensures.some.0 (rest-inside c.args.self.now c.self.inside.program.now c.self.inside.query.now c.self.inside.state c.self.inside.frames.items c.self.inside.goals c.self.inside.top c.self.inside.steps c.self.inside.waits c.self.inside.parked.items c.self.view_is (goal_is.Equal c.requires.first.0 c.requires.first.1) c.requires.first.2 c.in-Some.rest c.in-Some.ensures.some.1)
          (read-at c.args.self.now c.in-Some.pending c.written-written.result.goal.now (goal_is.Equal c.in-Equal.left c.in-Equal.right) c.written-written.result.frame c.index-frame.result.now c.self.inside.frames.items c.written-written.ensures c.in-Equal.is (got-cells c.self.inside.frames.items c.written-written.result.frame c.index-frame.result.now (frame-here c.args.self.now c.self.inside.program.now c.self.inside.query.now c.self.inside.state c.self.inside.frames.items c.self.inside.goals c.self.inside.top c.self.inside.steps c.self.inside.waits c.self.inside.parked.items c.self.view_is c.written-written.result.frame (frame-number c.args.self.now (goal_is.Equal c.requires.first.0 c.requires.first.1) c.requires.first.2 c.in-Some.pending _ (goals-here c.args.self.now c.self.inside.program.now c.self.inside.query.now c.self.inside.state c.self.inside.frames.items c.self.inside.goals c.self.inside.top c.self.inside.steps c.self.inside.waits c.self.inside.parked.items c.self.view_is _ c.in-Some.ensures.some.0) (equal-is c.args.self.now c.requires.first.0 c.requires.first.1 c.requires.first.2 c.in-Some.pending _ (goals-here c.args.self.now c.self.inside.program.now c.self.inside.query.now c.self.inside.state c.self.inside.frames.items c.self.inside.goals c.self.inside.top c.self.inside.steps c.self.inside.waits c.self.inside.parked.items c.self.view_is _ c.in-Some.ensures.some.0)) c.written-written.result.frame (λ w at. (c.written-written.ensures w at).1))) c.index-frame.ensures)) c.equated.new.state (c.in-Ok-true.ensures.yes (ap (λ (b : Bool). Ok b) c.in-Ok-true.field-0-test))
          st.2.b st.0 st.1 st.2.rest st.2.is st.2.goals,
    )

pub returns-in-Ok-clause-yes : goal.returns-in-Ok-clause-yes
returns-in-Ok-clause-yes c = λ e b l r rest is g.
    let m =
    equate-yes c.args.self.now c.self.inside.program.now c.self.inside.query.now c.self.inside.state c.self.inside.frames.items c.self.inside.goals c.self.inside.top c.self.inside.steps c.self.inside.waits c.self.inside.parked.items c.self.view_is c.in-Some.pending c.in-Some.rest c.in-Equal.left c.in-Equal.right c.index-frame.result.now c.in-Some.ensures.some.0 (rest-inside c.args.self.now c.self.inside.program.now c.self.inside.query.now c.self.inside.state c.self.inside.frames.items c.self.inside.goals c.self.inside.top c.self.inside.steps c.self.inside.waits c.self.inside.parked.items c.self.view_is (goal_is.Equal c.requires.first.0 c.requires.first.1) c.requires.first.2 c.in-Some.rest c.in-Some.ensures.some.1)
    (read-at c.args.self.now c.in-Some.pending c.written-written.result.goal.now (goal_is.Equal c.in-Equal.left c.in-Equal.right) c.written-written.result.frame c.index-frame.result.now c.self.inside.frames.items c.written-written.ensures c.in-Equal.is (got-cells c.self.inside.frames.items c.written-written.result.frame c.index-frame.result.now (frame-here c.args.self.now c.self.inside.program.now c.self.inside.query.now c.self.inside.state c.self.inside.frames.items c.self.inside.goals c.self.inside.top c.self.inside.steps c.self.inside.waits c.self.inside.parked.items c.self.view_is c.written-written.result.frame (frame-number c.args.self.now (goal_is.Equal c.requires.first.0 c.requires.first.1) c.requires.first.2 c.in-Some.pending _ (goals-here c.args.self.now c.self.inside.program.now c.self.inside.query.now c.self.inside.state c.self.inside.frames.items c.self.inside.goals c.self.inside.top c.self.inside.steps c.self.inside.waits c.self.inside.parked.items c.self.view_is _ c.in-Some.ensures.some.0) (equal-is c.args.self.now c.requires.first.0 c.requires.first.1 c.requires.first.2 c.in-Some.pending _ (goals-here c.args.self.now c.self.inside.program.now c.self.inside.query.now c.self.inside.state c.self.inside.frames.items c.self.inside.goals c.self.inside.top c.self.inside.steps c.self.inside.waits c.self.inside.parked.items c.self.view_is _ c.in-Some.ensures.some.0)) c.written-written.result.frame (λ w at. (c.written-written.ensures w at).1))) c.index-frame.ensures)) c.equated.new.state (c.in-Ok-true.ensures.yes (ap (λ (b : Bool). Ok b) c.in-Ok-true.field-0-test))
    b l r rest is g in
    goes c.args.self.now c.self.inside.program.now c.self.inside.query.now c.self.inside.state c.self.inside.frames.items c.self.inside.goals c.self.inside.top c.self.inside.steps c.self.inside.waits c.self.inside.parked.items c.self.view_is c.equated.new.state c.self.inside.frames.items c.self.inside.goals c.in-Some.rest _ _ _ m (c.in-Ok.ensures.wakes _ m)

pub returns-in-Ok-clause-work : goal.returns-in-Ok-clause-work
returns-in-Ok-clause-work c = λ e.
    let st = c.requires.first in
    let m =
    equate-yes c.args.self.now c.self.inside.program.now c.self.inside.query.now c.self.inside.state c.self.inside.frames.items c.self.inside.goals c.self.inside.top c.self.inside.steps c.self.inside.waits c.self.inside.parked.items c.self.view_is c.in-Some.pending c.in-Some.rest c.in-Equal.left c.in-Equal.right c.index-frame.result.now c.in-Some.ensures.some.0 (rest-inside c.args.self.now c.self.inside.program.now c.self.inside.query.now c.self.inside.state c.self.inside.frames.items c.self.inside.goals c.self.inside.top c.self.inside.steps c.self.inside.waits c.self.inside.parked.items c.self.view_is (goal_is.Equal c.requires.first.0 c.requires.first.1) c.requires.first.2 c.in-Some.rest c.in-Some.ensures.some.1)
    (read-at c.args.self.now c.in-Some.pending c.written-written.result.goal.now (goal_is.Equal c.in-Equal.left c.in-Equal.right) c.written-written.result.frame c.index-frame.result.now c.self.inside.frames.items c.written-written.ensures c.in-Equal.is (got-cells c.self.inside.frames.items c.written-written.result.frame c.index-frame.result.now (frame-here c.args.self.now c.self.inside.program.now c.self.inside.query.now c.self.inside.state c.self.inside.frames.items c.self.inside.goals c.self.inside.top c.self.inside.steps c.self.inside.waits c.self.inside.parked.items c.self.view_is c.written-written.result.frame (frame-number c.args.self.now (goal_is.Equal c.requires.first.0 c.requires.first.1) c.requires.first.2 c.in-Some.pending _ (goals-here c.args.self.now c.self.inside.program.now c.self.inside.query.now c.self.inside.state c.self.inside.frames.items c.self.inside.goals c.self.inside.top c.self.inside.steps c.self.inside.waits c.self.inside.parked.items c.self.view_is _ c.in-Some.ensures.some.0) (equal-is c.args.self.now c.requires.first.0 c.requires.first.1 c.requires.first.2 c.in-Some.pending _ (goals-here c.args.self.now c.self.inside.program.now c.self.inside.query.now c.self.inside.state c.self.inside.frames.items c.self.inside.goals c.self.inside.top c.self.inside.steps c.self.inside.waits c.self.inside.parked.items c.self.view_is _ c.in-Some.ensures.some.0)) c.written-written.result.frame (λ w at. (c.written-written.ensures w at).1))) c.index-frame.ensures)) c.equated.new.state (c.in-Ok-true.ensures.yes (ap (λ (b : Bool). Ok b) c.in-Ok-true.field-0-test))
    st.2.b st.0 st.1 st.2.rest st.2.is st.2.goals in
    let w = c.in-Ok.ensures.wakes _ m in
    let n = ap length st.2.goals in
    woken-work _ c.args.self.now _ st.2.b _ w.woken st.2.is w.wakes w.is (omega arith) refl

pub returns-in-Ok-clause-keeps : goal.returns-in-Ok-clause-keeps
returns-in-Ok-clause-keeps c =
    keeps-then c.args.self.now _ _
    (keeps-to c.args.self.now c.self.inside.program.now c.self.inside.query.now c.self.inside.state c.self.inside.frames.items c.self.inside.goals c.self.inside.top c.self.inside.steps c.self.inside.waits c.self.inside.parked.items c.self.view_is c.equated.new.state _ (state-here c.args.self.now c.self.inside.program.now c.self.inside.query.now c.self.inside.state c.self.inside.frames.items c.self.inside.goals c.self.inside.top c.self.inside.steps c.self.inside.waits c.self.inside.parked.items c.self.view_is c.requires.first.2.b c.requires.first.2.is) c.equated.ensures.moments c.equated.ensures.refusals c.equated.ensures.state c.self.inside.frames.items [] c.self.inside.goals [] c.in-Some.rest _ (sym (append-nil c.self.inside.frames.items)) (sym (append-nil c.self.inside.goals))) c.wake.ensures.keeps

pub returns-in-Err-wake-clause-keeps : goal.returns-in-Err-wake-clause-keeps
returns-in-Err-wake-clause-keeps c =
    keeps-then c.args.self.now _ _
    (keeps-to c.args.self.now c.self.inside.program.now c.self.inside.query.now c.self.inside.state c.self.inside.frames.items c.self.inside.goals c.self.inside.top c.self.inside.steps c.self.inside.waits c.self.inside.parked.items c.self.view_is c.equated.new.state _ (state-here c.args.self.now c.self.inside.program.now c.self.inside.query.now c.self.inside.state c.self.inside.frames.items c.self.inside.goals c.self.inside.top c.self.inside.steps c.self.inside.waits c.self.inside.parked.items c.self.view_is c.requires.first.2.b c.requires.first.2.is) c.equated.ensures.moments c.equated.ensures.refusals c.equated.ensures.state c.self.inside.frames.items [] c.self.inside.goals [] c.in-Some.rest _ (sym (append-nil c.self.inside.frames.items)) (sym (append-nil c.self.inside.goals))) c.wake.ensures.keeps
