use Rattle.std.proofs.Common.{◌++◌, ◌∙◌, ℕ, ◌<◌, List, [], length, map, ap, sym, subst, arith}
use Rattle.std.proofs.lemmas.Bool.{eqb-true}
use Rattle.cb_model.specs.Bits.{Each, Parts}
use Rattle.cb_goals.specs.Chain.{goals_at}
use Rattle.cb_wake.specs.Waits.{waiting}
use Rattle.cb_items.proofs.Lists.{append-nil}
use Rattle.cb_ready.specs.Asking.{IsAskable, IsReadyAt, asking}
use Rattle.cb_ready.specs.Parked.{Parked}
use Rattle.cb_branch.specs.Running.{pending_at}
use Rattle.cb_branch.proofs.Laws.{keeps-refl}
use Rattle.cb_branch.proofs.Parking.{askable, keeps-waits, list-here, wakes-none, wakes-to, woken-numbers}
use Rattle.cb_branch.proofs.Running.wake.Goals as goal

pub returns-then-is_empty-clause-wakes : goal.returns-then-is_empty-clause-wakes
returns-then-is_empty-clause-wakes c =
    let e = eqb-true _ _ (sym c.is_empty.ensures ∙ c.if-is_empty.true) in
    let o = c.self.inside.parked.ok.0 in
    wakes-none c.args.self.now c.self.inside.program.now c.self.inside.query.now c.self.inside.state c.self.inside.frames.items c.self.inside.goals c.self.inside.top c.self.inside.steps c.self.inside.waits c.self.inside.parked.items c.self.view_is (omega arith)

pub returns-then-is_empty-clause-keeps : goal.returns-then-is_empty-clause-keeps
returns-then-is_empty-clause-keeps c = keeps-refl c.args.self.now

pub take_woken-requires : goal.take_woken-requires
take_woken-requires c =
    subst (λ (ps : List Parked). IsAskable c.self.inside.state c.self.inside.program.now c.self.inside.query.now ps) (sym c.as_slice.ensures.value) (askable c.args.self.now c.self.inside.program.now c.self.inside.query.now c.self.inside.state c.self.inside.frames.items c.self.inside.goals c.self.inside.top c.self.inside.steps c.self.inside.waits c.self.inside.parked.items c.self.view_is c.requires.0 c.requires.1)

pub returns-in-Err-clause-keeps : goal.returns-in-Err-clause-keeps
returns-in-Err-clause-keeps c =
    keeps-waits c.args.self.now c.self.inside.program.now c.self.inside.query.now c.self.inside.state c.self.inside.frames.items c.self.inside.goals c.self.inside.top c.self.inside.steps c.self.inside.waits c.self.inside.parked.items c.self.view_is c.self.inside.goals [] c.self.inside.top c.take_woken.new.waits c.self.inside.parked.items []
    (sym (append-nil c.self.inside.goals)) c.take_woken.ensures.moments (sym (append-nil c.self.inside.parked.items))

pub put_in_front-list-requires-clause-rest : goal.put_in_front-list-requires-clause-rest
put_in_front-list-requires-clause-rest c = list-here c.args.self.now c.self.inside.program.now c.self.inside.query.now c.self.inside.state c.self.inside.frames.items c.self.inside.goals c.self.inside.top c.self.inside.steps c.self.inside.waits c.self.inside.parked.items c.self.view_is c.requires.0 c.requires.1

pub put_in_front-list-requires-clause-numbers : goal.put_in_front-list-requires-clause-numbers
put_in_front-list-requires-clause-numbers c =
    subst (λ (ps : List Parked). Each (λ k. k < length ps) c.as_slice-3.result.now) (sym c.as_slice-2.ensures.value)
    (subst (λ (ks : List ℕ). Each (λ k. k < length c.self.inside.parked.items) ks) (sym c.as_slice-3.ensures.value)
    (woken-numbers c.args.self.now c.self.inside.program.now c.self.inside.query.now c.self.inside.state c.self.inside.frames.items c.self.inside.goals c.self.inside.top c.self.inside.steps c.self.inside.waits c.self.inside.parked.items c.self.view_is c.requires.0 _ c.in-Ok.woken.items _ c.requires.1 c.in-Ok.ensures.parted))

pub returns-in-Ok-list-clause-wakes : goal.returns-in-Ok-list-clause-wakes
returns-in-Ok-list-clause-wakes c = λ b is.
    wakes-to c.args.self.now c.self.inside.program.now c.self.inside.query.now c.self.inside.state c.self.inside.frames.items c.self.inside.goals c.self.inside.top c.self.inside.steps c.self.inside.waits c.self.inside.parked.items c.self.view_is c.put_in_front-list.new.goals c.in-Ok-list.list c.take_woken.new.waits c.in-Ok.woken.items c.in-Ok-list.ensures.pushed.0
    (c.in-Ok-list.ensures.pushed.1
    ∙ ap (λ (ps : List Parked). map (pending_at ps) c.as_slice-3.result.now ++ goals_at c.self.inside.goals c.self.inside.top) c.as_slice-2.ensures.value
    ∙ ap (λ (ks : List ℕ). map (pending_at c.self.inside.parked.items) ks ++ goals_at c.self.inside.goals c.self.inside.top) c.as_slice-3.ensures.value)
    (subst (λ (ps : List Parked). Parts (IsReadyAt (asking c.self.inside.state c.self.inside.program.now c.self.inside.query.now ps)) (waiting c.self.inside.waits) c.in-Ok.woken.items (waiting c.take_woken.new.waits))
    c.as_slice.ensures.value c.in-Ok.ensures.parted)
    c.in-Ok.ensures.parked b is

pub returns-in-Ok-list-clause-keeps : goal.returns-in-Ok-list-clause-keeps
returns-in-Ok-list-clause-keeps c =
    let k = c.in-Ok-list.ensures.keeps in
    keeps-waits c.args.self.now c.self.inside.program.now c.self.inside.query.now c.self.inside.state c.self.inside.frames.items c.self.inside.goals c.self.inside.top c.self.inside.steps c.self.inside.waits c.self.inside.parked.items c.self.view_is c.put_in_front-list.new.goals k.more c.in-Ok-list.list c.take_woken.new.waits c.self.inside.parked.items []
    k.links c.take_woken.ensures.moments (sym (append-nil c.self.inside.parked.items))

pub returns-in-Err-list-clause-keeps : goal.returns-in-Err-list-clause-keeps
returns-in-Err-list-clause-keeps c =
    let k = c.put_in_front-list.ensures.keeps in
    keeps-waits c.args.self.now c.self.inside.program.now c.self.inside.query.now c.self.inside.state c.self.inside.frames.items c.self.inside.goals c.self.inside.top c.self.inside.steps c.self.inside.waits c.self.inside.parked.items c.self.view_is c.put_in_front-list.new.goals k.more c.self.inside.top c.take_woken.new.waits c.self.inside.parked.items []
    k.links c.take_woken.ensures.moments (sym (append-nil c.self.inside.parked.items))
