use Rattle.std.proofs.Common.{Bool, [], ◌∷◌, sym, ap, append-nil, arith}
use Rattle.std.specs.Prelude.{Result}
use Rattle.cb_dd.specs.declared.Stop.{Stop}
use Rattle.cb_items.specs.Items.{wants_nodes}
use Rattle.cb_branch.proofs.Begins.{pushed-more}
use Rattle.cb_branch.proofs.Methods.{keeps-to, wants-to}
use Rattle.cb_branch.proofs.Resolving.{if-none, if-some, body-few, call-inside, clause-inside, goes-on, head-inside, list-inside, none-left, room-inside, steps-inside}
use Rattle.cb_branch.proofs.Calls.{state-here}
use Rattle.cb_branch.proofs.Laws.{keeps-then}
use Rattle.cb_branch.proofs.Parking.{goes}
use Rattle.cb_branch.proofs.Running.resolve.Goals as goal

pub renamed-requires-clause-state : goal.renamed-requires-clause-state
renamed-requires-clause-state c = state-here c.args.self.now c.self.inside.program.now c.self.inside.query.now c.self.inside.state c.self.inside.frames.items c.self.inside.goals c.self.inside.top c.self.inside.steps c.self.inside.waits c.self.inside.parked.items c.self.view_is c.requires.b c.requires.is

pub clause-view-requires : goal.clause-view-requires
clause-view-requires c = clause-inside c.args.self.now c.self.inside.program.now c.self.inside.query.now c.self.inside.state c.self.inside.frames.items c.self.inside.goals c.self.inside.top c.self.inside.steps c.self.inside.waits c.self.inside.parked.items c.self.view_is c.args.clause c.args.call.0 c.requires

pub renamed-requires-clause-room : goal.renamed-requires-clause-room
renamed-requires-clause-room c = room-inside c.args.self.now c.self.inside.program.now c.self.inside.query.now c.self.inside.state c.self.inside.frames.items c.self.inside.goals c.self.inside.top c.self.inside.steps c.self.inside.waits c.self.inside.parked.items c.self.view_is c.args.clause c.args.call.0 c.requires _ c.clause-view.ensures

pub renamed-requires-clause-call : goal.renamed-requires-clause-call
renamed-requires-clause-call c = call-inside c.args.self.now c.self.inside.program.now c.self.inside.query.now c.self.inside.state c.self.inside.frames.items c.self.inside.goals c.self.inside.top c.self.inside.steps c.self.inside.waits c.self.inside.parked.items c.self.view_is c.args.clause c.args.call.0 c.requires

pub renamed-requires-clause-head : goal.renamed-requires-clause-head
renamed-requires-clause-head c = head-inside c.args.self.now c.self.inside.program.now c.self.inside.query.now c.self.inside.state c.self.inside.frames.items c.self.inside.goals c.self.inside.top c.self.inside.steps c.self.inside.waits c.self.inside.parked.items c.self.view_is c.args.clause c.args.call.0 c.requires _ c.clause-view.ensures

pub overflow_cast-view : goal.overflow_cast-view
overflow_cast-view c = let h = body-few c.args.self.now c.self.inside.program.now c.self.inside.query.now c.self.inside.state c.self.inside.frames.items c.self.inside.goals c.self.inside.top c.self.inside.steps c.self.inside.waits c.self.inside.parked.items c.self.view_is c.args.clause c.args.call.0 c.requires _ c.clause-view.ensures in omega arith

pub push_body-requires : goal.push_body-requires
push_body-requires c = record { rest = list-inside c.args.self.now c.self.inside.program.now c.self.inside.query.now c.self.inside.state c.self.inside.frames.items c.self.inside.goals c.self.inside.top c.self.inside.steps c.self.inside.waits c.self.inside.parked.items c.self.view_is c.args.clause c.args.call.0 c.requires }

pub overflow_add-self : goal.overflow_add-self
overflow_add-self c = let h = steps-inside c.args.self.now c.self.inside.program.now c.self.inside.query.now c.self.inside.state c.self.inside.frames.items c.self.inside.goals c.self.inside.top c.self.inside.steps c.self.inside.waits c.self.inside.parked.items c.self.view_is c.args.clause c.args.call.0 c.requires in omega arith

pub returns-in-Err-clause-keeps : goal.returns-in-Err-clause-keeps
returns-in-Err-clause-keeps c =
    keeps-to c.args.self.now c.self.inside.program.now c.self.inside.query.now c.self.inside.state c.self.inside.frames.items c.self.inside.goals c.self.inside.top c.self.inside.steps c.self.inside.waits c.self.inside.parked.items c.self.view_is c.renamed.new.state _ (state-here c.args.self.now c.self.inside.program.now c.self.inside.query.now c.self.inside.state c.self.inside.frames.items c.self.inside.goals c.self.inside.top c.self.inside.steps c.self.inside.waits c.self.inside.parked.items c.self.view_is c.requires.b c.requires.is) c.renamed.ensures.moments c.renamed.ensures.refusals c.renamed.ensures.state c.self.inside.frames.items [] c.self.inside.goals [] c.self.inside.top c.self.inside.steps
    (sym (append-nil c.self.inside.frames.items)) (sym (append-nil c.self.inside.goals))

pub returns-in-Err-clause-nodes : goal.returns-in-Err-clause-nodes
returns-in-Err-clause-nodes c = λ e b pred args x is cells there.
    wants-to c.args.self.now c.self.inside.program.now c.self.inside.query.now c.self.inside.state c.self.inside.frames.items c.self.inside.goals c.self.inside.top c.self.inside.steps c.self.inside.waits c.self.inside.parked.items c.self.view_is c.renamed.new.state _ (ap (λ (x : Result Bool Stop). wants_nodes x) e) c.in-Err.ensures.refusals c.self.inside.frames.items c.self.inside.goals c.self.inside.top c.self.inside.steps _

pub returns-in-Ok-None-clause-no : goal.returns-in-Ok-None-clause-no
returns-in-Ok-None-clause-no c = λ e b pred args x is cells there of. none-left c.args.self.now c.self.inside.program.now c.self.inside.query.now c.self.inside.state c.self.inside.frames.items c.self.inside.goals c.self.inside.top c.self.inside.steps c.self.inside.waits c.self.inside.parked.items c.self.view_is c.args.clause c.args.call.0 c.requires _ c.clause-view.ensures (if-none _ _ c.in-Ok-None.field-0-is c.in-Ok-None.ensures.no) b pred args x is cells there of

pub returns-in-Ok-None-clause-keeps : goal.returns-in-Ok-None-clause-keeps
returns-in-Ok-None-clause-keeps c =
    keeps-to c.args.self.now c.self.inside.program.now c.self.inside.query.now c.self.inside.state c.self.inside.frames.items c.self.inside.goals c.self.inside.top c.self.inside.steps c.self.inside.waits c.self.inside.parked.items c.self.view_is c.renamed.new.state _ (state-here c.args.self.now c.self.inside.program.now c.self.inside.query.now c.self.inside.state c.self.inside.frames.items c.self.inside.goals c.self.inside.top c.self.inside.steps c.self.inside.waits c.self.inside.parked.items c.self.view_is c.requires.b c.requires.is) c.renamed.ensures.moments c.renamed.ensures.refusals c.renamed.ensures.state c.self.inside.frames.items [] c.self.inside.goals [] c.self.inside.top c.self.inside.steps
    (sym (append-nil c.self.inside.frames.items)) (sym (append-nil c.self.inside.goals))

pub returns-in_default-clause-keeps : goal.returns-in_default-clause-keeps
returns-in_default-clause-keeps c =
    let more = pushed-more _ c.self.inside.frames.items c.push.new.self.items _ c.push.ensures.items in
    keeps-to c.args.self.now c.self.inside.program.now c.self.inside.query.now c.self.inside.state c.self.inside.frames.items c.self.inside.goals c.self.inside.top c.self.inside.steps c.self.inside.waits c.self.inside.parked.items c.self.view_is c.renamed.new.state _ (state-here c.args.self.now c.self.inside.program.now c.self.inside.query.now c.self.inside.state c.self.inside.frames.items c.self.inside.goals c.self.inside.top c.self.inside.steps c.self.inside.waits c.self.inside.parked.items c.self.view_is c.requires.b c.requires.is) c.renamed.ensures.moments c.renamed.ensures.refusals c.renamed.ensures.state c.push.new.self.items more.0 c.self.inside.goals [] c.self.inside.top c.self.inside.steps
    more.1 (sym (append-nil c.self.inside.goals))

pub returns-in-Err-push_body-clause-keeps : goal.returns-in-Err-push_body-clause-keeps
returns-in-Err-push_body-clause-keeps c =
    let k = c.push_body.ensures.keeps in
    keeps-to c.args.self.now c.self.inside.program.now c.self.inside.query.now c.self.inside.state c.self.inside.frames.items c.self.inside.goals c.self.inside.top c.self.inside.steps c.self.inside.waits c.self.inside.parked.items c.self.view_is c.renamed.new.state _ (state-here c.args.self.now c.self.inside.program.now c.self.inside.query.now c.self.inside.state c.self.inside.frames.items c.self.inside.goals c.self.inside.top c.self.inside.steps c.self.inside.waits c.self.inside.parked.items c.self.view_is c.requires.b c.requires.is) c.renamed.ensures.moments c.renamed.ensures.refusals c.renamed.ensures.state c.push.new.self.items (c.in-Ok-Some.frame ∷ []) c.push_body.new.self k.more c.self.inside.top c.self.inside.steps
    c.in-Ok.ensures.items k.links

pub wake-requires : goal.wake-requires
wake-requires c =
    let r = c.requires in (
      _,
      goes-on c.args.self.now c.self.inside.program.now c.self.inside.query.now c.self.inside.state c.self.inside.frames.items c.self.inside.goals c.self.inside.top c.self.inside.steps c.self.inside.waits c.self.inside.parked.items c.self.view_is c.args.clause c.args.call.0 c.requires _ c.clause-view.ensures c.renamed.new.state c.in-Ok-Some.frame c.push.new.self.items c.push_body.new.self c.in-Ok-push_body.list c.len-number.result c.in-Ok.ensures.items (let o = c.self.inside.frames.ok.0 in let l = c.len-number.ensures in omega arith)
          c.in-Ok-push_body.ensures.pushed.0 c.in-Ok-push_body.ensures.pushed.1 (if-some _ _ c.in-Ok-Some.frame c.in-Ok-Some.field-0-is c.in-Ok-Some.ensures.yes)
          r.b r.pred r.args r.c r.is r.cells r.there r.of,
    )

pub returns-in-Ok-wake-clause-yes : goal.returns-in-Ok-wake-clause-yes
returns-in-Ok-wake-clause-yes c = λ e b pred args x is cells there of.
    let m =
    goes-on c.args.self.now c.self.inside.program.now c.self.inside.query.now c.self.inside.state c.self.inside.frames.items c.self.inside.goals c.self.inside.top c.self.inside.steps c.self.inside.waits c.self.inside.parked.items c.self.view_is c.args.clause c.args.call.0 c.requires _ c.clause-view.ensures c.renamed.new.state c.in-Ok-Some.frame c.push.new.self.items c.push_body.new.self c.in-Ok-push_body.list c.len-number.result c.in-Ok.ensures.items (let o = c.self.inside.frames.ok.0 in let l = c.len-number.ensures in omega arith)
    c.in-Ok-push_body.ensures.pushed.0 c.in-Ok-push_body.ensures.pushed.1 (if-some _ _ c.in-Ok-Some.frame c.in-Ok-Some.field-0-is c.in-Ok-Some.ensures.yes)
    b pred args x is cells there of in
    goes c.args.self.now c.self.inside.program.now c.self.inside.query.now c.self.inside.state c.self.inside.frames.items c.self.inside.goals c.self.inside.top c.self.inside.steps c.self.inside.waits c.self.inside.parked.items c.self.view_is c.renamed.new.state c.push.new.self.items c.push_body.new.self c.in-Ok-push_body.list _ _ _ m (c.in-Ok-wake.ensures.wakes _ m)

pub returns-in-Ok-wake-clause-keeps : goal.returns-in-Ok-wake-clause-keeps
returns-in-Ok-wake-clause-keeps c =
    let k = c.push_body.ensures.keeps in
    keeps-then c.args.self.now _ _
    (keeps-to c.args.self.now c.self.inside.program.now c.self.inside.query.now c.self.inside.state c.self.inside.frames.items c.self.inside.goals c.self.inside.top c.self.inside.steps c.self.inside.waits c.self.inside.parked.items c.self.view_is c.renamed.new.state _ (state-here c.args.self.now c.self.inside.program.now c.self.inside.query.now c.self.inside.state c.self.inside.frames.items c.self.inside.goals c.self.inside.top c.self.inside.steps c.self.inside.waits c.self.inside.parked.items c.self.view_is c.requires.b c.requires.is) c.renamed.ensures.moments c.renamed.ensures.refusals c.renamed.ensures.state c.push.new.self.items (c.in-Ok-Some.frame ∷ []) c.push_body.new.self k.more c.in-Ok-push_body.list _
    c.in-Ok.ensures.items k.links) c.wake.ensures.keeps

pub returns-in-Err-wake-clause-keeps : goal.returns-in-Err-wake-clause-keeps
returns-in-Err-wake-clause-keeps c =
    let k = c.push_body.ensures.keeps in
    keeps-then c.args.self.now _ _
    (keeps-to c.args.self.now c.self.inside.program.now c.self.inside.query.now c.self.inside.state c.self.inside.frames.items c.self.inside.goals c.self.inside.top c.self.inside.steps c.self.inside.waits c.self.inside.parked.items c.self.view_is c.renamed.new.state _ (state-here c.args.self.now c.self.inside.program.now c.self.inside.query.now c.self.inside.state c.self.inside.frames.items c.self.inside.goals c.self.inside.top c.self.inside.steps c.self.inside.waits c.self.inside.parked.items c.self.view_is c.requires.b c.requires.is) c.renamed.ensures.moments c.renamed.ensures.refusals c.renamed.ensures.state c.push.new.self.items (c.in-Ok-Some.frame ∷ []) c.push_body.new.self k.more c.in-Ok-push_body.list _
    c.in-Ok.ensures.items k.links) c.wake.ensures.keeps
