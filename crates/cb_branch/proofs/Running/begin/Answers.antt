use Rattle.std.proofs.Common.{[], ◌∷◌, sym, ap, append-nil, rules}
use Rattle.std.specs.Prelude.{Result}
use Rattle.cb_dd.specs.declared.Stop.{Stop}
use Rattle.cb_items.specs.Items.{wants_nodes}
use Rattle.cb_branch.proofs.Begins.{begin-branch, begin-room, links-more, pushed-more}
use Rattle.cb_branch.proofs.Methods.{keeps-to, wants-to}
use Rattle.cb_branch.proofs.Begins.{begin-state}
use Rattle.cb_branch.proofs.Running.begin.Goals as goal

pub variables-requires-clause-state : goal.variables-requires-clause-state
variables-requires-clause-state c = begin-state c.args.self.now c.self.inside.program.now c.self.inside.query.now c.self.inside.state c.self.inside.frames.items c.self.inside.goals c.self.inside.top c.self.inside.steps c.self.inside.waits c.self.inside.parked.items c.self.view_is c.requires.unbegun.0 c.requires.unbegun.1

pub variables-requires-clause-room : goal.variables-requires-clause-room
variables-requires-clause-room c = begin-room c.args.self.now c.self.inside.program.now c.self.inside.query.now c.self.inside.state c.self.inside.frames.items c.self.inside.goals c.self.inside.top c.self.inside.steps c.self.inside.waits c.self.inside.parked.items c.self.view_is c.requires.unbegun.0 c.requires.unbegun.1 c.sorts.result.now c.sorts.ensures c.requires.room

pub returns-in_err-frame-clause-keeps : goal.returns-in_err-frame-clause-keeps
returns-in_err-frame-clause-keeps c =
    keeps-to c.args.self.now c.self.inside.program.now c.self.inside.query.now c.self.inside.state c.self.inside.frames.items c.self.inside.goals c.self.inside.top c.self.inside.steps c.self.inside.waits c.self.inside.parked.items c.self.view_is c.variables.new.state _ (begin-state c.args.self.now c.self.inside.program.now c.self.inside.query.now c.self.inside.state c.self.inside.frames.items c.self.inside.goals c.self.inside.top c.self.inside.steps c.self.inside.waits c.self.inside.parked.items c.self.view_is c.requires.unbegun.0 c.requires.unbegun.1) c.variables.ensures.moments c.variables.ensures.refusals c.variables.ensures.state c.self.inside.frames.items [] c.self.inside.goals [] c.self.inside.top c.self.inside.steps
    (sym (append-nil c.self.inside.frames.items)) (sym (append-nil c.self.inside.goals))

pub returns-in_err-frame-clause-nodes : goal.returns-in_err-frame-clause-nodes
returns-in_err-frame-clause-nodes c = λ e.
    wants-to c.args.self.now c.self.inside.program.now c.self.inside.query.now c.self.inside.state c.self.inside.frames.items c.self.inside.goals c.self.inside.top c.self.inside.steps c.self.inside.waits c.self.inside.parked.items c.self.view_is c.variables.new.state (wants_nodes c.from_residual.result) (ap (λ (x : Result (Unit {0}) Stop). wants_nodes x) e) (search rules) c.self.inside.frames.items c.self.inside.goals c.self.inside.top c.self.inside.steps _

pub returns-in_default-clause-keeps : goal.returns-in_default-clause-keeps
returns-in_default-clause-keeps c =
    let more = pushed-more _ c.self.inside.frames.items c.push.new.self.items _ c.push.ensures.items in
    keeps-to c.args.self.now c.self.inside.program.now c.self.inside.query.now c.self.inside.state c.self.inside.frames.items c.self.inside.goals c.self.inside.top c.self.inside.steps c.self.inside.waits c.self.inside.parked.items c.self.view_is c.variables.new.state _ (begin-state c.args.self.now c.self.inside.program.now c.self.inside.query.now c.self.inside.state c.self.inside.frames.items c.self.inside.goals c.self.inside.top c.self.inside.steps c.self.inside.waits c.self.inside.parked.items c.self.view_is c.requires.unbegun.0 c.requires.unbegun.1) c.variables.ensures.moments c.variables.ensures.refusals c.variables.ensures.state c.push.new.self.items more.0 c.self.inside.goals [] c.self.inside.top c.self.inside.steps
    more.1 (sym (append-nil c.self.inside.goals))

pub returns-in-Ok-asked-clause-begun : goal.returns-in-Ok-asked-clause-begun
returns-in-Ok-asked-clause-begun c =
    begin-branch c.args.self.now c.self.inside.program.now c.self.inside.query.now c.self.inside.state c.self.inside.frames.items c.self.inside.goals c.self.inside.top c.self.inside.steps c.self.inside.waits c.self.inside.parked.items c.self.view_is c.requires.unbegun.0 c.requires.unbegun.1 c.variables.new.state c.in_ok-frame.frame c.push.new.self.items c.asked.new.goals c.in-Ok-asked.list c.sorts.result.now c.goals.result.now
    c.sorts.ensures c.goals.ensures c.in_ok-frame.ensures.adds c.in_ok-frame.ensures.state c.in-Ok.ensures.items c.requires.runnable c.in-Ok-asked.ensures.asked.0 c.in-Ok-asked.ensures.asked.1

pub returns-in-Ok-asked-clause-keeps : goal.returns-in-Ok-asked-clause-keeps
returns-in-Ok-asked-clause-keeps c =
    keeps-to c.args.self.now c.self.inside.program.now c.self.inside.query.now c.self.inside.state c.self.inside.frames.items c.self.inside.goals c.self.inside.top c.self.inside.steps c.self.inside.waits c.self.inside.parked.items c.self.view_is c.variables.new.state _ (begin-state c.args.self.now c.self.inside.program.now c.self.inside.query.now c.self.inside.state c.self.inside.frames.items c.self.inside.goals c.self.inside.top c.self.inside.steps c.self.inside.waits c.self.inside.parked.items c.self.view_is c.requires.unbegun.0 c.requires.unbegun.1) c.variables.ensures.moments c.variables.ensures.refusals c.variables.ensures.state c.push.new.self.items (c.in_ok-frame.frame ∷ []) c.asked.new.goals c.asked.new.goals c.in-Ok-asked.list c.self.inside.steps
    c.in-Ok.ensures.items (links-more c.args.self.now c.self.inside.program.now c.self.inside.query.now c.self.inside.state c.self.inside.frames.items c.self.inside.goals c.self.inside.top c.self.inside.steps c.self.inside.waits c.self.inside.parked.items c.self.view_is c.requires.unbegun.0 c.requires.unbegun.1 c.asked.new.goals)

pub returns-in-Err-clause-keeps : goal.returns-in-Err-clause-keeps
returns-in-Err-clause-keeps c =
    keeps-to c.args.self.now c.self.inside.program.now c.self.inside.query.now c.self.inside.state c.self.inside.frames.items c.self.inside.goals c.self.inside.top c.self.inside.steps c.self.inside.waits c.self.inside.parked.items c.self.view_is c.variables.new.state _ (begin-state c.args.self.now c.self.inside.program.now c.self.inside.query.now c.self.inside.state c.self.inside.frames.items c.self.inside.goals c.self.inside.top c.self.inside.steps c.self.inside.waits c.self.inside.parked.items c.self.view_is c.requires.unbegun.0 c.requires.unbegun.1) c.variables.ensures.moments c.variables.ensures.refusals c.variables.ensures.state c.push.new.self.items (c.in_ok-frame.frame ∷ []) c.asked.new.goals c.asked.new.goals c.self.inside.top c.self.inside.steps
    c.in-Ok.ensures.items (links-more c.args.self.now c.self.inside.program.now c.self.inside.query.now c.self.inside.state c.self.inside.frames.items c.self.inside.goals c.self.inside.top c.self.inside.steps c.self.inside.waits c.self.inside.parked.items c.self.view_is c.requires.unbegun.0 c.requires.unbegun.1 c.asked.new.goals)
