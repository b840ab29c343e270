use Rattle.std.proofs.Common.{[], ◌∷◌, sym, subst, ◌≡◌, ◌∙◌, ◌<◌, rules}
use Rattle.std.proofs.lemmas.Result.{err_from_is_err_and}
use Rattle.cb_ops.specs.declared.calls.Choice.{Choice}
use Rattle.cb_ops.specs.declared.calls.Turn.TheVariants as turn
use Rattle.cb_ops.proofs.Ite.{Grows-then}
use Rattle.cb_ops.proofs.Waiting.{Going, going-called, going-open, going-turn, going-asked, asked-work, going-waits, going-half, going-resumed, resumed-work, refused-room, going-answer, going-room, room-of, turn-cause, work_of}
use Rattle.cb_ops.proofs.Ops.run.Goals as goal

pub ask-requires-clause-call : goal.ask-requires-clause-call
ask-requires-clause-call c = going-called c.args.self.now c.loop-turn.self c.args.call c.in-Ask.call c.loop-turn.pending.items c.loop-turn.turn c.in-Ask.is c.loop-turn.invariant

pub ask-requires-clause-open : goal.ask-requires-clause-open
ask-requires-clause-open c = going-open c.args.self.now c.loop-turn.self c.args.call c.in-Ask.call c.loop-turn.pending.items c.loop-turn.turn c.in-Ask.is c.loop-turn.invariant

pub returns-in_err-turn-in-Ask-clause-room : goal.returns-in_err-turn-in-Ask-clause-room
returns-in_err-turn-in-Ask-clause-room c =
    let from : Choice = c.args.call in
    room-of c.args.self.now c.ask.new.self from (Grows-then c.args.self.now c.loop-turn.self c.ask.new.self c.loop-turn.invariant.grows c.ask.ensures.grows) c.requires.call
    (refused-room c.args.self.now c.loop-turn.self c.ask.new.self from c.loop-turn.pending.items c.loop-turn.turn c.loop-turn.invariant c.in_err-turn-in-Ask.ensures.refused)

pub returns-in_err-turn-in-Ask-clause-nodes : goal.returns-in_err-turn-in-Ask-clause-nodes
returns-in_err-turn-in-Ask-clause-nodes c =
    let p = err_from_is_err_and c.from_residual.result c.from_residual.ensures.1 in
    rw (p.1, p.2) (turn-cause (c.args.call.f.0 ∷ c.args.call.g.0 ∷ c.args.call.h.0 ∷ []) c.args.self.now c.loop-turn.self c.ask.new.self c.in_err-turn-in-Ask.field-0.0 (returns-in_err-turn-in-Ask-clause-room c) (c.ask.ensures.grows.budget ∙ c.loop-turn.invariant.grows.budget) c.loop-turn.invariant.fulls c.in_err-turn-in-Ask.ensures.fulls c.in_err-turn-in-Ask.ensures.full)

pub loop-turn-smaller-in-Ask : goal.loop-turn-smaller-in-Ask
loop-turn-smaller-in-Ask c =
    let from : Choice = c.args.call in
    let g = going-turn c.args.self.now c.loop-turn.self from c.loop-turn.pending.items c.loop-turn.turn (turn.Ask c.in-Ask.call) c.in-Ask.is c.loop-turn.invariant in
    subst (λ u. work_of c.ask.new.self.triples c.ask.new.pending.items c.in_ok-turn-in-Ask.turn < work_of c.loop-turn.self.triples c.loop-turn.pending.items u) (sym c.in-Ask.is)
    (asked-work c.args.self.now c.loop-turn.self from c.in-Ask.call c.loop-turn.pending.items c.ask.new.pending.items g c.ask.new.self c.in_ok-turn-in-Ask.turn c.in_ok-turn-in-Ask.ensures.asked)

pub loop-turn-preserved-in-Ask : goal.loop-turn-preserved-in-Ask
loop-turn-preserved-in-Ask c =
    let from : Choice = c.args.call in
    let g = going-turn c.args.self.now c.loop-turn.self from c.loop-turn.pending.items c.loop-turn.turn (turn.Ask c.in-Ask.call) c.in-Ask.is c.loop-turn.invariant in
    going-asked c.args.self.now c.loop-turn.self from c.in-Ask.call c.loop-turn.pending.items c.ask.new.pending.items g c.ask.new.self c.ask.ensures.grows c.ask.ensures.diagram c.in_ok-turn-in-Ask.turn c.in_ok-turn-in-Ask.ensures.fulls c.in_ok-turn-in-Ask.ensures.asked

pub returns-in_default-pop-clause-function : goal.returns-in_default-pop-clause-function
returns-in_default-pop-clause-function c =
    let from : Choice = c.args.call in
    let none : c.loop-turn.pending.items ≡ [] = search rules in
    let g = going-turn c.args.self.now c.loop-turn.self from c.loop-turn.pending.items c.loop-turn.turn (turn.Answer c.in-Answer.r) c.in-Answer.is c.loop-turn.invariant in
    let e = subst (λ xs. Going c.args.self.now c.loop-turn.self from xs (turn.Answer c.in-Answer.r)) none g in
    (going-answer c.args.self.now c.loop-turn.self from c.in-Answer.r c.requires.call e).1

pub returns-in_default-pop-clause-room : goal.returns-in_default-pop-clause-room
returns-in_default-pop-clause-room c =
    let from : Choice = c.args.call in
    room-of c.args.self.now c.loop-turn.self from c.loop-turn.invariant.grows c.requires.call (going-room c.args.self.now c.loop-turn.self from c.loop-turn.pending.items c.loop-turn.turn c.loop-turn.invariant)

pub resume-requires-clause-waits : goal.resume-requires-clause-waits
resume-requires-clause-waits c =
    let from : Choice = c.args.call in
    let g = going-turn c.args.self.now c.loop-turn.self from c.loop-turn.pending.items c.loop-turn.turn (turn.Answer c.in-Answer.r) c.in-Answer.is c.loop-turn.invariant in
    going-waits c.args.self.now c.loop-turn.self from c.loop-turn.pending.items [] c.pop.new.self.items c.in-Some-pop.top c.in-Answer.r c.in-Some-pop.ensures.items g

pub resume-requires-clause-half : goal.resume-requires-clause-half
resume-requires-clause-half c =
    let from : Choice = c.args.call in
    let g = going-turn c.args.self.now c.loop-turn.self from c.loop-turn.pending.items c.loop-turn.turn (turn.Answer c.in-Answer.r) c.in-Answer.is c.loop-turn.invariant in
    going-half c.args.self.now c.loop-turn.self from c.loop-turn.pending.items [] c.pop.new.self.items c.in-Some-pop.top c.in-Answer.r c.in-Some-pop.ensures.items g

pub returns-in_err-turn-in-Answer-clause-room : goal.returns-in_err-turn-in-Answer-clause-room
returns-in_err-turn-in-Answer-clause-room c =
    let from : Choice = c.args.call in
    room-of c.args.self.now c.resume.new.self from (Grows-then c.args.self.now c.loop-turn.self c.resume.new.self c.loop-turn.invariant.grows c.resume.ensures.grows) c.requires.call
    (refused-room c.args.self.now c.loop-turn.self c.resume.new.self from c.loop-turn.pending.items c.loop-turn.turn c.loop-turn.invariant c.in_err-turn-in-Answer.ensures.refused)

pub returns-in_err-turn-in-Answer-clause-nodes : goal.returns-in_err-turn-in-Answer-clause-nodes
returns-in_err-turn-in-Answer-clause-nodes c =
    let p = err_from_is_err_and c.from_residual-in_err-turn-in-Answer.result c.from_residual-in_err-turn-in-Answer.ensures.1 in
    rw (p.1, p.2) (turn-cause (c.args.call.f.0 ∷ c.args.call.g.0 ∷ c.args.call.h.0 ∷ []) c.args.self.now c.loop-turn.self c.resume.new.self c.in_err-turn-in-Answer.field-0.0 (returns-in_err-turn-in-Answer-clause-room c) (c.resume.ensures.grows.budget ∙ c.loop-turn.invariant.grows.budget) c.loop-turn.invariant.fulls c.in_err-turn-in-Answer.ensures.fulls c.in_err-turn-in-Answer.ensures.full)

pub loop-turn-smaller : goal.loop-turn-smaller
loop-turn-smaller c =
    let from : Choice = c.args.call in
    let g = going-turn c.args.self.now c.loop-turn.self from c.loop-turn.pending.items c.loop-turn.turn (turn.Answer c.in-Answer.r) c.in-Answer.is c.loop-turn.invariant in
    subst (λ u. work_of c.resume.new.self.triples c.resume.new.pending.items c.in_ok-turn-in-Answer.turn < work_of c.loop-turn.self.triples c.loop-turn.pending.items u) (sym c.in-Answer.is)
    (resumed-work c.args.self.now c.loop-turn.self from c.loop-turn.pending.items c.resume.new.pending.items c.pop.new.self.items c.in-Some-pop.top c.in-Answer.r c.in-Some-pop.ensures.items g c.resume.new.self c.in_ok-turn-in-Answer.turn c.in_ok-turn-in-Answer.ensures.resumed)

pub loop-turn-preserved : goal.loop-turn-preserved
loop-turn-preserved c =
    let from : Choice = c.args.call in
    let g = going-turn c.args.self.now c.loop-turn.self from c.loop-turn.pending.items c.loop-turn.turn (turn.Answer c.in-Answer.r) c.in-Answer.is c.loop-turn.invariant in
    going-resumed c.args.self.now c.loop-turn.self from c.loop-turn.pending.items c.resume.new.pending.items c.pop.new.self.items c.in-Some-pop.top c.in-Answer.r c.in-Some-pop.ensures.items g c.resume.new.self c.resume.ensures.grows c.resume.ensures.diagram c.in_ok-turn-in-Answer.turn c.in_ok-turn-in-Answer.ensures.fulls c.in_ok-turn-in-Answer.ensures.resumed
