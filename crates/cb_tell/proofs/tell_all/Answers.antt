use Rattle.std.proofs.Common.{Result, Ok, refl, ◌∙◌, ap, subst}
use Rattle.cb_model.specs.declared.Outcome.{Outcome}
use Rattle.cb_tell.specs.declared.Turn.{Turn}
use Rattle.cb_tell.specs.Telling.{TurnTells}
use Rattle.cb_tell.proofs.Turns.{begun, falls}
use Rattle.cb_tell.proofs.tell_all.Goals as goal

pub loop-none-init : goal.loop-none-init
loop-none-init g c = record {
  told = λ k m b. begun c.args.program.now c.args.query.now k m (g.O.Sink.written c.args.out.now) c.args.engine.now b c.requires.behind;
  faults = refl;
}

pub tell_next-requires : goal.tell_next-requires
tell_next-requires g c = let q = c.requires.begins in (q.0, q.1, g.O.Sink.written c.args.out.now, c.loop-none.invariant.told q.0 q.1 q.2)

pub loop-none-smaller : goal.loop-none-smaller
loop-none-smaller g c =
    let q = c.requires.begins in
    let s = c.args.program.now in
    let a = c.args.query.now in
    let before = g.O.Sink.written c.args.out.now in
    let after = g.O.Sink.written c.tell_next.new.out in
    let h = c.loop-none.invariant.told q.0 q.1 q.2 in
    falls s a q.0 q.1 before (g.O.Sink.written c.loop-none.out) after c.loop-none.engine c.tell_next.new.engine c.loop-none.none h
    (subst (λ (z : Result Turn Outcome). TurnTells s a q.0 q.1 before after c.loop-none.engine c.tell_next.new.engine z)
    (c.in-Ok-Answered.is ∙ ap (λ (z : Turn). Ok z) c.in-Ok-Answered.field-0-is) (c.tell_next.ensures.told q.0 q.1 before h))

pub loop-none-preserved : goal.loop-none-preserved
loop-none-preserved g c = record {
  told = λ k m b.
      let s = c.args.program.now in
      let a = c.args.query.now in
      let before = g.O.Sink.written c.args.out.now in
      let after = g.O.Sink.written c.tell_next.new.out in
      (subst (λ (z : Result Turn Outcome). TurnTells s a k m before after c.loop-none.engine c.tell_next.new.engine z)
      (c.in-Ok-Answered.is ∙ ap (λ (z : Turn). Ok z) c.in-Ok-Answered.field-0-is) (c.tell_next.ensures.told k m before (c.loop-none.invariant.told k m b))).1;
  faults = c.in-Ok-Answered.ensures.faults.kept (λ z. z) ∙ c.loop-none.invariant.faults;
}

pub returns-in-Ok-Ended-clause-told : goal.returns-in-Ok-Ended-clause-told
returns-in-Ok-Ended-clause-told g c = λ k m b.
    let s = c.args.program.now in
    let a = c.args.query.now in
    let before = g.O.Sink.written c.args.out.now in
    let after = g.O.Sink.written c.tell_next.new.out in
    subst (λ (z : Result Turn Outcome). TurnTells s a k m before after c.loop-none.engine c.tell_next.new.engine z)
    (c.in-Ok-Ended.is ∙ ap (λ (z : Turn). Ok z) c.in-Ok-Ended.field-0-is) (c.tell_next.ensures.told k m before (c.loop-none.invariant.told k m b))
