use Rattle.std.proofs.Common.{◌≡◌}
use Rattle.cb_solve.specs.declared.Event.TheVariants as event
use Rattle.cb_solve.specs.declared.Budget.TheVariants as budget
use Rattle.cb_solve.proofs.Answering.{answer-follows}
use Rattle.cb_solve.proofs.Going.{none-of, run-after, run-over, run-stands, run-starved}
use Rattle.cb_solve.proofs.Engine.next.Goals as goal

pub returns-in-Ok-clause-answer : goal.returns-in-Ok-clause-answer
returns-in-Ok-clause-answer c = λ e none.
    let y : c.event_of-event.result ≡ event.Answer = cc in
    answer-follows c.self.inside.machine c.advance.new.m c.self.inside.over c.over_of-self-inside.result c.self.inside.starved c.self.inside.starved c.args.self.now c.in-Ok.stepped c.event_of-event.result c.self.view_is
    c.in-Ok.ensures.at c.in-Ok.ensures.same c.event_of-event.ensures y

pub advance-requires : goal.advance-requires
advance-requires c =
    run-stands c.self.inside.machine c.self.inside.over c.self.inside.starved c.args.self.now c.self.view_is c.requires (none-of c.self.inside.over (λ x e. c.in_default.not-Some x e)) c.if-self.false

pub returns-in-Ok-clause-run : goal.returns-in-Ok-clause-run
returns-in-Ok-clause-run c =
    run-after c.self.inside.machine c.advance.new.m c.over_of-self-inside.result c.self.inside.starved c.in-Ok.stepped c.event_of-event.result
    c.in-Ok.ensures.at c.in-Ok.ensures.same c.event_of-event.ensures c.over_of-self-inside.ensures

pub returns-in-Err-Nodes-clause-run : goal.returns-in-Err-Nodes-clause-run
returns-in-Err-Nodes-clause-run c = run-over c.advance.new.m (event.Stopped budget.Nodes) c.self.inside.starved

pub returns-in-Err-Memory-clause-run : goal.returns-in-Err-Memory-clause-run
returns-in-Err-Memory-clause-run c = run-starved c.advance.new.m c.self.inside.over
