use Rattle.std.proofs.Common.{◌≡◌, true, false, Result, Ok, Err, refl, ◌∙◌, ap, subst, codes}
use Rattle.cb_dd.specs.declared.Stop.{Stop}
use Rattle.cb_show.specs.declared.ShowError.{ShowError}
use Rattle.cb_show.specs.declared.ShowError.TheVariants as show
use Rattle.cb_solve.specs.declared.Budget.{Budget}
use Rattle.cb_solve.specs.declared.Event.{Event}
use Rattle.cb_solve.specs.declared.Event.TheVariants as event
use Rattle.cb_tell.specs.Telling.{AnswerTells, ended_text, stop_text}
use Rattle.cb_tell.proofs.Turns.{again-is, answered, end-tells, front-told, is-over, last-told, line-few, line-told, next-answer, next-on, silent, stopped, wanting}
use Rattle.cb_tell.proofs.tell_next.Goals as goal

pub tell_answer-requires : goal.tell_answer-requires
tell_answer-requires g c =
    let q = c.requires in
    let s = c.args.program.now in
    let a = c.args.query.now in
    let mid = g.O.Sink.written c.args.out.now in
    let f = next-answer s a q.0 q.1 q.2 mid c.args.engine.now c.args.none q.3 c.next.result c.next.new.self c.in-Ok-Answer.field-0 c.in-Ok-Answer.is c.in-Ok-Answer.field-0-is
    c.next.ensures.again c.next.ensures.answer in
    record { answered = answered s a q.0 q.1 q.2 mid c.args.engine.now c.args.none q.3 c.next.new.self f c.next.ensures.run }

pub returns-in-Ok-clause-told : goal.returns-in-Ok-clause-told
returns-in-Ok-clause-told g c = λ k m b h.
    let s = c.args.program.now in
    let a = c.args.query.now in
    let mid = g.O.Sink.written c.args.out.now in
    let f = next-answer s a k m b mid c.args.engine.now c.args.none h c.next.result c.next.new.self c.in-Ok-Answer.field-0 c.in-Ok-Answer.is c.in-Ok-Answer.field-0-is
    c.next.ensures.again c.next.ensures.answer in
    let over = next-on s a k m b mid c.args.engine.now c.args.none h c.next.result c.next.new.self c.in-Ok-Answer.field-0 c.in-Ok-Answer.is c.in-Ok-Answer.field-0-is
    c.next.ensures.again c.next.ensures.over in
    line-told s a k m b mid c.args.engine.now c.args.none h c.next.new.self f c.next.ensures.run c.loan_keeps_the_run.ensures (g.O.Sink.written c.tell_answer.new.out) c.tell_answer.new.engine
    c.tell_answer.ensures.lent over c.in-Ok.ensures.told

pub returns-in-Err-Failed-clause-told : goal.returns-in-Err-Failed-clause-told
returns-in-Err-Failed-clause-told g c = λ k m b h.
    let s = c.args.program.now in
    let a = c.args.query.now in
    let mid = g.O.Sink.written c.args.out.now in
    let after = g.O.Sink.written c.tell_answer.new.out in
    let f = next-answer s a k m b mid c.args.engine.now c.args.none h c.next.result c.next.new.self c.in-Ok-Answer.field-0 c.in-Ok-Answer.is c.in-Ok-Answer.field-0-is
    c.next.ensures.again c.next.ensures.answer in
    front-told s a k m b mid c.args.engine.now c.args.none h c.next.new.self f c.next.ensures.run after c.args.engine.now c.tell_answer.new.engine
    (subst (λ (z : Result (Unit {0}) ShowError). AnswerTells s a c.next.new.self.state mid after z) (c.in-Err-Failed.is ∙ ap (λ (z : ShowError). Err z) c.in-Err-Failed.field-0-is) c.tell_answer.ensures.told)

pub returns-in-Err-Stop-Nodes-clause-told : goal.returns-in-Err-Stop-Nodes-clause-told
unfolding silent
returns-in-Err-Stop-Nodes-clause-told g c = λ k m b h.
    let s = c.args.program.now in
    let a = c.args.query.now in
    let mid = g.O.Sink.written c.args.out.now in
    let after = g.O.Sink.written c.tell_answer.new.out in
    let f = next-answer s a k m b mid c.args.engine.now c.args.none h c.next.result c.next.new.self c.in-Ok-Answer.field-0 c.in-Ok-Answer.is c.in-Ok-Answer.field-0-is
    c.next.ensures.again c.next.ensures.answer in
    let t = subst (λ (z : Result (Unit {0}) ShowError). AnswerTells s a c.next.new.self.state mid after z)
    (c.in-Err-Stop-Nodes.is ∙ ap (λ (z : ShowError). Err z) (c.in-Err-Stop-Nodes.field-0-is ∙ ap (λ (z : Stop). show.Stop z) c.in-Err-Stop-Nodes.field-0-0-is)) c.tell_answer.ensures.told in
    last-told s a k m b after c.args.engine.now c.args.none (silent h t.0) (codes "stopped: nodes") true
    (line-few s a k m b mid c.args.engine.now c.args.none h c.next.new.self f c.next.ensures.run t.1) _ refl (g.O.Sink.written c.finish.new.out) c.args.engine.now c.tell_answer.new.engine c.finish.result
    c.finish.ensures.told

pub returns-in-Err-Stop-Memory-clause-told : goal.returns-in-Err-Stop-Memory-clause-told
returns-in-Err-Stop-Memory-clause-told g c = λ k m b h.
    let s = c.args.program.now in
    let a = c.args.query.now in
    let mid = g.O.Sink.written c.args.out.now in
    let after = g.O.Sink.written c.tell_answer.new.out in
    wanting s a k m b mid c.args.engine.now c.args.none h after c.args.engine.now c.tell_answer.new.engine
    (subst (λ (z : Result (Unit {0}) ShowError). AnswerTells s a c.next.new.self.state mid after z)
    (c.in-Err-Stop-Memory.is ∙ ap (λ (z : ShowError). Err z) (c.in-Err-Stop-Memory.field-0-is ∙ ap (λ (z : Stop). show.Stop z) c.in-Err-Stop-Memory.field-0-0-is)) c.tell_answer.ensures.told)

pub returns-in-Ok-End-clause-told : goal.returns-in-Ok-End-clause-told
returns-in-Ok-End-clause-told g c = λ k m b h.
    let s = c.args.program.now in
    let a = c.args.query.now in
    let mid = g.O.Sink.written c.args.out.now in
    let y : c.next.result ≡ Ok event.End = subst (λ (z : Event). c.next.result ≡ Ok z) c.in-Ok-End.field-0-is c.in-Ok-End.is in
    let over = is-over s a k m b mid c.args.engine.now c.args.none h c.next.result c.next.new.self c.in-Ok-End.field-0 event.End c.in-Ok-End.is c.in-Ok-End.field-0-is c.next.ensures.again (λ z. z) in
    last-told s a k m b mid c.args.engine.now c.args.none h (ended_text c.args.none) false (end-tells s a k m b mid c.args.engine.now c.args.none h (c.next.ensures.end y over))
    c.ended_line.result.now c.ended_line.ensures (g.O.Sink.written c.finish-in-Ok-End.new.out) c.args.engine.now c.next.new.self c.finish-in-Ok-End.result c.finish-in-Ok-End.ensures.told

pub returns-in-Ok-Stopped-clause-told : goal.returns-in-Ok-Stopped-clause-told
returns-in-Ok-Stopped-clause-told g c = λ k m b h.
    let s = c.args.program.now in
    let a = c.args.query.now in
    let mid = g.O.Sink.written c.args.out.now in
    let w = c.in-Ok-Stopped.budget in
    let y : c.next.result ≡ Ok (event.Stopped w) = subst (λ (z : Event). c.next.result ≡ Ok z) c.in-Ok-Stopped.field-0-is c.in-Ok-Stopped.is in
    last-told s a k m b mid c.args.engine.now c.args.none h (stop_text w) true
    (stopped s a k m b mid c.args.engine.now c.args.none h w
    (λ d e o. c.next.ensures.stopped d (subst (λ (v : Budget). c.next.result ≡ Ok (event.Stopped v)) e y) o)
    (λ e o. (c.next.ensures.nodes (subst (λ (v : Budget). c.next.result ≡ Ok (event.Stopped v)) e y) o).0)
    (again-is c.next.result (event.Stopped w) c.args.engine.now c.next.new.self y c.next.ensures.again))
    c.stop_line.result.now c.stop_line.ensures (g.O.Sink.written c.finish-in-Ok-Stopped.new.out) c.args.engine.now c.next.new.self c.finish-in-Ok-Stopped.result c.finish-in-Ok-Stopped.ensures.told
