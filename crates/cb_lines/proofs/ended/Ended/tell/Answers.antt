use Rattle.std.proofs.Common.{sym, subst}
use Rattle.cb_model.specs.Text.{Text}
use Rattle.cb_model.specs.declared.Outcome.TheVariants.{Refused}
use Rattle.cb_lines.specs.declared.ended.Ended.{Ended}
use Rattle.cb_lines.specs.Ends.{Finishes, EndTold}
use Rattle.cb_lines.proofs.ended.Ended.tell.Goals as goal

pub returns-in-Refused-clause-told : goal.returns-in-Refused-clause-told
returns-in-Refused-clause-told g c =
    let k : Finishes (g.O.Sink.written c.args.out.now) (g.O.Sink.written c.finish.new.out) c.bytes.result.now (Refused c.in-Refused.number) c.finish.result = c.finish.ensures.written in
    subst (λ (e : Ended). EndTold e (g.O.Sink.written c.args.out.now) (g.O.Sink.written c.finish.new.out) c.finish.result) (sym c.in-Refused.is)
    (subst (λ (t : Text). Finishes (g.O.Sink.written c.args.out.now) (g.O.Sink.written c.finish.new.out) t (Refused c.in-Refused.number) c.finish.result) c.bytes.ensures k)
