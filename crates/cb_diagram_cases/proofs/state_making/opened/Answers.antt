use Rattle.std.proofs.lemmas.Result.{IfOk-weaker}
use Rattle.cb_diagram_cases.proofs.Frames.{frame-there}
use Rattle.cb_diagram_cases.proofs.state_making.opened.Goals as goal

pub returns-clause-frame : goal.returns-clause-frame
returns-clause-frame c = IfOk-weaker c.fresh.result _ _ (λ f o. (o.number, frame-there _ _ _ f c.fresh.ensures.state o)) c.fresh.ensures.opens
