use Rattle.std.proofs.Common.{◌∙◌}
use Rattle.cb_show.proofs.Fronts.{front_as}
use Rattle.cb_answer.proofs.telling.answer.Goals as goal

pub returns-in-Ok-clause-front : goal.returns-in-Ok-clause-front
returns-in-Ok-clause-front g c e i =
    let t = c.in-Ok.ensures.text in
    record { line = t.line; is = t.is; front = front_as c.deref.result.now _ (c.deref.ensures.value ∙ t.whole) c.in-Err-write_all.ensures.front }
