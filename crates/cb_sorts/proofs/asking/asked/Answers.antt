use Rattle.std.proofs.lemmas.Result.{err_from_is_err_and}
use Rattle.cb_sorts.proofs.asking.asked.Goals as goal

pub returns-in_err-marking : goal.returns-in_err-marking
returns-in_err-marking c = λ ms same.
    let p = err_from_is_err_and c.from_residual.result c.from_residual.ensures.1 in
    rw (p.1, p.2) (c.in_err-marking.ensures.refusal ms same)

pub returns-in-Ok : goal.returns-in-Ok
returns-in-Ok c = λ ms same. c.in-Ok.ensures ms same (c.in_ok-marking.ensures.refusal ms same)
