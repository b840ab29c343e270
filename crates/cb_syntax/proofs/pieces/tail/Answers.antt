use Rattle.std.proofs.Common.{ap, map}
use Rattle.std.proofs.lemmas.Result.{err_from_is_err_and}
use Rattle.cb_model.specs.Forms.{goal_form}
use Rattle.cb_lex.specs.View.{token_of}
use Rattle.cb_syntax.specs.Steps.{rest}
use Rattle.cb_syntax.proofs.ClauseMoves.{dot_took, body_took, body_stops}
use Rattle.cb_syntax.proofs.pieces.tail.Goals as goal

pub returns-in-Dot-clause-answer : goal.returns-in-Dot-clause-answer
returns-in-Dot-clause-answer c = dot_took _ _ _ (token_of c.in-Some.next) _ c.in-Some.ensures c.in-Dot.is _ (ap (map goal_form) c.new.ensures)

pub returns-in_err-body-in-Neck-clause-answer : goal.returns-in_err-body-in-Neck-clause-answer
returns-in_err-body-in-Neck-clause-answer c =
    let p = err_from_is_err_and c.from_residual.result c.from_residual.ensures.1 in
    rw (p.1, p.2) (body_stops _ _ (rest c.args.tokens.now c.args.at) (token_of c.in-Some.next) _ c.in-Some.ensures c.in-Neck.is c.in_err-body-in-Neck.field-0.0 c.in_err-body-in-Neck.ensures.answer)

pub returns-in_ok-body-in-Neck-clause-answer : goal.returns-in_ok-body-in-Neck-clause-answer
returns-in_ok-body-in-Neck-clause-answer c = body_took _ _ _ (token_of c.in-Some.next) _ c.in-Some.ensures c.in-Neck.is _ _ c.in_ok-body-in-Neck.ensures.answer
