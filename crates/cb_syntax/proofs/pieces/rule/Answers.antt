use Rattle.std.proofs.lemmas.Result.{err_from_is_err_and}
use Rattle.cb_model.specs.Forms.{form_of}
use Rattle.cb_lex.specs.View.{token_of}
use Rattle.cb_syntax.specs.Steps.{rest}
use Rattle.cb_syntax.proofs.ClauseMoves.{head_stops, tail_stops, rule_took}
use Rattle.cb_syntax.proofs.pieces.rule.Goals as goal

pub returns-in_err-head-clause-answer : goal.returns-in_err-head-clause-answer
returns-in_err-head-clause-answer c =
    let p = err_from_is_err_and c.from_residual.result c.from_residual.ensures.1 in
    rw (p.1, p.2) (head_stops _ _ (rest c.args.tokens.now c.args.at) _ (token_of c.args.first) c.requires.ahead c.requires.atom c.in_err-head.field-0.0 c.in_err-head.ensures.answer)

pub returns-in-Ok-clause-answer : goal.returns-in-Ok-clause-answer
returns-in-Ok-clause-answer c = rule_took _ _ _ _ (token_of c.args.first) c.requires.ahead c.requires.atom _ _ c.in_ok-head.ensures.answer _ _ _ c.in-Ok.ensures.answer

pub returns-in-Err-clause-answer : goal.returns-in-Err-clause-answer
returns-in-Err-clause-answer c =
    tail_stops _ _ (rest c.args.tokens.now c.args.at) _ (token_of c.args.first) c.requires.ahead c.requires.atom (rest c.args.tokens.now c.in_ok-head.after) (form_of c.in_ok-head.head) c.in_ok-head.ensures.answer c.in-Err.stop c.in-Err.ensures.answer
