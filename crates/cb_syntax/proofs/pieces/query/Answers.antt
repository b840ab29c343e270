use Rattle.std.proofs.lemmas.Result.{err_from_is_err_and}
use Rattle.cb_lex.specs.View.{token_of}
use Rattle.cb_syntax.specs.Steps.{rest}
use Rattle.cb_syntax.proofs.ClauseMoves.{query_stops, query_took}
use Rattle.cb_syntax.proofs.pieces.query.Goals as goal

pub returns-in_err-goals-clause-answer : goal.returns-in_err-goals-clause-answer
returns-in_err-goals-clause-answer c =
    let p = err_from_is_err_and c.from_residual.result c.from_residual.ensures.1 in
    rw (p.1, p.2) (query_stops _ _ (rest c.args.tokens.now c.args.at) _ (token_of c.args.first) c.requires c.in_err-goals.field-0.0 c.in_err-goals.ensures.answer)

pub returns-clause-answer : goal.returns-clause-answer
returns-clause-answer c = query_took _ _ _ _ (token_of c.args.first) c.requires _ _ c.in_ok-goals.ensures.answer
