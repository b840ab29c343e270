use Rattle.std.proofs.lemmas.Result.{err_from_is_err_and}
use Rattle.cb_model.specs.Forms.{form_of}
use Rattle.cb_syntax.specs.Steps.{rest}
use Rattle.cb_syntax.proofs.Folds.{match_map}
use Rattle.cb_syntax.proofs.GoalMoves.{rest_stop, star_stop, hash_stop, rest_took}
use Rattle.cb_syntax.proofs.pieces.chain_behind.Goals as goal

pub returns-in_err-product-clause-answer : goal.returns-in_err-product-clause-answer
returns-in_err-product-clause-answer c =
    let p = err_from_is_err_and c.from_residual.result c.from_residual.ensures.1 in
    rw (p.1, p.2) (rest_stop (rest c.args.tokens.now c.args.at) c.in_err-product.field-0.0 c.in_err-product.ensures.answer)

pub returns-in_err-sum-clause-answer : goal.returns-in_err-sum-clause-answer
returns-in_err-sum-clause-answer c =
    let p = err_from_is_err_and c.from_residual-in_err-sum.result c.from_residual-in_err-sum.ensures.1 in
    let a = c.in_ok-product.ensures.answer in
    rw (p.1, p.2) (star_stop (form_of c.args.first) _ _ _ a.took c.in_err-sum.field-0.0 c.in_err-sum.ensures.answer)

pub returns-clause-answer : goal.returns-clause-answer
returns-clause-answer c =
    let a = c.in_ok-product.ensures.answer in
    let b = c.in_ok-sum.ensures.answer in
    match_map c.longer-3.result _ _ _ _ c.longer-3.ensures.answer
    (λ r s. rest_took _ _ _ _ a.took _ a.is _ _ b.took _ b.is _ _ s.took _ s.is)
    (λ e s. hash_stop _ _ _ _ a.took _ a.is _ _ b.took e s)
