use Rattle.std.proofs.Common.{sym}
use Rattle.std.proofs.lemmas.Result.{err_from_is_err_and}
use Rattle.cb_model.specs.Forms.{form_of}
use Rattle.cb_lex.specs.View.{token_of}
use Rattle.cb_syntax.specs.Steps.{rest}
use Rattle.cb_syntax.proofs.Folds.{match_map}
use Rattle.cb_syntax.proofs.GoalMoves.{call_goal_took, tail_stops, tail_took, equation_stops}
use Rattle.cb_syntax.proofs.pieces.call_goal.Goals as goal

pub returns-then-not-goes_on-clause-answer : goal.returns-then-not-goes_on-clause-answer
returns-then-not-goes_on-clause-answer c = call_goal_took _ _ _ _ (token_of c.args.first) c.requires.ahead c.requires.atom _ _ c.in_ok-term.ensures.answer (sym c.if-not-goes_on.ensures)

pub returns-in_err-left-clause-answer : goal.returns-in_err-left-clause-answer
returns-in_err-left-clause-answer c =
    let p = err_from_is_err_and c.from_residual-in_err-left.result c.from_residual-in_err-left.ensures.1 in
    rw (p.1, p.2) (tail_stops _ _ (rest c.args.tokens.now c.args.at) _ (token_of c.args.first) c.requires.ahead c.requires.atom (rest c.args.tokens.now c.in_ok-term.after) (form_of c.in_ok-term.term) c.in_ok-term.ensures.answer
    (sym c.if-not-goes_on.ensures) c.in_err-left.field-0.0 c.in_err-left.ensures.answer)

pub returns-clause-answer : goal.returns-clause-answer
returns-clause-answer c =
    match_map c.equation.result _ _ _ _ c.equation.ensures.answer
    (λ r s. tail_took _ _ _ _ (token_of c.args.first) c.requires.ahead c.requires.atom _ _ c.in_ok-term.ensures.answer (sym c.if-not-goes_on.ensures) _ _ c.in_ok-left.ensures.answer _ _ s)
    (λ e s. equation_stops _ _ _ _ (token_of c.args.first) c.requires.ahead c.requires.atom _ _ c.in_ok-term.ensures.answer (sym c.if-not-goes_on.ensures) _ _ c.in_ok-left.ensures.answer e s)
