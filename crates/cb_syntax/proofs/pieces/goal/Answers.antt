use Rattle.std.proofs.Common.{arith}
use Rattle.std.proofs.lemmas.Result.{err_from_is_err_and, IfOk-weaker}
use Rattle.cb_lex.specs.View.{token_of}
use Rattle.cb_syntax.specs.Steps.{rest}
use Rattle.cb_syntax.proofs.Folds.{match_map}
use Rattle.cb_syntax.proofs.GoalMoves.{left_stops, chain_goal_stops, chain_goal_took}
use Rattle.cb_syntax.proofs.pieces.goal.Goals as goal

pub returns-in_err-left-in_default-kind : goal.returns-in_err-left-in_default-kind
returns-in_err-left-in_default-kind c =
    let p = err_from_is_err_and c.from_residual.result c.from_residual.ensures.1 in
    rw (p.1, p.2) (record {
      answer = left_stops _ _ (rest c.args.tokens.now c.args.at) _ (token_of c.in-Some.first) c.in-Some.ensures (c.in_default-kind.not-Atom, c.in_default-kind.not-Quoted) c.in_err-left-in_default-kind.field-0.0 c.in_err-left-in_default-kind.ensures.answer;
      forward = tt;
    })

pub returns-in_ok-left-in_default-kind : goal.returns-in_ok-left-in_default-kind
returns-in_ok-left-in_default-kind c = record {
  answer = match_map c.equation.result _ _ _ _ c.equation.ensures.answer
      (λ r s. chain_goal_took _ _ _ _ (token_of c.in-Some.first) c.in-Some.ensures (c.in_default-kind.not-Atom, c.in_default-kind.not-Quoted) _ _ _ _ c.in_ok-left-in_default-kind.ensures.answer s)
      (λ e s. chain_goal_stops _ _ _ _ (token_of c.in-Some.first) c.in-Some.ensures (c.in_default-kind.not-Atom, c.in_default-kind.not-Quoted) _ _ c.in_ok-left-in_default-kind.ensures.answer e s);
  forward = let f = c.in_ok-left-in_default-kind.ensures.forward in IfOk-weaker c.equation.result _ _ (λ r h. omega (arith, f, h)) c.equation.ensures.forward;
}
