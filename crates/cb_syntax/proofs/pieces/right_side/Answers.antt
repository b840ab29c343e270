use Rattle.cb_syntax.proofs.Folds.{match_map}
use Rattle.cb_syntax.proofs.GoalMoves.{right_stops, equation_took}
use Rattle.cb_syntax.proofs.pieces.right_side.Goals as goal

pub returns-clause-answer : goal.returns-clause-answer
returns-clause-answer c =
    match_map c.chain.result _ _ _ _ c.chain.ensures.answer
    (λ r s x. equation_took _ _ _ _ c.in_ok-after.ensures.1 x _ _ s)
    (λ e s. right_stops _ _ _ _ c.in_ok-after.ensures.1 e s)
