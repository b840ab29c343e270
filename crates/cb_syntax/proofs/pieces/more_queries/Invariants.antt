use Rattle.std.proofs.Common.{◌-◌, ◌∷◌, [], length, map}
use Rattle.cb_model.specs.Forms.{query_form}
use Rattle.cb_model.specs.Grammar.{ReadsQuery}
use Rattle.cb_syntax.specs.Machine.{Queries}
use Rattle.cb_syntax.specs.Steps.{rest}
use Rattle.cb_syntax.proofs.ClauseMoves.{PiecesSoFar}
use Rattle.cb_syntax.proofs.pieces.more_queries.Given as goal

abbrev pub invariant-loop-first : goal.invariant-loop-first
invariant-loop-first l = PiecesSoFar ReadsQuery (Queries ∷ []) (rest l.tokens 0) (rest l.tokens l.left) (map query_form l.found.items)

abbrev pub decreases-loop-first : goal.decreases-loop-first
decreases-loop-first l = length l.tokens - l.left
