use Rattle.std.proofs.Common.{◌-◌, ◌∷◌, [], length, map}
use Rattle.cb_model.specs.Forms.{clause_form}
use Rattle.cb_model.specs.Grammar.{ReadsClause}
use Rattle.cb_syntax.specs.Machine.{Clauses}
use Rattle.cb_syntax.specs.Steps.{rest}
use Rattle.cb_syntax.proofs.ClauseMoves.{PiecesSoFar}
use Rattle.cb_syntax.proofs.pieces.more_clauses.Given as goal

abbrev pub invariant-loop-first : goal.invariant-loop-first
invariant-loop-first l = PiecesSoFar ReadsClause (Clauses ∷ []) (rest l.tokens 0) (rest l.tokens l.left) (map clause_form l.found.items)

abbrev pub decreases-loop-first : goal.decreases-loop-first
decreases-loop-first l = length l.tokens - l.left
