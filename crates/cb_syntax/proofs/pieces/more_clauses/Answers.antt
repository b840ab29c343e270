use Rattle.std.proofs.Common.{◌∷◌, [], map, refl}
use Rattle.std.proofs.lemmas.Result.{err_from_is_err_and}
use Rattle.cb_model.specs.Forms.{clause_form}
use Rattle.cb_model.specs.Grammar.{FormClause, ReadsClause}
use Rattle.cb_syntax.specs.Machine.{Clauses}
use Rattle.cb_syntax.specs.Steps.{rest}
use Rattle.cb_syntax.proofs.Folds.{pushed_by}
use Rattle.cb_syntax.proofs.Whole.{clauses_start}
use Rattle.cb_syntax.proofs.ClauseMoves.{pieces_more, pieces_stop, pieces_done}
use Rattle.cb_syntax.proofs.pieces.more_clauses.Goals as goal

pub loop-first-preserved : goal.loop-first-preserved
loop-first-preserved c =
    pieces_more FormClause ReadsClause (Clauses ∷ []) clauses_start _ _ _ _ _ _ c.loop-first.invariant c.in_ok-clause.ensures.answer.reads c.in_ok-clause.ensures.answer.runs (pushed_by clause_form _ _ _ c.in_ok-append.ensures)

pub returns-in_err-clause : goal.returns-in_err-clause
returns-in_err-clause c =
    let p = err_from_is_err_and c.from_residual.result c.from_residual.ensures.1 in
    rw (p.1, p.2) (pieces_stop FormClause ReadsClause (Clauses ∷ []) clauses_start (rest c.args.tokens.now 0) (rest c.args.tokens.now c.loop-first.left) (map clause_form c.loop-first.found.items) c.in_err-clause.field-0.0 c.loop-first.invariant
    c.in_err-clause.ensures.answer)

pub returns : goal.returns
returns c = pieces_done FormClause ReadsClause (Clauses ∷ []) clauses_start _ _ _ c.loop-first.invariant c.in_default.ensures refl
