use Rattle.std.proofs.Common.{◌∷◌, [], map, refl}
use Rattle.std.proofs.lemmas.Result.{err_from_is_err_and}
use Rattle.cb_model.specs.Forms.{query_form}
use Rattle.cb_model.specs.Grammar.{FormQuery, ReadsQuery}
use Rattle.cb_syntax.specs.Machine.{Queries}
use Rattle.cb_syntax.specs.Steps.{rest}
use Rattle.cb_syntax.proofs.Folds.{pushed_by}
use Rattle.cb_syntax.proofs.Whole.{queries_start}
use Rattle.cb_syntax.proofs.ClauseMoves.{pieces_more, pieces_stop, pieces_done}
use Rattle.cb_syntax.proofs.pieces.more_queries.Goals as goal

pub loop-first-preserved : goal.loop-first-preserved
loop-first-preserved c =
    pieces_more FormQuery ReadsQuery (Queries ∷ []) queries_start _ _ _ _ _ _ c.loop-first.invariant c.in_ok-query.ensures.answer.reads c.in_ok-query.ensures.answer.runs (pushed_by query_form _ _ _ c.in_ok-append.ensures)

pub returns-in_err-query : goal.returns-in_err-query
returns-in_err-query c =
    let p = err_from_is_err_and c.from_residual.result c.from_residual.ensures.1 in
    rw (p.1, p.2) (pieces_stop FormQuery ReadsQuery (Queries ∷ []) queries_start (rest c.args.tokens.now 0) (rest c.args.tokens.now c.loop-first.left) (map query_form c.loop-first.found.items) c.in_err-query.field-0.0 c.loop-first.invariant
    c.in_err-query.ensures.answer)

pub returns : goal.returns
returns c = pieces_done FormQuery ReadsQuery (Queries ∷ []) queries_start _ _ _ c.loop-first.invariant c.in_default.ensures refl
