use Rattle.std.proofs.Common.{List, ◌+◌, [], ◌∷◌, ap, map, drop}
use Rattle.cb_model.specs.declared.RawClause.{RawClause}
use Rattle.cb_model.specs.Directives.{Sign}
use Rattle.cb_model.specs.Forms.{clause_form}
use Rattle.cb_directives.proofs.Reading.{drop_past}
use Rattle.cb_signs.specs.Wanted.{named_signs}
use Rattle.cb_signs.proofs.Adding.{so_far_on, so_far_end, more_clauses}
use Rattle.cb_signs.proofs.clauses.add_clauses.Goals as goal

abbrev left : List RawClause → List Sign
left ts = named_signs (map clause_form ts)

pub loop-clause-preserved : goal.loop-clause-preserved
loop-clause-preserved c =
    let ts = c.args.clauses.now in
    let i = c.loop-clause.clause-index in
    so_far_on c.args.base.now c.args.more.now c.loop-clause.more c.add_clause.new.more (left ts) (left (drop i ts)) (named_signs (clause_form c.clause-item.result ∷ [])) (left (drop (i + 1) ts))
    (more_clauses ts i c.clause-item.result c.loop-clause-test.true c.clause-item.is) c.loop-clause.invariant c.in_ok-add_clause.ensures

pub returns : goal.returns
returns c =
    let ts = c.args.clauses.now in
    let i = c.loop-clause.clause-index in
    so_far_end c.args.base.now c.args.more.now c.loop-clause.more (left ts) (left (drop i ts)) (ap left (drop_past ts i c.loop-clause-test.false)) c.loop-clause.invariant
