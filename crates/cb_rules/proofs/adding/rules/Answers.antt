use Rattle.std.proofs.Common.{◌+◌, List, map, drop, ap}
use Rattle.std.proofs.lemmas.Result.{err_from_is_err_and}
use Rattle.cb_model.specs.declared.RawClause.{RawClause}
use Rattle.cb_model.specs.Forms.{clause_form}
use Rattle.cb_directives.proofs.Reading.{drop_past}
use Rattle.cb_rules.proofs.InOrder.{rules_init, rules_on, rules_stop, rules_end, opened_clauses, clause_here, clauses_behind}
use Rattle.cb_rules.proofs.adding.rules.Goals as goal

pub loop-clause-init : goal.loop-clause-init
loop-clause-init c = record {
  written = c.requires;
  rules = λ ms same. rules_init c.args.given.now.declared.now c.args.given.now.heads.now c.args.given.now.names.now ms (map clause_form c.args.clauses.now) c.new-all.result c.new-all.ensures;
}

pub add-requires : goal.add-requires
add-requires c = clause_here c.args.clauses.now c.loop-clause.clause-index c.clause-item.result c.loop-clause-test.true c.clause-item.is c.loop-clause.invariant.written

pub returns-in_err-add : goal.returns-in_err-add
returns-in_err-add c = λ ms same.
    let cs = c.args.clauses.now in
    let i = c.loop-clause.clause-index in
    let p = err_from_is_err_and c.from_residual.result c.from_residual.ensures.1 in
    rw (p.1, p.2)
    (rules_stop c.args.given.now.declared.now c.args.given.now.heads.now c.args.given.now.names.now ms (map clause_form cs) (map clause_form (drop i cs)) (map clause_form (drop (i + 1) cs)) (clause_form c.clause-item.result) c.loop-clause.all
    c.in_err-add.field-0.0 (opened_clauses cs i c.clause-item.result c.loop-clause-test.true c.clause-item.is) (c.loop-clause.invariant.rules ms same) (c.in_err-add.ensures ms same))

pub loop-clause-preserved : goal.loop-clause-preserved
loop-clause-preserved c =
    let cs = c.args.clauses.now in
    let i = c.loop-clause.clause-index in
    record {
      written = clauses_behind cs i c.clause-item.result c.loop-clause-test.true c.clause-item.is c.loop-clause.invariant.written;
      rules = λ ms same.
          rules_on c.args.given.now.declared.now c.args.given.now.heads.now c.args.given.now.names.now ms (map clause_form cs) (map clause_form (drop i cs)) (map clause_form (drop (i + 1) cs)) (clause_form c.clause-item.result)
          c.loop-clause.all c.add.new.all (opened_clauses cs i c.clause-item.result c.loop-clause-test.true c.clause-item.is) (c.loop-clause.invariant.rules ms same) (c.in_ok-add.ensures ms same);
    }

pub returns : goal.returns
returns c = λ ms same.
    let cs = c.args.clauses.now in
    let i = c.loop-clause.clause-index in
    rules_end c.args.given.now.declared.now c.args.given.now.heads.now c.args.given.now.names.now ms (map clause_form cs) (map clause_form (drop i cs)) c.loop-clause.all
    (ap (λ (l : List RawClause). map clause_form l) (drop_past cs i c.loop-clause-test.false)) (c.loop-clause.invariant.rules ms same)
