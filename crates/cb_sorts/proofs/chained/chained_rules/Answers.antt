use Rattle.std.specs.Prelude.{All, ◌<◌, ◌≤◌}
use Rattle.cb_model.specs.declared.Clause.{Clause}
use Rattle.cb_chains.specs.Chained.{AreChained}
use Rattle.std.proofs.Common.{List, map, length, sym, subst, arith}
use Rattle.std.proofs.lemmas.Result.{err_from_is_err_and}
use Rattle.cb_model.specs.Forms.{clause_form}
use Rattle.cb_model.specs.Directives.{heads}
use Rattle.cb_model.specs.Loading.{module_names}
use Rattle.cb_rules.proofs.InOrder.{refuses_same, rules_same}
use Rattle.cb_sorts.proofs.Known.{preds_below, few_clauses}
use Rattle.cb_sorts.proofs.chained.chained_rules.Goals as goal

pub returns-in_err-clauses-clause-rules : goal.returns-in_err-clauses-clause-rules
returns-in_err-clauses-clause-rules c =
    let cs = map clause_form c.args.clauses.now in
    let p = err_from_is_err_and c.from_residual.result c.from_residual.ensures.1 in
    rw (p.1, p.2)
    (refuses_same c.args.declared.now c.args.known.now.heads (heads cs) (module_names cs) c.requires.heads cs c.in_err-clauses.field-0.0
    (c.in_err-clauses.ensures (module_names cs) c.requires.modules))

pub new-requires : goal.new-requires
new-requires c =
    let cs = map clause_form c.args.clauses.now in
    let names = c.args.known.now.names in
    let read = c.in_ok-clauses.ensures (module_names cs) c.requires.modules in
    subst (λ n. All (λ x. x.pred < n) c.as_slice.result.now) (sym c.len.ensures.len)
    (subst (All (λ x. x.pred < length names)) (sym c.as_slice.ensures)
    (preds_below c.args.declared.now names (module_names cs) cs c.in_ok-clauses.clauses c.requires.written c.requires.wanted read.1))

pub returns-clause-rules : goal.returns-clause-rules
returns-clause-rules c =
    let cs = map clause_form c.args.clauses.now in
    let read = c.in_ok-clauses.ensures (module_names cs) c.requires.modules in
    (rules_same c.args.declared.now c.args.known.now.heads (heads cs) (module_names cs) c.requires.heads read.0, read.1)

pub returns-clause-chained : goal.returns-clause-chained
returns-clause-chained c =
    subst (λ (l : List Clause). AreChained l (length c.args.known.now.names) c.in-Ok.chains) c.as_slice.ensures
    (subst (λ n. AreChained c.as_slice.result.now n c.in-Ok.chains) c.len.ensures.len c.in-Ok.ensures)

pub returns-clause-few : goal.returns-clause-few
returns-clause-few c =
    let cs = map clause_form c.args.clauses.now in
    let names = c.args.known.now.names in
    let read = c.in_ok-clauses.ensures (module_names cs) c.requires.modules in
    let low : length c.in_ok-clauses.clauses ≤ length cs = few_clauses c.args.declared.now names (module_names cs) cs c.in_ok-clauses.clauses read.1 in
    let high : length cs ≤ 4194304 = c.requires.few in
    omega arith
