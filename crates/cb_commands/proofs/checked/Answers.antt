use Rattle.std.proofs.Common.{◌≡◌, List, count_by, subst}
use Rattle.cb_model.specs.declared.RawClause.{RawClause}
use Rattle.cb_model.specs.Forms.{clause_form}
use Rattle.cb_commands.specs.Counts.{is_counted}
use Rattle.cb_commands.proofs.Deciding.{check-counts}
use Rattle.cb_commands.proofs.checked.Goals as goal

pub returns : goal.returns
returns c =
    check-counts c.args.file.now c.in_ok-line.line.items c.rule_count-clauses.result c.modules.result
    (subst (λ (cs : List RawClause). c.rule_count-clauses.result ≡ count_by (λ k. is_counted (clause_form k)) cs) c.as_slice.ensures.value c.rule_count-clauses.ensures) c.modules.ensures c.in_ok-line.ensures
