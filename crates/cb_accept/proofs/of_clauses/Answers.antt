use Rattle.std.proofs.Common.{List, map, sym, subst}
use Rattle.cb_model.specs.declared.RawClause.{RawClause}
use Rattle.cb_model.specs.Forms.{clause_form}
use Rattle.cb_model.specs.Written.{AreClauses}
use Rattle.cb_rules.specs.Refused.{Refuses}
use Rattle.cb_sorts.specs.Source.{Loads}
use Rattle.cb_lines.proofs.Writing.{ends_for}
use Rattle.cb_accept.proofs.Accepting.{unloaded-refused}
use Rattle.cb_accept.proofs.of_clauses.Goals as goal

pub load-requires : goal.load-requires
load-requires c = subst (λ (cs : List RawClause). AreClauses 4194304 (map clause_form cs)) (sym c.as_slice.ensures.value) c.requires.written

pub with_circuits-requires-clause-loads : goal.with_circuits-requires-clause-loads
with_circuits-requires-clause-loads c = subst (λ (cs : List RawClause). Loads (map clause_form cs) c.in-Ok.program) c.as_slice.ensures.value c.in-Ok.ensures

pub returns-in-Err-clause-accepted : goal.returns-in-Err-clause-accepted
returns-in-Err-clause-accepted c =
    ends_for c.unloaded.result
    (λ r t. unloaded-refused (map clause_form c.args.clauses.items) c.in-Err.error r (subst (λ (cs : List RawClause). Refuses (map clause_form cs) c.in-Err.error) c.as_slice.ensures.value c.in-Err.ensures) t)
    (λ x. x) c.unloaded.ensures
