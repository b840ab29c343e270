use Rattle.std.proofs.Common.{List, map, None, sym, subst}
use Rattle.cb_model.specs.declared.RawClause.{RawClause}
use Rattle.cb_model.specs.Forms.{clause_form}
use Rattle.cb_model.specs.Written.{AreClauses}
use Rattle.cb_model.specs.Facts.{FactsRead, no_circuits}
use Rattle.cb_circ.specs.Refused.{RefusesFacts}
use Rattle.cb_lines.proofs.Writing.{ends_for}
use Rattle.cb_accept.proofs.Accepting.{accepted-of, unconnected-refused}
use Rattle.cb_accept.proofs.with_circuits.Goals as goal

pub read_circuits-requires : goal.read_circuits-requires
read_circuits-requires c = subst (λ (cs : List RawClause). AreClauses 4194304 (map clause_form cs)) (sym c.as_slice.ensures.value) c.requires.written

pub returns-in-Ok-clause-accepted : goal.returns-in-Ok-clause-accepted
returns-in-Ok-clause-accepted c = record {
  read = record { short = c.requires.short; reading = c.requires.reading };
  written = c.requires.written;
  loads = c.requires.loads;
  facts = subst (λ (cs : List RawClause). FactsRead no_circuits (map clause_form cs) None c.in-Ok.circuits) c.as_slice.ensures.value c.in-Ok.ensures.read;
}

pub returns-in-Err-clause-accepted : goal.returns-in-Err-clause-accepted
returns-in-Err-clause-accepted c =
    ends_for c.unconnected.result
    (λ r t. unconnected-refused (map clause_form c.args.clauses.items) c.args.program.declared c.in-Err.error r (accepted-of (map clause_form c.args.clauses.items) c.args.program c.requires.loads)
    (subst (λ (cs : List RawClause). RefusesFacts (map clause_form cs) c.in-Err.error) c.as_slice.ensures.value c.in-Err.ensures.refused) t)
    (λ x. x) c.unconnected.ensures
