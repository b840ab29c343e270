use Rattle.std.proofs.Common.{◌≡◌, true, List, Option, map, drop}
use Rattle.std.specs.List.{list_all}
use Rattle.cb_model.specs.Text.{Text}
use Rattle.cb_model.specs.Written.{clause_written}
use Rattle.cb_model.specs.Forms.{clause_form}
use Rattle.cb_known.specs.Modules.{AreNumbers}
use Rattle.cb_rules.proofs.InOrder.{RulesSoFar}
use Rattle.cb_rules.proofs.adding.rules.Given as goal

abbrev pub invariant-loop-clause : goal.invariant-loop-clause
invariant-loop-clause l = record {
  written : list_all clause_written (map clause_form (drop l.clause-index l.clauses)) ≡ true;
  rules : (ms : List (Option Text)) → AreNumbers ms l.given.modules.now →
      RulesSoFar l.given.declared.now l.given.heads.now l.given.names.now ms (map clause_form l.clauses) (map clause_form (drop l.clause-index l.clauses)) l.all;
}
