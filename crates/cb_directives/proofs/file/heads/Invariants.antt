use Rattle.cb_directives.proofs.Steps.{HeadsSoFar}
use Rattle.cb_directives.proofs.file.heads.Given as goal

abbrev pub invariant-loop-clause : goal.invariant-loop-clause
invariant-loop-clause l = HeadsSoFar l.clauses l.signs l.clause-index
