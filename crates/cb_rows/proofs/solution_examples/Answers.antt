use Rattle.cb_rows.proofs.SolutionRows.{rows_hold}
use Rattle.cb_rows.proofs.solution_examples.Goals as goal

pub returns : goal.returns
returns c = rows_hold
