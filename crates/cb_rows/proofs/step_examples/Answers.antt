use Rattle.cb_rows.proofs.StepRows.{rows_hold}
use Rattle.cb_rows.proofs.step_examples.Goals as goal

pub returns : goal.returns
returns c = rows_hold
