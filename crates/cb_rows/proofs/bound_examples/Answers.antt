use Rattle.cb_rows.proofs.BoundRows.{rows_hold}
use Rattle.cb_rows.proofs.bound_examples.Goals as goal

pub returns : goal.returns
returns c = rows_hold
