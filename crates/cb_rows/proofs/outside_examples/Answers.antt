use Rattle.cb_rows.proofs.OutsideRows.{rows_hold}
use Rattle.cb_rows.proofs.outside_examples.Goals as goal

pub returns : goal.returns
returns c = rows_hold
