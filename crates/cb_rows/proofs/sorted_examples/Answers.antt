use Rattle.cb_rows.proofs.SortedRows.{rows_hold}
use Rattle.cb_rows.proofs.sorted_examples.Goals as goal

pub returns : goal.returns
returns c = rows_hold
