use Rattle.cb_rows.proofs.DetailRows.{rows_hold}
use Rattle.cb_rows.proofs.detail_examples.Goals as goal

pub returns : goal.returns
returns c = rows_hold
