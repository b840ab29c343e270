use Rattle.cb_rows.proofs.FileRows.{rows_hold}
use Rattle.cb_rows.proofs.file_examples.Goals as goal

pub returns : goal.returns
returns c = rows_hold
