use Rattle.cb_rows.proofs.TextRows.{rows_hold}
use Rattle.cb_rows.proofs.text_examples.Goals as goal

pub returns : goal.returns
returns c = rows_hold
