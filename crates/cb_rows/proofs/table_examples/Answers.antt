use Rattle.cb_rows.proofs.TableRows.{rows_hold}
use Rattle.cb_rows.proofs.table_examples.Goals as goal

pub returns : goal.returns
returns c = rows_hold
