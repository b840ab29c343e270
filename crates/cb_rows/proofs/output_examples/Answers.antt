use Rattle.cb_rows.proofs.OutputRows.{rows_hold}
use Rattle.cb_rows.proofs.output_examples.Goals as goal

pub returns : goal.returns
returns c = rows_hold
