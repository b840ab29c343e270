use Rattle.cb_rows.proofs.LimitRows.{rows_hold}
use Rattle.cb_rows.proofs.limit_examples.Goals as goal

pub returns : goal.returns
returns c = rows_hold
