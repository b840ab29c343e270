use Rattle.cb_rows.proofs.CircuitRows.{rows_hold}
use Rattle.cb_rows.proofs.circuit_examples.Goals as goal

pub returns : goal.returns
returns c = rows_hold
