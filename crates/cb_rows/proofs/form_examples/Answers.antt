use Rattle.cb_rows.proofs.FormRow.{rows_hold}
use Rattle.cb_rows.proofs.form_examples.Goals as goal

pub returns : goal.returns
returns c = rows_hold
