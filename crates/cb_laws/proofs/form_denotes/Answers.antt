use Rattle.cb_laws.proofs.Form.{form_denotes as law}
use Rattle.cb_laws.proofs.form_denotes.Goals as goal

pub returns : goal.returns
returns c = law
