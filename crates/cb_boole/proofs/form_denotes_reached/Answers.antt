use Rattle.cb_boole.proofs.Denoting.{form_denotes_reached as law}
use Rattle.cb_boole.proofs.form_denotes_reached.Goals as goal

pub returns : goal.returns
returns c = law
