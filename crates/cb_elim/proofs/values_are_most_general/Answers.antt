use Rattle.cb_elim.proofs.Equations.{most-general, reproductive}
use Rattle.cb_elim.proofs.values_are_most_general.Goals as goal

pub returns : goal.returns
returns c = record { reproductive = reproductive; most_general = most-general }
