use Rattle.cb_sorts.proofs.Accepted.{accepted_are_sound as law}
use Rattle.cb_sorts.proofs.accepted_are_sound.Goals as goal

pub returns : goal.returns
returns c = law
