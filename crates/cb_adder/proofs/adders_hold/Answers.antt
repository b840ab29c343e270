use Rattle.cb_adder.proofs.Whole.{adders_hold as law, loaded_adders, never_refused, verified_adders}
use Rattle.cb_adder.proofs.adders_hold.Goals as goal

pub returns : goal.returns
returns c = record { hold = law; loaded = loaded_adders; accepted = never_refused; verified = verified_adders }
