use Rattle.cb_laws.proofs.Begins.{same_beginning as notes_law, same_prints as prints_law}
use Rattle.cb_laws.proofs.same_beginning.Goals as goal

pub returns : goal.returns
returns c = record { notes = notes_law; prints = prints_law }
