use Rattle.cb_laws.proofs.Printed.{printed_are_solvable as solvable_law, printed_denote as denote_law}
use Rattle.cb_laws.proofs.printed_are_solvable.Goals as goal

pub returns : goal.returns
returns c = record { solvable = solvable_law; denote = denote_law }
