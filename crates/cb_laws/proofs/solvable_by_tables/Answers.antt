use Rattle.cb_laws.proofs.Tables.{solvable_by_tables as law}
use Rattle.cb_laws.proofs.solvable_by_tables.Goals as goal

pub returns : goal.returns
returns c = law
