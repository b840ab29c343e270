use Rattle.cb_laws.proofs.Decided.{solvable_by_tables_below as law}
use Rattle.cb_laws.proofs.solvable_by_tables_below.Goals as goal

pub returns : goal.returns
returns c = law
