use Rattle.cb_sorts.proofs.OverFile.{queries_over_file as law}
use Rattle.cb_sorts.proofs.queries_over_file.Goals as goal

pub returns : goal.returns
returns c = law
