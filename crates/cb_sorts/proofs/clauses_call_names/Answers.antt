use Rattle.cb_sorts.proofs.Called.{clauses_call_names as law}
use Rattle.cb_sorts.proofs.clauses_call_names.Goals as goal

pub returns : goal.returns
returns c = law
