use Rattle.cb_sorts.proofs.Called.{queries_call_names as law}
use Rattle.cb_sorts.proofs.queries_call_names.Goals as goal

pub returns : goal.returns
returns c = law
