use Rattle.cb_outputs.proofs.OneQuery.{query_one as law}
use Rattle.cb_outputs.proofs.query_is_one.Goals as goal

pub returns : goal.returns
returns c = law
