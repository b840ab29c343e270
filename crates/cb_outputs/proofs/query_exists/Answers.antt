use Rattle.cb_outputs.proofs.Says.{query_exists as law}
use Rattle.cb_outputs.proofs.query_exists.Goals as goal

pub returns : goal.returns
returns c = law
