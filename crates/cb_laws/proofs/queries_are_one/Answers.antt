use Rattle.cb_laws.proofs.OneReading.{queries_are_one as law}
use Rattle.cb_laws.proofs.queries_are_one.Goals as goal

pub returns : goal.returns
returns c = law
