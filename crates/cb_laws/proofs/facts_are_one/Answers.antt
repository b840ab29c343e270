use Rattle.cb_laws.proofs.OneFacts.{facts-are-one}
use Rattle.cb_laws.proofs.facts_are_one.Goals as goal

pub returns : goal.returns
returns c = λ a d e cs r s h k. facts-are-one h k
