use Rattle.cb_unify.proofs.Places.{places-few}
use Rattle.cb_unify.proofs.trees_have_few_places.Goals as goal

pub returns : goal.returns
returns c = places-few
