use Rattle.cb_branch.proofs.Laws.{has-values}
use Rattle.cb_branch.proofs.branch_has_its_values.Goals as goal

pub returns : goal.returns
returns c = has-values
