use Rattle.cb_branch.proofs.Laws.{loan-keeps}
use Rattle.cb_branch.proofs.loan_keeps_the_branch.Goals as goal

pub returns : goal.returns
returns c = loan-keeps
