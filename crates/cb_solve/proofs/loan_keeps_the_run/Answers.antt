use Rattle.cb_solve.proofs.Going.{loan-run}
use Rattle.cb_solve.proofs.loan_keeps_the_run.Goals as goal

pub returns : goal.returns
returns c = loan-run
