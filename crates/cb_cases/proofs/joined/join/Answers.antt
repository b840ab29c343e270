use Rattle.cb_cases.proofs.Moments.{keeps-none}
use Rattle.cb_cases.proofs.joined.join.Goals as goal

pub returns-in_err-before-clause-moments : goal.returns-in_err-before-clause-moments
returns-in_err-before-clause-moments c = keeps-none c.args.store.now
