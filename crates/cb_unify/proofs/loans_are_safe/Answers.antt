use Rattle.cb_unify.proofs.Lent.{ops-lent, store-lent}
use Rattle.cb_unify.proofs.loans_are_safe.Goals as goal

pub returns-clause-store : goal.returns-clause-store
returns-clause-store c = store-lent

pub returns-clause-ops : goal.returns-clause-ops
returns-clause-ops c = ops-lent
