use Rattle.cb_unify.proofs.Instances.{solutions-are-instances, values-are-instances}
use Rattle.cb_unify.proofs.solutions_are_instances.Goals as goal

pub returns-clause-values : goal.returns-clause-values
returns-clause-values c = values-are-instances

pub returns-clause-solutions : goal.returns-clause-solutions
returns-clause-solutions c = solutions-are-instances
