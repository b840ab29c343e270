-- Solutions of a branch's items are instances of its state.
use Rattle.cb_model.specs.Equations.{valued}
use Rattle.cb_unify.proofs.Instances.{solutions-are-instances}
use Rattle.cb_items.specs.Instances.{SolutionsAreInstances}

pub solutions-of-items : SolutionsAreInstances
solutions-of-items w s es x is vals solves =
    solutions-are-instances w.arguments s (λ a. a) x is (λ a. let m = solves a tt in (vals a (valued x a) m.sorted).1 m.sat)
