use Rattle.std.proofs.Common.{ℕ, ◌∙◌, List, reverse, subst, sym, ap}
use Rattle.std.specs.List.{filter}
use Rattle.cb_solution.specs.Solution.{IsFalling}
use Rattle.cb_project.specs.Leaves.{AreInner}
use Rattle.cb_project.proofs.Levels.{chosen-falls, are-inner, is_between}
use Rattle.cb_project.proofs.leaves.inner_levels.Goals as goal

pub returns-clause-fall : goal.returns-clause-fall
returns-clause-fall c =
    subst IsFalling (sym (c.in_ok-levels.ensures ∙ ap (λ (xs : List ℕ). filter (is_between c.args.constants c.args.first) (reverse xs)) c.as_slice.ensures))
    (chosen-falls (is_between c.args.constants c.args.first) c.in_ok-support.support.items c.in_ok-support.ensures.rise)

pub returns-clause-inner : goal.returns-clause-inner
returns-clause-inner c =
    subst (AreInner c.args.ops.now.triples c.args.f.0 c.args.constants c.args.first) (sym (c.in_ok-levels.ensures ∙ ap (λ (xs : List ℕ). filter (is_between c.args.constants c.args.first) (reverse xs)) c.as_slice.ensures))
    (are-inner c.args.ops.now.triples c.args.f.0 c.args.constants c.args.first c.in_ok-support.support.items c.in_ok-support.ensures.enough c.in_ok-support.ensures.needed)
