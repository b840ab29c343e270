use Rattle.std.proofs.Common.{◌-◌, is_some, subst, sym, ap, ◌∙◌}
use Rattle.cb_solution.specs.Parts.{AreAbsent}
use Rattle.cb_solution.proofs.Places.{absent-next}
use Rattle.cb_solution.proofs.Stages.{next-number}
use Rattle.cb_solution.proofs.parts.last_of.Goals as goal

pub loop-k-preserved : goal.loop-k-preserved
loop-k-preserved c = absent-next c.args.support.now c.args.levels.now.keys (c.loop-k.k - 1)
    (subst (λ j. AreAbsent c.args.support.now c.args.levels.now.keys j) (next-number c.loop-k.k c.loop-k-test.true) c.loop-k.invariant)
    (sym c.get_index_of.ensures.found ∙ ap is_some c.in_default.is)
