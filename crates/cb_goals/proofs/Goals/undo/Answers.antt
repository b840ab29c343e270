use Rattle.std.proofs.Common.{ap, take, ◌∙◌}
use Rattle.cb_goals.specs.Chain.{goals_at}
use Rattle.cb_goals.proofs.Lists.{goals-cut}
use Rattle.cb_goals.proofs.Goals.undo.Goals as goal

pub returns-clause-kept : goal.returns-clause-kept
returns-clause-kept c =
    λ n l. ap (λ ds. goals_at ds n) (c.truncate.ensures.items ∙ ap (take c.args.to) c.self.view_is) ∙ goals-cut c.args.self.now c.args.to n c.requires l
