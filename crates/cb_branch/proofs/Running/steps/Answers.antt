use Rattle.std.proofs.Common.{sym, ap, ◌∙◌}
use Rattle.cb_branch.specs.Running.{Seen}
use Rattle.cb_branch.proofs.Looks.{steps-are}
use Rattle.cb_branch.proofs.Running.steps.Goals as goal

pub returns-clause-count : goal.returns-clause-count
returns-clause-count c = λ b is. ap (λ (o : Seen). o.steps) c.self.view_is ∙ sym (steps-are c.args.self.now b is)
