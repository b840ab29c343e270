use Rattle.std.proofs.Common.{ap, ◌∙◌}
use Rattle.cb_elim.specs.Store.{Seen as Booleans}
use Rattle.cb_branch.specs.Running.{Seen}
use Rattle.cb_branch.proofs.Looks.{variables-are}
use Rattle.cb_branch.proofs.Running.variables.Goals as goal

pub returns-clause-count : goal.returns-clause-count
returns-clause-count c = λ b is. c.drawn.ensures ∙ ap (λ (o : Booleans). o.drawn) c.store_ref.ensures ∙ ap (λ (o : Seen). o.state.store.drawn) c.self.view_is ∙ variables-are c.args.self.now b is
