use Rattle.std.proofs.Common.{sym, subst}
use Rattle.cb_unify.specs.State.{IsState}
use Rattle.cb_unify.proofs.Back.{empty-state}
use Rattle.cb_unify.proofs.State.new.Goals as goal

pub returns-clause-state : goal.returns-clause-state
returns-clause-state c =
    subst IsState (λ i. record { heap = sym c.new-2.ensures.new i; store = sym c.in_ok-store.ensures.new i; made = sym c.new-3.ensures.items i }) (empty-state c.args.constants c.args.budget)
