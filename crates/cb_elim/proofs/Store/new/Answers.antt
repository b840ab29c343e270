use Rattle.std.proofs.Common.{subst, sym}
use Rattle.cb_elim.specs.Store.{Seen, IsStore}
use Rattle.cb_elim.proofs.Views.{empty-store}
use Rattle.cb_elim.proofs.Store.new.Goals as goal

pub returns-clause-store : goal.returns-clause-store
returns-clause-store c =
    subst (λ (s : Seen). IsStore s) (λ i. record {
      constants = c.args.constants;
      drawn = c.args.constants;
      free = sym c.new-2.ensures.items i;
      slots = sym c.new-3.ensures.items i;
      trail = sym c.new-4.ensures i;
      nodes = sym c.in_ok-ops.ensures.empty i;
    }) (empty-store c.args.constants c.args.budget)
