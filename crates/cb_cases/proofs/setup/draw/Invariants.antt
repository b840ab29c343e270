use Rattle.std.proofs.Common.{◌≡◌, ◌+◌, length}
use Rattle.cb_elim.specs.Store.{IsStore}
use Rattle.cb_cases.proofs.setup.draw.Given as goal

abbrev pub invariant-loop : goal.invariant-loop
invariant-loop l = record {
  store : IsStore l.store;
  constants : l.store.constants ≡ 1;
  drawn : l.store.drawn ≡ 1 + l.counter;
  slots : length l.store.slots ≡ l.counter;
}
