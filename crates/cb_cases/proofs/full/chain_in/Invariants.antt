use Rattle.std.proofs.Common.{◌≡◌, length}
use Rattle.cb_elim.specs.Store.{IsStore}
use Rattle.cb_cases.proofs.full.chain_in.Given as goal

abbrev pub invariant-loop-x : goal.invariant-loop-x
invariant-loop-x l = record {
  store : IsStore l.store;
  constants : l.store.constants ≡ 1;
  slots : length l.store.slots ≡ 40;
}
