-- Solutions in the algebra are instances of a state.
use Rattle.std.proofs.Common.{◌≡◌, ℕ, ◌<◌, length, refl}
use Rattle.cb_model.specs.Bits.{Bits}
use Rattle.cb_model.specs.Equations.{Table, valued}
use Rattle.cb_model.specs.Values.{Sorts}
use Rattle.cb_elim.specs.Store.{view_of}
use Rattle.cb_elim.proofs.Equations.{most-general}
use Rattle.cb_heap.specs.Reading.{Reading}
use Rattle.cb_heap.proofs.Facts.{one-below}
use Rattle.cb_unify.specs.State.{Seen, Reads, IsState}
use Rattle.cb_unify.specs.Instance.{AreInstances, IsInstance, SolutionsAreInstances, ValuesAreInstances, instance_bits}

pub values-are-instances : ValuesAreInstances
unfolding view_of
values-are-instances t s short table values is reads = record {
  slots = λ x v a. most-general s.store is.store short table (λ b. (reads b).range) x v a;
  cells = λ a g holds unbound r less.
      one-below (instance_bits s short table a) (instance_bits s short table a) s.heap.cells g (values a) holds (reads a).reading.holds
      (λ j i _ n. is.heap.linked.within j i n) r less (is.finite r) (λ j c _ e u. unbound j c e u) (λ j x _ e. refl);
}

pub solutions-are-instances : SolutionsAreInstances
solutions-are-instances t s short x is vals = record {
  table = λ y a. (vals a).0 y;
  values = λ a. (vals a).1;
  are = values-are-instances t s short (λ y a. (vals a).0 y) (λ a. (vals a).1) is (λ a. (vals a).2);
  gives = λ a. (vals a).3;
}
