use Rattle.std.proofs.Common.{◌≡◌, ℕ, ◌<◌, Some, None}
use Rattle.std.specs.Prelude.{slice_get}
use Rattle.cb_heap.specs.declared.Change.{Change}
use Rattle.cb_heap.specs.Finite.{IsFinite}
use Rattle.cb_heap.specs.Links.{link_of}
use Rattle.cb_heap.specs.Moments.{changes_since}
use Rattle.cb_join.specs.Cycle.{IsIdle}
use Rattle.cb_join.proofs.cycle.roots_end.Given as goal

abbrev pub invariant-loop-k : goal.invariant-loop-k
invariant-loop-k l = record {
  ends : (j : ℕ) (x : Change) → j < l.k → slice_get (changes_since l.since l.heap) j ≡ Some x → link_of x.old ≡ None → x.cell < l.below → IsFinite l.heap.cells x.cell;
  idle : IsIdle l.heap.cells l.floor l.work;
}
