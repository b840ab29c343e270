use Rattle.std.proofs.Common.{ℕ, ◌<◌, get_or, length, take}
use Rattle.cb_model.specs.Bits.{Each}
use Rattle.cb_dd.specs.declared.Node.{Node}
use Rattle.cb_elim.specs.Watch.{UsesNew}
use Rattle.cb_elim.proofs.watch.noted.Given as goal

abbrev pub invariant-loop-slot : goal.invariant-loop-slot
invariant-loop-slot l = (x : ℕ) (d : Node) → x < l.slot → UsesNew l.ops.triples l.constants l.uses 0 (get_or l.slots x d).0 x 0

abbrev pub invariant-loop-k : goal.invariant-loop-k
invariant-loop-k l = record {
  slots : (x : ℕ) (d : Node) → x < length l.slots → UsesNew l.ops.triples l.constants l.uses 0 (get_or l.slots x d).0 x 0;
  changes : Each (λ c. UsesNew l.ops.triples l.constants l.uses 0 c.value.0 c.slot 0) (take l.k l.trail);
}
