use Rattle.std.proofs.Common.{◌≡◌, drop, length}
use Rattle.cb_circ.specs.Owners.{owned_from, owned_all}
use Rattle.cb_circ.proofs.owners.owners.Given as goal

abbrev pub invariant-loop-instance : goal.invariant-loop-instance
invariant-loop-instance l = record {
  long : length l.owners.items ≡ length l.raw.nets;
  so : owned_from l.owners.items l.instance (drop l.instance l.raw.outs) ≡ owned_all (length l.raw.nets) l.raw.outs;
}
