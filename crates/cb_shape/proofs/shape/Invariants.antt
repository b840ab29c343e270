use Rattle.std.proofs.Common.{◌+◌, ◌-◌, ◌*◌, ◌≤◌, length}
use Rattle.cb_laws.proofs.OpenTrees.{Plains}
use Rattle.cb_shape.specs.Terms.{AreRoots}
use Rattle.cb_shape.proofs.Resting.{IsWalking}
use Rattle.cb_shape.proofs.shape.Given as goal

abbrev pub invariant-steps : goal.invariant-steps
invariant-steps l = record {
  walks : (ps : Plains) → AreRoots l.fn.heap.cells l.fn.roots ps → IsWalking l.fn.heap.cells l.fn.roots ps l.walk l.pending.items;
  few : l.walk.places ≤ 65536;
  short : length l.walk.slots.items ≤ 4096;
}

abbrev pub decreases-steps : goal.decreases-steps
decreases-steps l = 4 * (65537 - l.walk.places) + length l.pending.items
