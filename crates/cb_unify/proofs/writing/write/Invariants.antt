use Rattle.std.proofs.Common.{[]}
use Rattle.std.specs.Prelude.{sum_by}
use Rattle.cb_unify.specs.Trees.{HaveSlots}
use Rattle.cb_unify.specs.Works.{IsUnderWay, work_steps, works, written}
use Rattle.cb_unify.proofs.writing.write.Given as goal

abbrev pub invariant-parts : goal.invariant-parts
invariant-parts l = record {
  way : IsUnderWay l.fn.state l.state l.frame (works l.pending.items) l.cells.items (written (works l.fn.pending.items) []);
  slots : HaveSlots l.state l.frame l.slots.items;
}

abbrev pub decreases-parts : goal.decreases-parts
decreases-parts l = sum_by work_steps (works l.pending.items)
