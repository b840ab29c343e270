use Rattle.std.proofs.Common.{◌≡◌, ◌+◌, ◌≤◌, ◌++◌, min, take, drop}
use Rattle.cb_model.specs.Circuits.{placed_from, part_of}
use Rattle.cb_model.specs.Facts.{instances_fault}
use Rattle.cb_flat.specs.Flatten.{placed_of}
use Rattle.cb_circ.specs.View.{module_view}
use Rattle.cb_circ.specs.Parts.{AreNamed, all_gates}
use Rattle.cb_circ.proofs.Filling.{firsts_of}
use Rattle.cb_circ.proofs.circuits.Circuits.instances.Given as goal

abbrev pub invariant-loop-at : goal.invariant-loop-at
invariant-loop-at l = record {
  faults : instances_fault l.self.flats (module_view l.raw).instances ≡ instances_fault l.self.flats (drop l.at (module_view l.raw).instances);
  gates : min (l.gates + all_gates l.self.flats (drop l.at (module_view l.raw).instances)) 1000001 ≡ min (all_gates l.self.flats (module_view l.raw).instances) 1000001;
  small : l.gates ≤ 1000001;
  named : AreNamed l.self.flats (take l.at (module_view l.raw).instances) l.parts.items;
  first : l.gates ≤ 1000000 → l.firsts.items ++ firsts_of (placed_from (part_of l.self.flats) l.gates (drop l.at (module_view l.raw).instances)) ≡ firsts_of (placed_of l.self.flats (module_view l.raw));
}
