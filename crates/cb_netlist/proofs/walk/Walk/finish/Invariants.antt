use Rattle.std.proofs.Common.{◌≡◌, ℕ, List}
use Rattle.cb_flat.specs.Walk.{Numbered}
use Rattle.cb_netlist.specs.Walking.{AreGates, IsWalk, all_gates, frames_of, frames_weight}
use Rattle.cb_netlist.proofs.walk.Walk.finish.Given as goal

abbrev pub invariant-loop-frame : goal.invariant-loop-frame
invariant-loop-frame l = record {
  walk : IsWalk l.netlists l.self.inputs l.self.count l.self.gates.items (frames_of l.netlists l.self.frames.items);
  keeps : (gates : ℕ → List Numbered) → AreGates l.netlists gates → all_gates l.netlists gates l.fn.self.inputs l.self.gates.items (frames_of l.netlists l.self.frames.items) ≡ all_gates l.netlists gates l.fn.self.inputs l.fn.self.gates.items (frames_of l.netlists l.fn.self.frames.items);
  inputs : l.self.inputs ≡ l.fn.self.inputs;
}

abbrev pub decreases-loop-frame : goal.decreases-loop-frame
decreases-loop-frame l = frames_weight l.netlists (frames_of l.netlists l.self.frames.items)
