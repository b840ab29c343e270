use Rattle.std.proofs.Common.{◌≡◌, ◌≢◌, ◌-◌, ◌^◌, min, vec_capacity}
use Rattle.cb_dd.specs.Diagram.{level_of}
use Rattle.cb_paths.specs.Walk.{IsWalk, to_come}
use Rattle.cb_paths.proofs.descend.Given as goal

abbrev pub invariant-loop-level : goal.invariant-loop-level
invariant-loop-level l = record {
  come : to_come l.ops.triples l.fn.literals.items l.fn.others.items l.fn.from.0 ≡ to_come l.ops.triples l.literals.items l.others.items l.n.0;
  walk : IsWalk l.ops.triples (min (vec_capacity l.literals) (vec_capacity l.others)) l.literals.items l.others.items l.n.0;
  some : l.n.0 ≢ 0;
}

abbrev pub decreases-loop-level : goal.decreases-loop-level
decreases-loop-level l = 2 ^ 32 - level_of l.ops.triples l.n.0
