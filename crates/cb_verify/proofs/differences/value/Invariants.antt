use Rattle.std.proofs.Common.{◌≡◌, ◌-◌, ◌^◌}
use Rattle.cb_model.specs.Bits.{bits_of}
use Rattle.cb_dd.specs.Diagram.{IsNode, function_of, level_of}
use Rattle.cb_verify.proofs.differences.value.Given as goal

abbrev pub invariant-loop-level : goal.invariant-loop-level
invariant-loop-level l = record {
  is_node : IsNode l.ops.triples l.at.0;
  same : function_of l.ops.triples l.at.0 (bits_of l.input) ≡ function_of l.ops.triples l.initial.at.0 (bits_of l.input);
}

abbrev pub decreases-loop-level : goal.decreases-loop-level
decreases-loop-level l = 2 ^ 32 - level_of l.ops.triples l.at.0
