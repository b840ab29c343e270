use Rattle.std.proofs.Common.{◌≡◌, take}
use Rattle.cb_model.specs.Bits.{bits_of}
use Rattle.cb_verify.specs.Nodes.{node_bits}
use Rattle.cb_verify.proofs.differences.first_difference.Given as goal

abbrev pub invariant-loop-i : goal.invariant-loop-i
invariant-loop-i l = take l.i (node_bits l.ops.triples l.got (bits_of l.input)) ≡ take l.i (node_bits l.ops.triples l.wanted (bits_of l.input))
