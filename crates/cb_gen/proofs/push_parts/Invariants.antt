use Rattle.std.proofs.Common.{◌≡◌, ◌++◌, ◌-◌}
use Rattle.cb_model.specs.Adder.{part_text}
use Rattle.cb_gen.specs.Parts.{parts_text}
use Rattle.cb_gen.proofs.Joining.{left}
use Rattle.cb_gen.proofs.push_parts.Given as goal

abbrev pub invariant-loop-bit : goal.invariant-loop-bit
invariant-loop-bit l = l.text.items ++ left part_text (part_text (l.n - 1)) l.bit (l.n - 1) ≡ l.initial.text.items ++ parts_text l.n
