use Rattle.std.proofs.Common.{◌≡◌, ◌++◌}
use Rattle.cb_model.specs.Adder.{carry_text, sum_text, exprs_text}
use Rattle.cb_gen.proofs.Joining.{left}
use Rattle.cb_gen.proofs.push_exprs.Given as goal

abbrev pub invariant-loop-bit : goal.invariant-loop-bit
invariant-loop-bit l =
    (l.carry.items ≡ carry_text l.bit) × (l.text.items ++ left sum_text (carry_text l.n) l.bit l.n ≡ l.initial.text.items ++ exprs_text l.n)
