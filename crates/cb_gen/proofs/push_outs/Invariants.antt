use Rattle.std.proofs.Common.{◌≡◌, ◌++◌, codes}
use Rattle.cb_model.specs.Adder.{named, outs_text}
use Rattle.cb_gen.proofs.Joining.{left}
use Rattle.cb_gen.proofs.push_outs.Given as goal

abbrev pub invariant-loop-bit : goal.invariant-loop-bit
invariant-loop-bit l = l.text.items ++ left (named (codes "S")) (named (codes "C") l.n) l.bit l.n ≡ l.initial.text.items ++ outs_text l.n
