use Rattle.std.proofs.Common.{◌≡◌, ◌++◌, ◌∷◌, codes}
use Rattle.cb_gen.specs.Parts.{pair_text}
use Rattle.cb_gen.proofs.Joining.{pairs}
use Rattle.cb_gen.proofs.push_ports.Given as goal

abbrev pub invariant-loop-bit : goal.invariant-loop-bit
invariant-loop-bit l = l.text.items ++ pairs (λ i. 44 ∷ pair_text i (codes ",")) l.bit l.n ≡ l.initial.text.items ++ pairs (λ i. 44 ∷ pair_text i (codes ",")) 0 l.n
