use Rattle.cb_elim.proofs.Parting.{DifferencesSo}
use Rattle.cb_elim.proofs.parts.differences.Given as goal

abbrev pub invariant-loop-f : goal.invariant-loop-f
invariant-loop-f l = DifferencesSo l.f-index l.pairs l.initial.ops l.ops l.parts.items
