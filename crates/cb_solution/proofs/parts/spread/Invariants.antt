use Rattle.cb_solution.proofs.Eliminated.{SpreadSo}
use Rattle.cb_solution.proofs.parts.spread.Given as goal

abbrev pub invariant-loop-part : goal.invariant-loop-part
invariant-loop-part l = SpreadSo l.part-index l.levels.keys l.parts l.initial.ops l.ops l.nodes.items
