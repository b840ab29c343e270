use Rattle.cb_elim.proofs.Parting.{LevelsSo}
use Rattle.cb_elim.proofs.parts.levels_of.Given as goal

abbrev pub invariant-loop-part : goal.invariant-loop-part
invariant-loop-part l = LevelsSo l.constants l.ops.triples l.parts l.part-index l.levels.keys
