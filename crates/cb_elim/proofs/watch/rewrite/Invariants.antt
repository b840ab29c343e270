use Rattle.cb_elim.proofs.Moved.{RewriteSo}
use Rattle.cb_elim.proofs.watch.rewrite.Given as goal

abbrev pub invariant-loop-slot : goal.invariant-loop-slot
invariant-loop-slot l = RewriteSo l.slot-index l.constants l.images l.at l.initial.ops l.ops l.initial.slots l.slots l.initial.trail l.trail l.uses
