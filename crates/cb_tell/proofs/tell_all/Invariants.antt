use Rattle.std.proofs.Common.{◌≡◌, ℕ, ◌+◌, ◌-◌}
use Rattle.cb_solve.specs.Run.{Begins}
use Rattle.cb_tell.specs.Telling.{SoFarTold}
use Rattle.cb_tell.proofs.tell_all.Given as goal

abbrev pub invariant-loop-none : goal.invariant-loop-none
invariant-loop-none g l = record {
  told : (resolutions nodes : ℕ) → Begins l.fn.program l.fn.query resolutions nodes l.fn.engine →
      SoFarTold l.fn.program l.fn.query resolutions nodes (g.O.Sink.written l.fn.out) (g.O.Sink.written l.out) l.engine l.none;
  faults : g.O.Sink.faults l.out ≡ g.O.Sink.faults l.fn.out;
}

abbrev pub decreases-loop-none : goal.decreases-loop-none
decreases-loop-none g l = l.engine.budget + 2 - l.engine.answers
