use Rattle.std.proofs.Common.{◌≡◌, take}
use Rattle.cb_unify.specs.Solve.{cells_of}
use Rattle.cb_unify.proofs.solve.owed_of.Given as goal

abbrev pub invariant-loop-l : goal.invariant-loop-l
invariant-loop-l l = l.pending.items ≡ cells_of (take l.l-index l.pairs)
