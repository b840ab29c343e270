use Rattle.cb_project.specs.Renaming.{AreNamed}
use Rattle.cb_project.proofs.renaming.renaming.Given as goal

abbrev pub invariant-loop-i : goal.invariant-loop-i
invariant-loop-i l = AreNamed l.store l.first l.leaves l.i l.next l.names.entries
