use Rattle.cb_elim.proofs.Laws.{range-grows, solved-is-solvable, none-is-refuted}
use Rattle.cb_elim.proofs.range_is_of_the_equations.Goals as goal

pub returns : goal.returns
returns c = record { grows = range-grows; solvable = solved-is-solvable; refuted = none-is-refuted }
