use Rattle.cb_elim.proofs.General.{none-then, some-then}
use Rattle.cb_elim.proofs.Parting.{differences-there, pairs-general, pairs-no-solution, sides-room-second}
use Rattle.cb_elim.proofs.parts.most_general_of.Goals as goal

pub levels_of-requires : goal.levels_of-requires
levels_of-requires c = rw c.deref.ensures.value (differences-there c.args.ops.now.triples c.differences.new.ops.triples c.args.pairs.now c.in_ok-parts.parts.items c.in_ok-parts.ensures.parts)

pub solution_of_parts-requires-clause-parts : goal.solution_of_parts-requires-clause-parts
solution_of_parts-requires-clause-parts c = rw c.deref-2.ensures.value (differences-there c.args.ops.now.triples c.differences.new.ops.triples c.args.pairs.now c.in_ok-parts.parts.items c.in_ok-parts.ensures.parts)

pub returns-in_err-found-clause-room : goal.returns-in_err-found-clause-room
returns-in_err-found-clause-room c = sides-room-second c.args.ops.now c.differences.new.ops c.differences.ensures.grows c.args.constants c.args.pairs.now c.in_ok-parts.parts.items c.in_ok-parts.ensures.parts c.in-Ok.levels.keys (rw c.deref.ensures.value at c.in-Ok.ensures) c.solution_of_parts.new.ops c.differences.ensures.room (rw c.deref-2.ensures.value at c.solution_of_parts.ensures.room)

pub returns-clause-found : goal.returns-clause-found
returns-clause-found c = some-then c.in_ok-found.found _ _ (rw c.deref-2.ensures.value at c.in_ok-found.ensures.solved) (λ images sol. pairs-general c.args.ops.now c.differences.new.ops c.differences.ensures.grows c.args.constants c.args.pairs.now c.in_ok-parts.parts.items c.in_ok-parts.ensures.parts c.in-Ok.levels.keys (rw c.deref.ensures.value at c.in-Ok.ensures) c.solution_of_parts.new.ops images.items sol)

pub returns-clause-none : goal.returns-clause-none
returns-clause-none c = none-then c.in_ok-found.found _ _ (rw c.deref-2.ensures.value at c.in_ok-found.ensures.none) (λ left. pairs-no-solution c.args.ops.now c.differences.new.ops c.differences.ensures.grows c.args.constants c.args.pairs.now c.in_ok-parts.parts.items c.in_ok-parts.ensures.parts c.in-Ok.levels.keys (rw c.deref.ensures.value at c.in-Ok.ensures) left)

pub returns-clause-room : goal.returns-clause-room
returns-clause-room c = sides-room-second c.args.ops.now c.differences.new.ops c.differences.ensures.grows c.args.constants c.args.pairs.now c.in_ok-parts.parts.items c.in_ok-parts.ensures.parts c.in-Ok.levels.keys (rw c.deref.ensures.value at c.in-Ok.ensures) c.solution_of_parts.new.ops c.differences.ensures.room (rw c.deref-2.ensures.value at c.solution_of_parts.ensures.room)
