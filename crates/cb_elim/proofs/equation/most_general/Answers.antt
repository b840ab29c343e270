use Rattle.cb_elim.proofs.General.{none-at, general-images, none-then, some-then}
use Rattle.cb_elim.proofs.Rooms.{sides-first, sides-second}
use Rattle.cb_ops.proofs.Ite.{Grows-same}
use Rattle.cb_elim.proofs.equation.most_general.Goals as goal

pub returns-in_err-equation-clause-room : goal.returns-in_err-equation-clause-room
returns-in_err-equation-clause-room c = sides-first c.args.ops.now c.xor.new.self c.xor.new.self c.xor.ensures.made.grows (Grows-same c.xor.new.self) c.args.f.0 c.args.g.0 0 c.xor.ensures.made.room

pub returns-in_default-clause-room : goal.returns-in_default-clause-room
returns-in_default-clause-room c = sides-first c.args.ops.now c.xor.new.self c.xor.new.self c.xor.ensures.made.grows (Grows-same c.xor.new.self) c.args.f.0 c.args.g.0 0 c.xor.ensures.made.room

pub returns-in_err-found-clause-room : goal.returns-in_err-found-clause-room
returns-in_err-found-clause-room c =
    sides-second c.args.ops.now c.xor.new.self c.solution.new.ops c.xor.ensures.made.grows c.solution.ensures.grows c.args.f.0 c.args.g.0 c.in_ok-equation.equation.0 c.xor.ensures.made.room c.in_ok-equation.ensures.function c.args.constants c.in-Ok.levels.items c.in-Ok.ensures
    (rw c.deref.ensures.value at c.solution.ensures.room)

pub returns-clause-room : goal.returns-clause-room
returns-clause-room c =
    sides-second c.args.ops.now c.xor.new.self c.solution.new.ops c.xor.ensures.made.grows c.solution.ensures.grows c.args.f.0 c.args.g.0 c.in_ok-equation.equation.0 c.xor.ensures.made.room c.in_ok-equation.ensures.function c.args.constants c.in-Ok.levels.items c.in-Ok.ensures
    (rw c.deref.ensures.value at c.solution.ensures.room)

pub returns-clause-found : goal.returns-clause-found
returns-clause-found c = some-then c.in_ok-found.found _ _ (rw c.deref.ensures.value at c.in_ok-found.ensures.solved) (λ images sol.
    general-images c.args.ops.now c.xor.new.self c.solution.new.ops c.xor.ensures.made.grows c.solution.ensures.grows c.args.constants c.args.f.0 c.args.g.0 c.in_ok-equation.equation.0 c.in_ok-equation.ensures.function c.in-Ok.levels.items c.in-Ok.ensures images.items sol)

pub returns-clause-none : goal.returns-clause-none
returns-clause-none c = none-then c.in_ok-found.found _ _ (rw c.deref.ensures.value at c.in_ok-found.ensures.none) (λ left.
    none-at c.args.ops.now c.xor.new.self c.solution.new.ops c.xor.ensures.made.grows c.solution.ensures.grows c.args.constants c.args.f.0 c.args.g.0 c.in_ok-equation.equation.0 c.in_ok-equation.ensures.function c.in-Ok.levels.items c.in-Ok.ensures left)
