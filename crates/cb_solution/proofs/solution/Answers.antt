use Rattle.std.proofs.Common.{arith}
use Rattle.cb_dd.specs.Diagram.{function_of}
use Rattle.cb_solution.proofs.Loops.{rests-parts, rests-rest, rests-stages, solution-is, solution-room}
use Rattle.cb_solution.proofs.solution.Goals as goal

pub returns-then-left-ne0-clause-none : goal.returns-then-left-ne0-clause-none
returns-then-left-ne0-clause-none c =
    rests-rest c.args.ops.now c.rests.new.ops c.rests.ensures.grows c.count-count.ensures.diagram c.args.f.0 c.args.levels.now c.in_ok-nodes.nodes.items c.in_ok-nodes.left.0 c.requires.f c.in_ok-nodes.ensures.rests c.if-left-ne0.true

pub images-requires-clause-nodes : goal.images-requires-clause-nodes
images-requires-clause-nodes c = rw c.deref.ensures.value (rests-parts c.rests.new.ops.triples c.args.f.0 c.args.levels.now c.in_ok-nodes.nodes.items c.in_ok-nodes.left.0 c.in_ok-nodes.ensures.rests)

pub images-requires-clause-stages : goal.images-requires-clause-stages
images-requires-clause-stages c = rw c.deref.ensures.value (function_of c.rests.new.ops.triples c.args.f.0, rests-stages c.rests.new.ops.triples c.args.f.0 c.args.levels.now c.in_ok-nodes.nodes.items c.in_ok-nodes.left.0 c.in_ok-nodes.ensures.rests (let w = c.if-left-ne0.false in omega (arith, w)))

pub returns-in_err-images-clause-room : goal.returns-in_err-images-clause-room
returns-in_err-images-clause-room c =
    solution-room c.args.ops.now c.rests.new.ops c.images.new.ops c.rests.ensures.grows c.images.ensures.grows c.args.f.0 c.requires.f c.args.levels.now c.in_ok-nodes.nodes.items c.in_ok-nodes.left.0 c.in_ok-nodes.ensures.rests c.rests.ensures.room (rw c.deref.ensures.value at c.images.ensures.room)

pub returns-clause-solved : goal.returns-clause-solved
returns-clause-solved c =
    solution-is c.args.ops.now c.rests.new.ops c.images.new.ops c.rests.ensures.grows c.images.ensures.grows c.args.f.0 c.requires.f c.args.levels.now c.in_ok-images.images.items
    ((rw c.deref.ensures.value at c.in_ok-images.ensures.solved) (function_of c.rests.new.ops.triples c.args.f.0) (rests-stages c.rests.new.ops.triples c.args.f.0 c.args.levels.now c.in_ok-nodes.nodes.items c.in_ok-nodes.left.0 c.in_ok-nodes.ensures.rests (let w = c.if-left-ne0.false in omega (arith, w))))

pub returns-clause-room : goal.returns-clause-room
returns-clause-room c =
    solution-room c.args.ops.now c.rests.new.ops c.images.new.ops c.rests.ensures.grows c.images.ensures.grows c.args.f.0 c.requires.f c.args.levels.now c.in_ok-nodes.nodes.items c.in_ok-nodes.left.0 c.in_ok-nodes.ensures.rests c.rests.ensures.room (rw c.deref.ensures.value at c.images.ensures.room)
