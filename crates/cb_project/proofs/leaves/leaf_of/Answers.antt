use Rattle.std.proofs.Common.{◌≡◌, ◌+◌, ◌-◌, arith, subst}
use Rattle.std.proofs.Common.{◌<◌}
use Rattle.cb_dd.specs.Diagram.{function_of}
use Rattle.cb_boole.specs.Elimination.{DependsOnly}
use Rattle.cb_ops.proofs.Ite.{Grows-same, Grows-then, grown-node}
use Rattle.cb_project.proofs.Steps.{leaf-room-one, leaf-room-two, leaf-room, leaf-solvable, leaf-is, pick-room-at, pick-at, solution-room-at, solution-at, rest-at}
use Rattle.cb_project.proofs.leaves.leaf_of.Goals as goal

pub xor-requires-clause-f : goal.xor-requires-clause-f
xor-requires-clause-f c = grown-node c.args.ops.now c.pick.new.ops c.pick.ensures.grows c.args.f.0 c.requires.node

pub returns-in_err-misses-clause-grows : goal.returns-in_err-misses-clause-grows
returns-in_err-misses-clause-grows c = Grows-then c.args.ops.now c.pick.new.ops c.xor.new.self c.pick.ensures.grows c.xor.ensures.made.grows

pub returns-in_err-found-clause-grows : goal.returns-in_err-found-clause-grows
returns-in_err-found-clause-grows c = Grows-then c.args.ops.now c.xor.new.self c.solution.new.ops (Grows-then c.args.ops.now c.pick.new.ops c.xor.new.self c.pick.ensures.grows c.xor.ensures.made.grows) c.solution.ensures.grows

pub returns-clause-grows : goal.returns-clause-grows
returns-clause-grows c = Grows-then c.args.ops.now c.xor.new.self c.solution.new.ops (Grows-then c.args.ops.now c.pick.new.ops c.xor.new.self c.pick.ensures.grows c.xor.ensures.made.grows) c.solution.ensures.grows

pub returns-in_err-node-clause-room : goal.returns-in_err-node-clause-room
returns-in_err-node-clause-room c =
    let e : c.args.parameter ≡ c.args.first + (c.args.parameter - c.args.first) = omega (arith, c.requires.first) in
    let below : DependsOnly (λ k. k < c.args.first + (c.args.parameter - c.args.first)) (function_of c.args.ops.now.triples c.args.f.0) = subst (λ j. DependsOnly (λ k. k < j) (function_of c.args.ops.now.triples c.args.f.0)) e c.requires.below in
    leaf-room-one c.args.ops.now c.pick.new.ops c.pick.new.ops c.pick.new.ops c.pick.ensures.grows (Grows-same c.pick.new.ops) (Grows-same c.pick.new.ops) c.args.f.0 c.args.constants c.args.first (c.args.parameter - c.args.first) c.args.parameter (omega (arith, c.requires.first)) c.in-Ok.levels.items c.requires.node c.in-Ok.ensures.inner c.in-Ok.ensures.fall below (pick-room-at c.args.f.0 c.args.parameter _ c.in-Ok.levels.items c.args.ops.now c.pick.new.ops c.deref.ensures.value c.pick.ensures.room)

pub returns-in_err-misses-clause-room : goal.returns-in_err-misses-clause-room
returns-in_err-misses-clause-room c =
    let e : c.args.parameter ≡ c.args.first + (c.args.parameter - c.args.first) = omega (arith, c.requires.first) in
    let below : DependsOnly (λ k. k < c.args.first + (c.args.parameter - c.args.first)) (function_of c.args.ops.now.triples c.args.f.0) = subst (λ j. DependsOnly (λ k. k < j) (function_of c.args.ops.now.triples c.args.f.0)) e c.requires.below in
    leaf-room-two c.args.ops.now c.pick.new.ops c.xor.new.self c.xor.new.self c.pick.ensures.grows c.xor.ensures.made.grows (Grows-same c.xor.new.self) c.args.f.0 c.args.constants c.args.first (c.args.parameter - c.args.first) c.args.parameter (omega (arith, c.requires.first)) c.in-Ok.levels.items c.requires.node c.in-Ok.ensures.inner c.in-Ok.ensures.fall below c.in_ok-node.node.0 c.in_ok-node.ensures.is_node (pick-at c.pick.new.ops.triples c.in_ok-node.node.0 _ c.in-Ok.levels.items c.args.parameter _ c.deref.ensures.value c.in_ok-node.ensures.function) (pick-room-at c.args.f.0 c.args.parameter _ c.in-Ok.levels.items c.args.ops.now c.pick.new.ops c.deref.ensures.value c.pick.ensures.room) c.xor.ensures.made.room

pub returns-in_err-found-clause-room : goal.returns-in_err-found-clause-room
returns-in_err-found-clause-room c =
    let e : c.args.parameter ≡ c.args.first + (c.args.parameter - c.args.first) = omega (arith, c.requires.first) in
    let below : DependsOnly (λ k. k < c.args.first + (c.args.parameter - c.args.first)) (function_of c.args.ops.now.triples c.args.f.0) = subst (λ j. DependsOnly (λ k. k < j) (function_of c.args.ops.now.triples c.args.f.0)) e c.requires.below in
    leaf-room c.args.ops.now c.pick.new.ops c.xor.new.self c.solution.new.ops c.pick.ensures.grows c.xor.ensures.made.grows c.solution.ensures.grows c.args.f.0 c.args.constants c.args.first (c.args.parameter - c.args.first) c.args.parameter (omega (arith, c.requires.first)) c.in-Ok.levels.items c.requires.node c.in-Ok.ensures.inner c.in-Ok.ensures.fall below c.in_ok-node.node.0 c.in_ok-node.ensures.is_node (pick-at c.pick.new.ops.triples c.in_ok-node.node.0 _ c.in-Ok.levels.items c.args.parameter _ c.deref.ensures.value c.in_ok-node.ensures.function) c.in_ok-misses.misses.0 c.in_ok-misses.ensures.function (pick-room-at c.args.f.0 c.args.parameter _ c.in-Ok.levels.items c.args.ops.now c.pick.new.ops c.deref.ensures.value c.pick.ensures.room) c.xor.ensures.made.room (solution-room-at c.in_ok-misses.misses.0 _ c.in-Ok.levels.items c.xor.new.self c.solution.new.ops c.deref-2.ensures.value c.solution.ensures.room)

pub returns-clause-room : goal.returns-clause-room
returns-clause-room c =
    let e : c.args.parameter ≡ c.args.first + (c.args.parameter - c.args.first) = omega (arith, c.requires.first) in
    let below : DependsOnly (λ k. k < c.args.first + (c.args.parameter - c.args.first)) (function_of c.args.ops.now.triples c.args.f.0) = subst (λ j. DependsOnly (λ k. k < j) (function_of c.args.ops.now.triples c.args.f.0)) e c.requires.below in
    leaf-room c.args.ops.now c.pick.new.ops c.xor.new.self c.solution.new.ops c.pick.ensures.grows c.xor.ensures.made.grows c.solution.ensures.grows c.args.f.0 c.args.constants c.args.first (c.args.parameter - c.args.first) c.args.parameter (omega (arith, c.requires.first)) c.in-Ok.levels.items c.requires.node c.in-Ok.ensures.inner c.in-Ok.ensures.fall below c.in_ok-node.node.0 c.in_ok-node.ensures.is_node (pick-at c.pick.new.ops.triples c.in_ok-node.node.0 _ c.in-Ok.levels.items c.args.parameter _ c.deref.ensures.value c.in_ok-node.ensures.function) c.in_ok-misses.misses.0 c.in_ok-misses.ensures.function (pick-room-at c.args.f.0 c.args.parameter _ c.in-Ok.levels.items c.args.ops.now c.pick.new.ops c.deref.ensures.value c.pick.ensures.room) c.xor.ensures.made.room (solution-room-at c.in_ok-misses.misses.0 _ c.in-Ok.levels.items c.xor.new.self c.solution.new.ops c.deref-2.ensures.value c.solution.ensures.room)

pub unreachable-requires : goal.unreachable-requires
unreachable-requires c =
    let e : c.args.parameter ≡ c.args.first + (c.args.parameter - c.args.first) = omega (arith, c.requires.first) in
    let below : DependsOnly (λ k. k < c.args.first + (c.args.parameter - c.args.first)) (function_of c.args.ops.now.triples c.args.f.0) = subst (λ j. DependsOnly (λ k. k < j) (function_of c.args.ops.now.triples c.args.f.0)) e c.requires.below in
    let none = rw c.in-None.is at c.in_ok-found.ensures.none in leaf-solvable c.args.ops.now c.pick.new.ops c.xor.new.self c.solution.new.ops c.pick.ensures.grows c.xor.ensures.made.grows c.solution.ensures.grows c.args.f.0 c.args.constants c.args.first (c.args.parameter - c.args.first) c.args.parameter (omega (arith, c.requires.first)) c.in-Ok.levels.items c.requires.node c.in-Ok.ensures.inner c.in-Ok.ensures.fall below c.in_ok-node.node.0 c.in_ok-node.ensures.is_node (pick-at c.pick.new.ops.triples c.in_ok-node.node.0 _ c.in-Ok.levels.items c.args.parameter _ c.deref.ensures.value c.in_ok-node.ensures.function) c.in_ok-misses.misses.0 c.in_ok-misses.ensures.function (rest-at c.xor.new.self.triples c.in_ok-misses.misses.0 _ c.in-Ok.levels.items c.deref-2.ensures.value none)

pub returns-clause-leaf : goal.returns-clause-leaf
returns-clause-leaf c =
    let e : c.args.parameter ≡ c.args.first + (c.args.parameter - c.args.first) = omega (arith, c.requires.first) in
    let below : DependsOnly (λ k. k < c.args.first + (c.args.parameter - c.args.first)) (function_of c.args.ops.now.triples c.args.f.0) = subst (λ j. DependsOnly (λ k. k < j) (function_of c.args.ops.now.triples c.args.f.0)) e c.requires.below in
    let some = rw c.in-Some.is at c.in_ok-found.ensures.solved in leaf-is c.args.ops.now c.pick.new.ops c.xor.new.self c.solution.new.ops c.pick.ensures.grows c.xor.ensures.made.grows c.solution.ensures.grows c.args.f.0 c.args.constants c.args.first (c.args.parameter - c.args.first) c.args.parameter (omega (arith, c.requires.first)) c.in-Ok.levels.items c.requires.node c.in-Ok.ensures.inner c.in-Ok.ensures.fall below c.in_ok-node.node.0 c.in_ok-node.ensures.is_node (pick-at c.pick.new.ops.triples c.in_ok-node.node.0 _ c.in-Ok.levels.items c.args.parameter _ c.deref.ensures.value c.in_ok-node.ensures.function) c.in_ok-misses.misses.0 c.in_ok-misses.ensures.function c.in-Some.images.items (solution-at c.xor.new.self.triples c.solution.new.ops.triples c.in_ok-misses.misses.0 _ c.in-Ok.levels.items c.in-Some.images.items c.deref-2.ensures.value some)
