use Rattle.std.proofs.Common.{Bool, Ok, ap, arith}
use Rattle.cb_solution.proofs.Eliminated.{elim-end, elim-first, elim-half, elim-next, elim-none, elim-stop, places-grown}
use Rattle.cb_solution.proofs.parts.eliminate.Goals as goal

pub loop-k-init : goal.loop-k-init
loop-k-init c = elim-first c.args.levels.now.keys c.args.nodes.now c.args.ops.now c.requires.places

pub returns-in_err-left-clause-room : goal.returns-in_err-left-clause-room
returns-in_err-left-clause-room c = elim-half c.loop-k.k c.args.levels.now.keys c.args.nodes.now c.args.ops.now c.loop-k.ops c.both_sides.new.ops c.loop-k.nodes c.loop-k.invariant (let t = c.loop-k-test.true in let n = c.loop-k.invariant.places.number in let m = c.requires.places.number in omega (arith, t, n, m)) (record { 0 = 0 }) c.both_sides.ensures.grows c.both_sides.ensures.room

pub add-requires-clause-places : goal.add-requires-clause-places
add-requires-clause-places c = places-grown c.loop-k.ops c.both_sides.new.ops c.both_sides.ensures.grows c.args.levels.now.keys c.loop-k.nodes c.loop-k.invariant.places

pub returns-in_err-add-clause-room : goal.returns-in_err-add-clause-room
returns-in_err-add-clause-room c =
    elim-stop c.loop-k.k c.args.levels.now.keys c.args.nodes.now c.args.ops.now c.loop-k.ops c.both_sides.new.ops c.loop-k.nodes c.loop-k.invariant (let t = c.loop-k-test.true in let n = c.loop-k.invariant.places.number in let m = c.requires.places.number in omega (arith, t, n, m)) (record { 0 = 0 }) c.both_sides.ensures.grows c.both_sides.ensures.room
    c.in_ok-left.left.0 c.in_ok-left.ensures.is_node (rw c.as_slice.ensures.keys at c.in_ok-left.ensures.function) c.add.new.ops c.add.ensures.grows c.add.ensures.room

pub returns-then-not-branch-clause-none : goal.returns-then-not-branch-clause-none
returns-then-not-branch-clause-none c = λ no.
    elim-none c.loop-k.k c.args.levels.now.keys c.args.nodes.now c.args.ops.now c.loop-k.ops c.both_sides.new.ops c.loop-k.nodes c.loop-k.invariant (let t = c.loop-k-test.true in let n = c.loop-k.invariant.places.number in let m = c.requires.places.number in omega (arith, t, n, m)) (record { 0 = 0 }) c.both_sides.ensures.grows c.both_sides.ensures.room
    c.in_ok-left.left.0 c.in_ok-left.ensures.is_node (rw c.as_slice.ensures.keys at c.in_ok-left.ensures.function) (c.in_ok-add.ensures.out (ap (λ (b : Bool). Ok b) c.if-not-branch.true))

pub returns-then-not-branch-clause-room : goal.returns-then-not-branch-clause-room
returns-then-not-branch-clause-room c =
    elim-stop c.loop-k.k c.args.levels.now.keys c.args.nodes.now c.args.ops.now c.loop-k.ops c.both_sides.new.ops c.loop-k.nodes c.loop-k.invariant (let t = c.loop-k-test.true in let n = c.loop-k.invariant.places.number in let m = c.requires.places.number in omega (arith, t, n, m)) (record { 0 = 0 }) c.both_sides.ensures.grows c.both_sides.ensures.room
    c.in_ok-left.left.0 c.in_ok-left.ensures.is_node (rw c.as_slice.ensures.keys at c.in_ok-left.ensures.function) c.add.new.ops c.add.ensures.grows c.add.ensures.room

pub loop-k-preserved : goal.loop-k-preserved
loop-k-preserved c =
    elim-next c.loop-k.k c.args.levels.now.keys c.args.nodes.now c.args.ops.now c.loop-k.ops c.both_sides.new.ops c.loop-k.nodes c.loop-k.invariant (let t = c.loop-k-test.true in let n = c.loop-k.invariant.places.number in let m = c.requires.places.number in omega (arith, t, n, m)) (record { 0 = 0 }) c.both_sides.ensures.grows c.both_sides.ensures.room
    c.in_ok-left.left.0 c.in_ok-left.ensures.is_node (rw c.as_slice.ensures.keys at c.in_ok-left.ensures.function) c.add.new.ops c.add.ensures.grows c.add.ensures.room c.add.new.nodes (c.in_ok-add.ensures.placed (ap (λ (b : Bool). Ok b) c.if-not-branch.false))
    (let a = c.in_ok-add.ensures.fulls in let b = c.in_ok-left.ensures.fulls in omega (arith, a, b))

pub returns-clause-eliminated : goal.returns-clause-eliminated
returns-clause-eliminated c = λ yes.
    elim-end c.loop-k.k c.args.levels.now.keys c.args.nodes.now c.args.ops.now c.loop-k.ops c.loop-k.nodes c.loop-k.invariant (let t = c.loop-k-test.false in let n = c.loop-k.invariant.places.number in let m = c.requires.places.number in omega (arith, t, n, m, c.loop-k.auto.k-end))
