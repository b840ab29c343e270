use Rattle.std.proofs.Common.{◌+◌, ◌<◌, length, get_or, refl, arith}
use Rattle.cb_ops.proofs.Substitute.{grown-nodes}
use Rattle.cb_ops.proofs.Turns.{lower-grown}
use Rattle.cb_solution.proofs.Solved.{listed-at}
use Rattle.cb_elim.proofs.Rooms.{moved-all}
use Rattle.cb_elim.proofs.Moved.{rewrite-few, rewrite-next, rewrite-none, rewrite-others, rewrite-rewritten, rewrite-room, rewrite-values}
use Rattle.cb_elim.proofs.watch.rewrite.Goals as goal

pub loop-slot-init : goal.loop-slot-init
loop-slot-init c = rewrite-none c.args.constants c.args.images.now c.args.at.now c.args.ops.now c.args.slots.now c.args.trail.now c.args.uses.now c.requires.watched

pub rewrite_one-requires-clause-images : goal.rewrite_one-requires-clause-images
rewrite_one-requires-clause-images c = grown-nodes c.args.ops.now c.loop-slot.ops c.loop-slot.invariant.grows c.args.images.now c.requires.images

pub rewrite_one-requires-clause-lower : goal.rewrite_one-requires-clause-lower
rewrite_one-requires-clause-lower c = lower-grown c.args.ops.now c.loop-slot.ops c.loop-slot.invariant.grows c.args.images.now c.requires.images c.requires.lower

pub rewrite_one-requires-clause-slot : goal.rewrite_one-requires-clause-slot
rewrite_one-requires-clause-slot c =
    let less : get_or c.args.at.now c.loop-slot.slot-index 0 < length c.args.slots.now = c.requires.at_below (get_or c.args.at.now c.loop-slot.slot-index 0) (listed-at c.args.at.now c.loop-slot.slot-index c.loop-slot-test.true) in
    let same = c.loop-slot.invariant.number in
    omega arith

pub loop-slot-preserved : goal.loop-slot-preserved
loop-slot-preserved c =
    rewrite-next c.loop-slot.slot-index c.args.constants c.args.images.now c.args.at.now c.args.ops.now c.loop-slot.ops c.rewrite_one.new.ops c.args.slots.now c.loop-slot.slots c.rewrite_one.new.slots c.args.trail.now c.loop-slot.trail c.rewrite_one.new.trail
    c.loop-slot.uses c.rewrite_one.new.uses c.requires.images c.requires.watched.there c.requires.at_rise c.requires.at_below c.loop-slot-test.true (get_or c.args.at.now c.loop-slot.slot-index 0) refl c.loop-slot.invariant c.rewrite_one.ensures.grows
    c.in_ok-rewrite_one.ensures.stepped c.rewrite_one.ensures.watched c.rewrite_one.ensures.room c.in_ok-rewrite_one.ensures.fulls

pub returns-in_err-rewrite_one-clause-room : goal.returns-in_err-rewrite_one-clause-room
returns-in_err-rewrite_one-clause-room c =
    moved-all (c.loop-slot.slot-index + 1) c.args.slots.now c.args.images.now c.args.ops.now c.rewrite_one.new.ops
    (rewrite-few (c.loop-slot.slot-index + 1) c.args.at.now c.args.slots.now c.requires.at_rise c.requires.at_below (let h = c.loop-slot-test.true in omega arith))
    (rewrite-room c.loop-slot.slot-index c.args.constants c.args.images.now c.args.at.now c.args.ops.now c.loop-slot.ops c.rewrite_one.new.ops c.args.slots.now c.loop-slot.slots c.rewrite_one.new.slots c.args.trail.now c.loop-slot.trail c.rewrite_one.new.trail
    c.loop-slot.uses c.rewrite_one.new.uses c.requires.images c.requires.watched.there c.requires.at_rise c.requires.at_below c.loop-slot-test.true (get_or c.args.at.now c.loop-slot.slot-index 0) refl c.loop-slot.invariant c.rewrite_one.ensures.grows
    c.rewrite_one.ensures.room)

pub returns-clause-room : goal.returns-clause-room
returns-clause-room c =
    moved-all c.loop-slot.slot-index c.args.slots.now c.args.images.now c.args.ops.now c.loop-slot.ops
    (rewrite-few c.loop-slot.slot-index c.args.at.now c.args.slots.now c.requires.at_rise c.requires.at_below (omega (arith, c.loop-slot.auto.slot-index-end, c.loop-slot-test.false))) c.loop-slot.invariant.room

pub returns-clause-values : goal.returns-clause-values
returns-clause-values c =
    rewrite-values c.loop-slot.slot-index c.args.constants c.args.images.now c.args.at.now c.args.ops.now c.loop-slot.ops c.args.slots.now c.loop-slot.slots c.args.trail.now c.loop-slot.trail c.loop-slot.uses c.requires.watched.there c.loop-slot.invariant
    (omega (arith, c.loop-slot.auto.slot-index-end, c.loop-slot-test.false))

pub returns-clause-others : goal.returns-clause-others
returns-clause-others c =
    rewrite-others c.loop-slot.slot-index c.args.constants c.args.images.now c.args.at.now c.args.ops.now c.loop-slot.ops c.args.slots.now c.loop-slot.slots c.args.trail.now c.loop-slot.trail c.loop-slot.uses c.requires.watched.there c.loop-slot.invariant
    (omega (arith, c.loop-slot.auto.slot-index-end, c.loop-slot-test.false))

pub returns-clause-rewritten : goal.returns-clause-rewritten
returns-clause-rewritten c =
    rewrite-rewritten c.loop-slot.slot-index c.args.constants c.args.images.now c.args.at.now c.args.ops.now c.loop-slot.ops c.args.slots.now c.loop-slot.slots c.args.trail.now c.loop-slot.trail c.loop-slot.uses c.requires.watched.there c.loop-slot.invariant
