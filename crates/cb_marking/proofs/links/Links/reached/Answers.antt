use Rattle.std.proofs.Common.{refl}
use Rattle.cb_marking.proofs.Reach.{starts_within, Reaching-begin, popped_within, row_within, Reaching-next, Reaching-end}
use Rattle.cb_marking.proofs.links.Links.reached.Goals as goal

pub visit_all-requires : goal.visit_all-requires
visit_all-requires c =
    starts_within c.args.self.now c.args.sort _ c.requires.within c.in_ok-starts.starts c.as_slice.result.now c.in_ok-seen.seen c.in_ok-starts.ensures c.as_slice.ensures c.in_ok-seen.ensures

pub loop-thing-init : goal.loop-thing-init
loop-thing-init c =
    Reaching-begin c.args.self.now c.args.sort _ c.in_ok-starts.starts c.as_slice.result.now c.in_ok-seen.seen c.new-waiting.result c.visit_all.new.seen c.visit_all.new.waiting c.in_ok-starts.ensures c.as_slice.ensures
    c.in_ok-seen.ensures c.new-waiting.ensures c.in_ok-visit_all.ensures

pub row-requires : goal.row-requires
row-requires c =
    popped_within c.args.self.now c.args.sort _ c.args.table.now refl c.requires.table c.loop-thing.seen c.loop-thing.waiting c.pop.new.self c.in-Some.thing c.loop-thing.invariant c.in-Some.ensures

pub visit_all-requires-in-Some : goal.visit_all-requires-in-Some
visit_all-requires-in-Some c =
    row_within c.args.self.now c.args.sort _ c.args.table.now refl c.requires.table c.loop-thing.seen c.loop-thing.waiting c.pop.new.self c.in-Some.thing c.loop-thing.invariant c.in-Some.ensures c.row.result.now
    c.row.ensures c.requires.within

pub loop-thing-preserved : goal.loop-thing-preserved
loop-thing-preserved c =
    Reaching-next c.args.self.now c.args.sort _ c.args.table.now refl c.requires.table c.loop-thing.seen c.loop-thing.waiting c.pop.new.self c.in-Some.thing c.loop-thing.invariant c.in-Some.ensures c.row.result.now
    c.row.ensures c.visit_all-in-Some.new.seen c.visit_all-in-Some.new.waiting c.in_ok-visit_all-2.ensures

pub returns : goal.returns
returns c = Reaching-end c.args.self.now c.args.sort _ c.loop-thing.seen c.loop-thing.waiting c.in_default.ensures.0 c.loop-thing.invariant
