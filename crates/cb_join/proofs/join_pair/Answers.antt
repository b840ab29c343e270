use Rattle.std.proofs.Common.{◌∙◌}
use Rattle.cb_join.proofs.Shorten.{both-there, clash-both, ends-both, made-one, skip, still-there, within-both}
use Rattle.cb_join.proofs.join_pair.Goals as goal

pub end_of-requires-2-clause-from : goal.end_of-requires-2-clause-from
end_of-requires-2-clause-from c =
    still-there c.args.heap.now.sorts c.args.heap.now.cells c.end_of.new.heap.cells c.args.r c.in_ok-l.ensures.shortened c.requires.there.1

pub returns-then-l-r-clause-equated : goal.returns-then-l-r-clause-equated
returns-then-l-r-clause-equated c _ =
    skip c.args.heap.now.sorts c.end_of.new.heap.sorts c.in_ok-l.ensures.sorts c.args.heap.now.cells c.end_of.new.heap.cells c.end_of-2.new.heap.cells c.args.l c.args.r c.in_ok-l.l c.in_ok-r.r c.in_ok-l.ensures.end c.in_ok-l.ensures.shortened c.in_ok-r.ensures.end c.in_ok-r.ensures.shortened c.args.owed.now.pending.items c.args.owed.now.leaves.items c.in_ok-r.ensures.heap.linked c.requires.within c.if-l-r.true

pub equate-requires-clause-within : goal.equate-requires-clause-within
equate-requires-clause-within c = within-both c.args.heap.now.sorts c.end_of.new.heap.sorts c.in_ok-l.ensures.sorts c.args.heap.now.cells c.end_of.new.heap.cells c.end_of-2.new.heap.cells c.args.l c.args.r c.in_ok-l.l c.in_ok-r.r c.in_ok-l.ensures.end c.in_ok-l.ensures.shortened c.in_ok-r.ensures.end c.in_ok-r.ensures.shortened c.args.owed.now.pending.items c.requires.within

pub equate-requires-clause-there : goal.equate-requires-clause-there
equate-requires-clause-there c = both-there c.args.heap.now.sorts c.end_of.new.heap.sorts c.in_ok-l.ensures.sorts c.args.heap.now.cells c.end_of.new.heap.cells c.end_of-2.new.heap.cells c.args.l c.args.r c.in_ok-l.l c.in_ok-r.r c.in_ok-l.ensures.end c.in_ok-l.ensures.shortened c.in_ok-r.ensures.end c.in_ok-r.ensures.shortened c.ordered-l.result c.ordered-l.ensures.same

pub equate-requires-clause-ends : goal.equate-requires-clause-ends
equate-requires-clause-ends c = ends-both c.args.heap.now.sorts c.end_of.new.heap.sorts c.in_ok-l.ensures.sorts c.args.heap.now.cells c.end_of.new.heap.cells c.end_of-2.new.heap.cells c.args.l c.args.r c.in_ok-l.l c.in_ok-r.r c.in_ok-l.ensures.end c.in_ok-l.ensures.shortened c.in_ok-r.ensures.end c.in_ok-r.ensures.shortened c.ordered-l.result c.ordered-l.ensures.same

pub returns-clause-equated : goal.returns-clause-equated
returns-clause-equated c h =
    made-one c.args.heap.now.sorts c.end_of.new.heap.sorts c.in_ok-l.ensures.sorts c.args.heap.now.cells c.end_of.new.heap.cells c.end_of-2.new.heap.cells c.args.l c.args.r c.in_ok-l.l c.in_ok-r.r c.in_ok-l.ensures.end c.in_ok-l.ensures.shortened c.in_ok-r.ensures.end c.in_ok-r.ensures.shortened c.ordered-l.result c.ordered-l.ensures.same c.args.owed.now.pending.items c.args.owed.now.leaves.items c.end_of-2.new.heap.sorts (c.in_ok-r.ensures.sorts ∙ c.in_ok-l.ensures.sorts)
    c.equate.new.heap.cells c.equate.new.owed.pending.items c.equate.new.owed.leaves.items (c.equate.ensures.equated h)

pub returns-clause-clashes : goal.returns-clause-clashes
returns-clause-clashes c h =
    clash-both c.args.heap.now.sorts c.end_of.new.heap.sorts c.in_ok-l.ensures.sorts c.args.heap.now.cells c.end_of.new.heap.cells c.end_of-2.new.heap.cells c.args.l c.args.r c.in_ok-l.l c.in_ok-r.r c.in_ok-l.ensures.end c.in_ok-l.ensures.shortened c.in_ok-r.ensures.end c.in_ok-r.ensures.shortened c.ordered-l.result c.ordered-l.ensures.same c.end_of-2.new.heap.sorts (c.in_ok-r.ensures.sorts ∙ c.in_ok-l.ensures.sorts) (c.equate.ensures.clashes h)
