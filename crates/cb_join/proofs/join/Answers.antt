use Rattle.std.proofs.Common.{◌∙◌, ap, sym, Ok}
use Rattle.cb_join.proofs.Joins.{step-on, none-on, none-left, keeps-on, keeps-then}
use Rattle.cb_join.proofs.join.Goals as goal

pub returns-then-not-branch-clause-clashes : goal.returns-then-not-branch-clause-clashes
returns-then-not-branch-clause-clashes c _ =
    none-on c.args.heap.now.sorts c.args.heap.now.cells c.args.owed.now.pending.items c.args.owed.now.leaves.items c.pairs.heap.sorts c.pairs.heap.cells c.pairs.owed.pending.items c.pop.new.self.items c.pairs.owed.leaves.items c.in-Some.l c.in-Some.r
    c.pairs.invariant.sorts c.pairs.invariant.joined c.in-Some.ensures.items (c.in_ok-join_pair.ensures.clashes (ap Ok c.if-not-branch.true))

pub pairs-preserved : goal.pairs-preserved
pairs-preserved c =
    let q = c.in_ok-join_pair.ensures.equated (ap Ok c.if-not-branch.false) in
    record {
      joined = step-on c.args.heap.now.sorts c.args.heap.now.cells c.args.owed.now.pending.items c.args.owed.now.leaves.items c.pairs.heap.sorts c.pairs.heap.cells c.join_pair.new.heap.cells c.pairs.owed.pending.items c.pop.new.self.items c.pairs.owed.leaves.items
          c.join_pair.new.owed.pending.items c.join_pair.new.owed.leaves.items c.in-Some.l c.in-Some.r c.pairs.invariant.sorts c.pairs.invariant.joined c.in-Some.ensures.items q;
      within = q.within;
      keeps = keeps-on c.args.heap.now.sorts c.args.heap.now.cells c.args.owed.now.pending.items c.args.owed.now.leaves.items c.pairs.heap.sorts c.pairs.heap.cells c.join_pair.new.heap.cells c.pairs.owed.leaves.items c.join_pair.new.owed.leaves.items c.pairs.invariant.sorts c.pairs.invariant.keeps q.keeps;
      sorts = c.in_ok-join_pair.ensures.sorts ∙ c.pairs.invariant.sorts;
      moments = keeps-then _ _ _ c.pairs.invariant.moments c.in_ok-join_pair.ensures.moments;
      heap = c.in_ok-join_pair.ensures.heap;
    }

pub returns-clause-joined : goal.returns-clause-joined
returns-clause-joined c _ =
    none-left c.args.heap.now.sorts c.args.heap.now.cells c.pairs.heap.cells c.args.owed.now.pending.items c.args.owed.now.leaves.items c.pairs.owed.pending.items c.pairs.owed.leaves.items c.pairs.invariant.joined (sym c.pairs.owed.pending.ok.0 ∙ c.in_default.ensures.cases.0)
