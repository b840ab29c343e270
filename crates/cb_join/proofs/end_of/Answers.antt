use Rattle.std.proofs.Common.{◌∙◌, List, refl, subst}
use Rattle.cb_model.specs.declared.Sort.{Sort}
use Rattle.cb_heap.proofs.Back.{keeps-none}
use Rattle.cb_join.specs.Joins.{IsShortened}
use Rattle.cb_join.proofs.Follow.{link-there}
use Rattle.cb_join.proofs.Joins.{keeps-then}
use Rattle.cb_join.proofs.Ends.{way-on}
use Rattle.cb_join.proofs.Shorten.{end-of, last-end, none-shortened, shortened-then, still-there}
use Rattle.cb_join.proofs.end_of.Goals as goal

pub links-init : goal.links-init
links-init c =
    record {
      there = c.requires.from;
      leads = c.last-end.ensures.leads;
      end = last-end c.args.heap.now.cells c.args.from c.last-end.result.0 c.last-end.ensures;
      shortened = none-shortened c.args.heap.now.sorts c.args.heap.now.cells;
      sorts = refl;
      moments = keeps-none c.args.heap.now;
      heap = c.requires.heap;
    }

pub relink-requires-clause-leads : goal.relink-requires-clause-leads
relink-requires-clause-leads c =
    way-on c.links.heap.cells c.links.at c.last-end.result.0 c.in-Some.to c.links.invariant.leads c.links.invariant.end (c.far_link.ensures c.in-Some.to c.in-Some.is)

pub links-smaller : goal.links-smaller
links-smaller c = c.in_ok-relink.ensures.less

pub links-preserved : goal.links-preserved
links-preserved c =
    let short = subst (λ (x : List Sort). IsShortened x c.links.heap.cells c.relink.new.heap.cells) c.links.invariant.sorts c.in_ok-relink.ensures.shortened in
    record {
      there = still-there c.args.heap.now.sorts c.links.heap.cells c.relink.new.heap.cells c.in-Some.to.0 short (link-there c.links.heap.cells c.links.invariant.heap.linked c.links.at c.in-Some.to (c.far_link.ensures c.in-Some.to c.in-Some.is));
      leads = c.in_ok-relink.ensures.leads;
      end = short.ends c.last-end.result.0 c.links.invariant.end;
      shortened = shortened-then c.args.heap.now.sorts c.args.heap.now.cells c.links.heap.cells c.relink.new.heap.cells c.links.invariant.shortened short;
      sorts = c.in_ok-relink.ensures.sorts ∙ c.links.invariant.sorts;
      moments = keeps-then _ _ _ c.links.invariant.moments c.in_ok-relink.ensures.moments;
      heap = c.in_ok-relink.ensures.heap;
    }

pub returns-clause-end : goal.returns-clause-end
returns-clause-end c = end-of c.args.heap.now.sorts c.args.heap.now.cells c.links.heap.cells c.args.from c.last-end.result.0 c.last-end.ensures c.links.invariant.shortened
