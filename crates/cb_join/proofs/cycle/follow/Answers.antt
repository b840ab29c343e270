use Rattle.cb_heap.specs.Links.{arrives}
use Rattle.cb_join.proofs.Follow.{leads-further, link-falls, link-there}
use Rattle.cb_join.proofs.cycle.follow.Goals as goal

pub links-init : goal.links-init
links-init c = record { there = c.requires.from; leads = arrives }

pub links-smaller : goal.links-smaller
links-smaller c =
    link-falls c.args.heap.now.cells c.requires.heap.linked c.links.at c.in-Some.to (c.open_link.ensures.link c.in-Some.to c.in-Some.is)

pub links-preserved : goal.links-preserved
links-preserved c =
    let link = c.open_link.ensures.link c.in-Some.to c.in-Some.is in
    record {
      there = link-there c.args.heap.now.cells c.requires.heap.linked c.links.at c.in-Some.to link;
      leads = leads-further c.args.heap.now.cells c.requires.heap.linked c.links.at c.in-Some.to link c.args.from c.links.invariant.leads;
    }
