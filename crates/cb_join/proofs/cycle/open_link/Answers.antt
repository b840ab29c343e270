use Rattle.cb_join.proofs.Follow.{link-end, link-to}
use Rattle.cb_join.proofs.cycle.open_link.Goals as goal

pub returns-in_default-clause-link : goal.returns-in_default-clause-link
returns-in_default-clause-link c = link-to c.args.heap.now.cells c.args.at c.requires.there c.link.result c.link.ensures

pub returns-in_default-clause-stops : goal.returns-in_default-clause-stops
returns-in_default-clause-stops c = link-end c.args.heap.now.cells c.args.marks.now c.args.floor c.args.at c.requires.there c.link.result c.link.ensures
