use Rattle.std.proofs.Common.{◌∙◌}
use Rattle.cb_join.proofs.Follow.{link-to}
use Rattle.cb_join.proofs.far_link.Goals as goal

pub returns-else-to-end : goal.returns-else-to-end
returns-else-to-end c to e = link-to c.args.heap.now.cells c.args.at c.requires c.link.result c.link.ensures to (c.in-Some.is ∙ e)
