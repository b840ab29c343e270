use Rattle.std.proofs.Common.{ap, Ok}
use Rattle.cb_join.proofs.Follow.{more-idle, way-finite}
use Rattle.cb_join.proofs.cycle.from_root.Goals as goal

pub mark_links-requires-clause-finite : goal.mark_links-requires-clause-finite
mark_links-requires-clause-finite c =
    way-finite c.args.heap.now.cells c.args.root.0 c.follow-end.result c.follow-end.ensures.leads (c.in_ok-end_ends.ensures.finite (ap Ok c.if-not-branch.false))

pub returns-clause-finite : goal.returns-clause-finite
returns-clause-finite c _ =
    way-finite c.args.heap.now.cells c.args.root.0 c.follow-end.result c.follow-end.ensures.leads (c.in_ok-end_ends.ensures.finite (ap Ok c.if-not-branch.false))

pub returns-clause-idle : goal.returns-clause-idle
returns-clause-idle c _ =
    more-idle c.args.heap.now.cells c.args.floor c.end_ends.new.work c.mark_links.new.work (c.in_ok-end_ends.ensures.idle (ap Ok c.if-not-branch.false)) c.in_ok-mark_links.ensures.done c.in_ok-mark_links.ensures.number c.in_ok-mark_links.ensures.noted c.in_ok-mark_links.ensures.way
