use Rattle.std.proofs.Common.{◌<◌, ◌^◌, length, arith}
use Rattle.cb_heap.proofs.Search.{meets-children, named-small}
use Rattle.cb_heap.proofs.Heap.meet.Goals as goal

pub meet-requires-clause-small : goal.meet-requires-clause-small
meet-requires-clause-small c =
    let small : length c.args.self.now.cells < 2 ^ 63 = let n = c.len-count.ensures.number in let m = c.len-count.ensures.small in omega (arith, n, m) in
    named-small c.args.self.now.cells c.requires.heap.linked c.args.r.0 c.stored.result c.stored.ensures small

pub returns : goal.returns
returns c = record { meets = meets-children c.args.self.now.cells c.requires.heap.linked c.args.r.0 c.stored.result c.stored.ensures c.args.met.now.keys c.meet.new.met.keys c.in_ok-meet.ensures.meets }
