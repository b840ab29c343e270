use Rattle.std.proofs.Common.{◌-◌}
use Rattle.cb_least.proofs.Ones.{all-ones, le-true}
use Rattle.cb_least.proofs.Search.are_ones.Goals as goal

pub returns : goal.returns
returns c t =
    let s = c.args.self.now in
    all-ones s.ops.now.triples s.order.now c.requires.search.inverse.0 c.requires.search.inverse.1 c.args.bits.now c.args.next c.args.upto s.root.0 c.ones_of_root-count.result c.requires.from c.ones_of_root-count.ensures
    (le-true (c.args.upto - c.args.next) c.ones_of_root-count.result t)
