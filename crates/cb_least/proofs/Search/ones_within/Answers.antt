use Rattle.std.proofs.Common.{◌+◌, arith}
use Rattle.cb_least.proofs.Ones.{filled}
use Rattle.cb_least.proofs.Search.ones_within.Goals as goal

pub returns-clause-found : goal.returns-clause-found
returns-clause-found c =
    let s = c.args.self.now in
    let f = c.fill.ensures in
    let within = c.requires.found.bits_so_far.within in
    filled s.ops.now.triples s.order.now c.args.bits.now c.fill.new.bits c.args.next (c.args.next + c.args.width) s.root.0 (omega arith) (omega (arith, within, c.if-width-self.false)) c.fill.auto.bits
    f.inside f.below f.above (c.are_ones.ensures c.if-not-are_ones.false) c.requires.found
