use Rattle.std.proofs.Common.{arith, ap, length}
use Rattle.cb_lists.proofs.Parts.{slices-long}
use Rattle.cb_lists.proofs.Lists.len.Goals as goal

pub returns : goal.returns
returns c =
    let long = slices-long c.self.inside.items.items 0 c.self.inside.ends.items in
    let view = ap length c.self.view_is in
    omega (arith, long, view, c.len.ensures, c.self.inside.ends.ok)
