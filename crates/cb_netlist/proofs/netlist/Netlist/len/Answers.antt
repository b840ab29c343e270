use Rattle.std.proofs.Common.{arith, ap, length}
use Rattle.cb_netlist.proofs.Parts.{filled-long}
use Rattle.cb_netlist.specs.Wiring.{Wiring}
use Rattle.cb_netlist.proofs.netlist.Netlist.len.Goals as goal

pub returns : goal.returns
returns c =
    let long = filled-long c.self.inside.instances.items c.self.inside.pins c.self.invariant in
    let view = ap (λ (n : Wiring). length n.filled) c.self.view_is in
    omega (arith, long, view, c.len.ensures, c.self.inside.instances.ok)
