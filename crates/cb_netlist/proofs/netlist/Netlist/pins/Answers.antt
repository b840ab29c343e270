use Rattle.std.proofs.Common.{◌<◌, arith, ap, length, sym, ◌∙◌}
use Rattle.cb_flat.specs.Walk.{Filled}
use Rattle.cb_netlist.specs.Wiring.{Wiring}
use Rattle.cb_netlist.specs.declared.netlist.Part.TheVariants.{Module}
use Rattle.cb_netlist.specs.Places.{filled_at}
use Rattle.cb_netlist.proofs.Parts.{filled-long, filled-at}
use Rattle.cb_netlist.proofs.netlist.Netlist.pins.Goals as goal

pub list-requires : goal.list-requires
list-requires c =
    let long = filled-long c.self.inside.instances.items c.self.inside.pins c.self.invariant in
    let view = ap (λ (n : Wiring). length n.filled) c.self.view_is in
    omega (arith, long, view, c.requires, c.self.invariant)

pub returns : goal.returns
returns c =
    let long = filled-long c.self.inside.instances.items c.self.inside.pins c.self.invariant in
    let view = ap (λ (n : Wiring). length n.filled) c.self.view_is in
    let l : c.args.at < length c.self.inside.instances.items = omega (arith, long, view, c.requires) in
    c.list.ensures
    ∙ ap (λ (f : Filled). f.ins) (sym (filled-at c.self.inside.instances.items c.self.inside.pins c.args.at (record { part = Module 0; first = 0 }) c.self.invariant l))
    ∙ ap (λ (n : Wiring). (filled_at n c.args.at).ins) c.self.view_is
