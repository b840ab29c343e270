use Rattle.std.proofs.Common.{◌<◌, arith, ap, length, sym, ◌∙◌}
use Rattle.cb_flat.specs.Walk.{Filled}
use Rattle.cb_netlist.specs.Wiring.{Wiring}
use Rattle.cb_netlist.specs.declared.netlist.Instance.{Instance}
use Rattle.cb_netlist.specs.Parts.{part_is}
use Rattle.cb_netlist.specs.Places.{filled_at}
use Rattle.cb_netlist.proofs.Parts.{filled-long, filled-at}
use Rattle.cb_netlist.proofs.netlist.Netlist.part.Goals as goal

pub index-requires : goal.index-requires
index-requires c =
    let long = filled-long c.self.inside.instances.items c.self.inside.pins c.self.invariant in
    let view = ap (λ (n : Wiring). length n.filled) c.self.view_is in
    omega (arith, long, view, c.requires, c.self.inside.instances.ok)

pub returns : goal.returns
returns c =
    let long = filled-long c.self.inside.instances.items c.self.inside.pins c.self.invariant in
    let view = ap (λ (n : Wiring). length n.filled) c.self.view_is in
    let l : c.args.at < length c.self.inside.instances.items = omega (arith, long, view, c.requires) in
    ap (λ (i : Instance). part_is i.part) c.index.ensures
    ∙ ap (λ (f : Filled). f.part) (sym (filled-at c.self.inside.instances.items c.self.inside.pins c.args.at c.index.result.now c.self.invariant l))
    ∙ ap (λ (n : Wiring). (filled_at n c.args.at).part) c.self.view_is
