use Rattle.std.proofs.Common.{◌+◌, ◌<◌, ◌^◌, length, ap, sym, subst, ◌∙◌, rules}
use Rattle.cb_flat.proofs.Accepted.{accepted-has}
use Rattle.cb_circ.specs.View.{module_view}
use Rattle.cb_circ.specs.Driving.{IsTable}
use Rattle.cb_circ.proofs.Marking.{within-as, outputs-within}
use Rattle.cb_circ.proofs.Filling.{checked}
use Rattle.cb_circ.proofs.Tabling.{found-gates, small-found, bare-found, out-read}
use Rattle.cb_circ.proofs.circuits.Circuits.netlist.Goals as goal

pub drivers-requires-clause-placed : goal.drivers-requires-clause-placed
drivers-requires-clause-placed c = record { carrying = c.carrying.ensures; accepted = c.requires.accepted; named = c.requires.parts.named; first = c.requires.parts.first c.requires.few; small = small-found c.args.self.now.flats c.args.raw.now c.requires.well c.args.found.now c.requires.parts c.requires.few (search rules) }

pub fill-requires-clause-placed : goal.fill-requires-clause-placed
fill-requires-clause-placed c = record { carrying = c.carrying.ensures; accepted = c.requires.accepted; named = c.requires.parts.named; first = c.requires.parts.first c.requires.few; small = small-found c.args.self.now.flats c.args.raw.now c.requires.well c.args.found.now c.requires.parts c.requires.few (search rules) }

pub fill-requires-clause-drivers : goal.fill-requires-clause-drivers
fill-requires-clause-drivers c = subst (IsTable c.args.self.now.flats (module_view c.args.raw.now) c.args.raw.now.nets) (sym c.as_slice.ensures.value) c.in_ok-drivers.ensures

pub fill-requires-clause-bare : goal.fill-requires-clause-bare
fill-requires-clause-bare c = c.new-netlist.ensures ∙ bare-found c.args.self.now.flats c.args.raw.now c.requires.well c.args.found.now c.requires.parts c.requires.few

pub push_outputs-requires : goal.push_outputs-requires
push_outputs-requires c =
    within-as (length c.args.raw.now.nets) _ _ c.as_slice-3.result.now (outputs-within c.args.raw.now c.requires.well) (ap length c.as_slice-2.ensures.value ∙ (let t = c.in_ok-drivers.ensures in t.long)) c.as_slice-3.ensures.value

pub returns : goal.returns
returns c =
    let fs = c.args.self.now.flats in
    let r = c.args.raw.now in
    let a = accepted-has fs (module_view r) c.carrying.ensures c.requires.accepted in
    let small : c.args.raw.now.inputs + c.args.found.now.gates < 2 ^ 32 = search rules in
    checked fs r c.requires.well a c.in_ok-drivers.drivers.items r.inputs c.args.found.now.gates c.new-netlist.result c.fill.new.netlist c.push_outputs.new.netlist c.requires.accepted c.in_ok-drivers.ensures c.requires.well.count
    (found-gates fs (module_view r) c.args.found.now c.requires.parts c.requires.few) c.requires.few small c.new-netlist.ensures c.in_ok-fill.ensures (out-read c.push_outputs.new.netlist c.fill.new.netlist _ _ c.in_ok-drivers.drivers.items r.outputs.items c.in_ok-push_outputs.ensures c.as_slice-2.ensures.value c.as_slice-3.ensures.value)
