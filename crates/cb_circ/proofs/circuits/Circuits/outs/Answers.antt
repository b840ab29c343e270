use Rattle.std.proofs.Common.{◌≡◌, ◌++◌, length, subst, sym}
use Rattle.std.specs.Result.{OnOk}
use Rattle.cb_circ.specs.Driving.{part_flat, placed_outs}
use Rattle.cb_circ.proofs.Wired.{outs-within, outs-same}
use Rattle.cb_circ.proofs.circuits.Circuits.outs.Goals as goal

pub module_outs-requires-clause-outs : goal.module_outs-requires-clause-outs
module_outs-requires-clause-outs c =
    let h = rw c.in-Module.is at c.requires.pins in
    outs-within c.self.inside.modules.items c.self.inside.netlists.items c.self.inside.specs.items c.args.self.now c.self.view_is c.self.invariant.wired c.in-Module.q c.index.result.now h.0 c.index.ensures

pub returns-in-Module : goal.returns-in-Module
returns-in-Module c =
    let h = rw c.in-Module.is at c.requires.pins in
    let e = outs-same c.self.inside.modules.items c.self.inside.netlists.items c.self.inside.specs.items c.args.self.now c.self.view_is c.self.invariant.wired c.in-Module.q c.index.result.now h.0 c.index.ensures c.args.inputs c.args.first c.args.pins.now in
    subst (λ p. OnOk c.module_outs.result (c.module_outs.new.found.items ≡ c.args.found.now.items ++ placed_outs (part_flat c.args.self.now.flats p (length c.args.pins.now)) c.args.inputs c.args.first c.args.pins.now)) (sym c.in-Module.is)
    (subst (λ xs. OnOk c.module_outs.result (c.module_outs.new.found.items ≡ c.args.found.now.items ++ xs)) e c.module_outs.ensures)
