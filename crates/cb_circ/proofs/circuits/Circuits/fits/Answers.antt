use Rattle.std.proofs.Common.{arith}
use Rattle.cb_circ.proofs.Refusing.{entry-is, in-flats, same-fits, other-fits}
use Rattle.cb_circ.proofs.circuits.Circuits.fits.Goals as goal

pub index-entry-requires : goal.index-entry-requires
index-entry-requires c =
    let h = rw c.in-Module.is at c.requires in
    let l = in-flats c.self.inside.modules.items c.self.inside.names c.self.inside.specs.items c.self.inside.spec_names c.args.self.now c.self.view_is c.self.invariant.kept c.in-Module.q h.1 in
    omega (arith, l, c.self.inside.modules.ok)

pub returns-then-ins-entry : goal.returns-then-ins-entry
returns-then-ins-entry c =
    let h = rw c.in-Module.is at c.requires in
    same-fits c.args.self.now.flats c.args.name.now _ c.index-entry.result.now c.args.ins c.args.outs h.0 h.2
    (entry-is c.self.inside.modules.items c.self.inside.names c.self.inside.specs.items c.self.inside.spec_names c.args.self.now c.self.view_is c.self.invariant.kept c.in-Module.q c.index-entry.result.now (in-flats c.self.inside.modules.items c.self.inside.names c.self.inside.specs.items c.self.inside.spec_names c.args.self.now c.self.view_is c.self.invariant.kept c.in-Module.q h.1) c.index-entry.ensures) c.if-ins-entry.true

pub returns-else-ins-entry : goal.returns-else-ins-entry
returns-else-ins-entry c =
    let h = rw c.in-Module.is at c.requires in
    other-fits c.args.self.now.flats c.args.name.now _ c.index-entry.result.now c.args.ins c.args.outs h.0 h.2
    (entry-is c.self.inside.modules.items c.self.inside.names c.self.inside.specs.items c.self.inside.spec_names c.args.self.now c.self.view_is c.self.invariant.kept c.in-Module.q c.index-entry.result.now (in-flats c.self.inside.modules.items c.self.inside.names c.self.inside.specs.items c.self.inside.spec_names c.args.self.now c.self.view_is c.self.invariant.kept c.in-Module.q h.1) c.index-entry.ensures) c.if-ins-entry.false
