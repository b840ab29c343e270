use Rattle.std.proofs.Common.{arith}
use Rattle.cb_circ.proofs.Refusing.{entry-is, in-flats, module-gates}
use Rattle.cb_circ.proofs.circuits.Circuits.part_gates.Goals as goal

pub index-requires : goal.index-requires
index-requires c =
    let h = rw c.in-Module.is at c.requires in
    let l = in-flats c.self.inside.modules.items c.self.inside.names c.self.inside.specs.items c.self.inside.spec_names c.args.self.now c.self.view_is c.self.invariant.kept c.in-Module.q h.1 in
    omega (arith, l, c.self.inside.modules.ok)

pub returns-in-Module-clause-gates : goal.returns-in-Module-clause-gates
returns-in-Module-clause-gates c =
    let h = rw c.in-Module.is at c.requires in
    module-gates c.args.self.now.flats c.args.name.now _ c.index.result.now h.0 h.2
    (entry-is c.self.inside.modules.items c.self.inside.names c.self.inside.specs.items c.self.inside.spec_names c.args.self.now c.self.view_is c.self.invariant.kept c.in-Module.q c.index.result.now (in-flats c.self.inside.modules.items c.self.inside.names c.self.inside.specs.items c.self.inside.spec_names c.args.self.now c.self.view_is c.self.invariant.kept c.in-Module.q h.1) c.index.ensures)

pub returns-in-Module-clause-small : goal.returns-in-Module-clause-small
returns-in-Module-clause-small c =
    let h = rw c.in-Module.is at c.requires in
    (entry-is c.self.inside.modules.items c.self.inside.names c.self.inside.specs.items c.self.inside.spec_names c.args.self.now c.self.view_is c.self.invariant.kept c.in-Module.q c.index.result.now (in-flats c.self.inside.modules.items c.self.inside.names c.self.inside.specs.items c.self.inside.spec_names c.args.self.now c.self.view_is c.self.invariant.kept c.in-Module.q h.1) c.index.ensures).small
