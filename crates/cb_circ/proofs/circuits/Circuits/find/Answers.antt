use Rattle.std.proofs.Common.{Some, None}
use Rattle.cb_circ.proofs.Refusing.{find-is}
use Rattle.cb_circ.proofs.Flattening.{flats-same}
use Rattle.cb_circ.proofs.circuits.Circuits.find.Goals as goal

pub returns-in-Some-clause-number : goal.returns-in-Some-clause-number
returns-in-Some-clause-number c = find-is c.self.inside.modules.items c.self.inside.names c.self.inside.specs.items c.self.inside.spec_names c.args.self.now c.self.view_is c.self.invariant.kept c.args.name.now (Some c.in-Some.number) c.in-Some.ensures

pub returns-in-None-clause-number : goal.returns-in-None-clause-number
returns-in-None-clause-number c = find-is c.self.inside.modules.items c.self.inside.names c.self.inside.specs.items c.self.inside.spec_names c.args.self.now c.self.view_is c.self.invariant.kept c.args.name.now None c.in-None.ensures

pub returns-in-Some-clause-flats : goal.returns-in-Some-clause-flats
returns-in-Some-clause-flats c = flats-same c.self.inside.modules.items c.self.inside.specs.items c.args.self.now c.self.view_is

pub returns-in-None-clause-flats : goal.returns-in-None-clause-flats
returns-in-None-clause-flats c = flats-same c.self.inside.modules.items c.self.inside.specs.items c.args.self.now c.self.view_is
