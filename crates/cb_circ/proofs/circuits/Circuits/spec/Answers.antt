use Rattle.std.proofs.Common.{Some, None}
use Rattle.cb_circ.proofs.Refusing.{spec-is}
use Rattle.cb_circ.proofs.circuits.Circuits.spec.Goals as goal

pub returns-in-Some : goal.returns-in-Some
returns-in-Some c = spec-is c.self.inside.modules.items c.self.inside.names c.self.inside.specs.items c.self.inside.spec_names c.args.self.now c.self.view_is c.self.invariant.kept c.args.name.now (Some c.in-Some.number) c.in-Some.ensures

pub returns-in-None : goal.returns-in-None
returns-in-None c = spec-is c.self.inside.modules.items c.self.inside.names c.self.inside.specs.items c.self.inside.spec_names c.args.self.now c.self.view_is c.self.invariant.kept c.args.name.now None c.in-None.ensures
