use Rattle.cb_circ.proofs.Refusing.{part-found, part-lost}
use Rattle.cb_circ.proofs.circuits.Circuits.part.Goals as goal

pub returns-in-Some-number : goal.returns-in-Some-number
returns-in-Some-number c = part-found c.self.inside.modules.items c.self.inside.names c.self.inside.specs.items c.self.inside.spec_names c.args.self.now c.self.view_is c.self.invariant.kept c.args.name.now c.in-Some-number.number c.in_default.ensures c.in-Some-number.ensures

pub returns-in-None : goal.returns-in-None
returns-in-None c = part-lost c.self.inside.modules.items c.self.inside.names c.self.inside.specs.items c.self.inside.spec_names c.args.self.now c.self.view_is c.self.invariant.kept c.args.name.now c.in_default.ensures c.in-None.ensures
