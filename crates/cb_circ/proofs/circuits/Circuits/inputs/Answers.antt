use Rattle.cb_circ.proofs.Refusing.{inputs-are, in-entries}
use Rattle.cb_circ.proofs.circuits.Circuits.inputs.Goals as goal

pub returns : goal.returns
returns c = inputs-are c.self.inside.modules.items c.self.inside.names c.self.inside.specs.items c.self.inside.spec_names c.args.self.now c.self.view_is c.self.invariant.kept c.args.m c.index.result.now (in-entries c.self.inside.modules.items c.self.inside.names c.self.inside.specs.items c.self.inside.spec_names c.args.self.now c.self.view_is c.self.invariant.kept c.args.m c.requires) c.index.ensures
