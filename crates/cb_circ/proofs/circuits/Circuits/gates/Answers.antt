use Rattle.cb_circ.proofs.Refusing.{entry-is, in-entries}
use Rattle.cb_circ.proofs.circuits.Circuits.gates.Goals as goal

pub returns-clause-gates : goal.returns-clause-gates
returns-clause-gates c = (entry-is c.self.inside.modules.items c.self.inside.names c.self.inside.specs.items c.self.inside.spec_names c.args.self.now c.self.view_is c.self.invariant.kept c.args.m c.index.result.now (in-entries c.self.inside.modules.items c.self.inside.names c.self.inside.specs.items c.self.inside.spec_names c.args.self.now c.self.view_is c.self.invariant.kept c.args.m c.requires) c.index.ensures).gates

pub returns-clause-small : goal.returns-clause-small
returns-clause-small c = (entry-is c.self.inside.modules.items c.self.inside.names c.self.inside.specs.items c.self.inside.spec_names c.args.self.now c.self.view_is c.self.invariant.kept c.args.m c.index.result.now (in-entries c.self.inside.modules.items c.self.inside.names c.self.inside.specs.items c.self.inside.spec_names c.args.self.now c.self.view_is c.self.invariant.kept c.args.m c.requires) c.index.ensures).small
