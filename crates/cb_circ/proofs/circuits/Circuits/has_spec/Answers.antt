use Rattle.std.proofs.Common.{◌∙◌}
use Rattle.cb_circ.proofs.Pushing.{spec-known}
use Rattle.cb_circ.proofs.circuits.Circuits.has_spec.Goals as goal

pub returns : goal.returns
returns c = c.has.ensures ∙ spec-known c.self.inside.modules.items c.self.inside.names c.self.inside.specs.items c.self.inside.spec_names c.args.self.now c.self.view_is c.self.invariant.kept c.args.name.now
