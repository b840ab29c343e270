use Rattle.std.proofs.Common.{ap, sym, ◌∙◌}
use Rattle.cb_model.specs.Text.{shown_name}
use Rattle.cb_circ.proofs.Refusing.{in-entries, input-at}
use Rattle.cb_circ.proofs.circuits.Circuits.input_name.Goals as goal

pub shown-requires : goal.shown-requires
shown-requires c = (input-at c.self.inside.modules.items c.self.inside.names c.self.inside.specs.items c.self.inside.spec_names c.args.self.now c.self.view_is c.self.invariant.kept c.args.m c.index.result.now c.args.k (in-entries c.self.inside.modules.items c.self.inside.names c.self.inside.specs.items c.self.inside.spec_names c.args.self.now c.self.view_is c.self.invariant.kept c.args.m c.requires.known) c.index.ensures c.requires.input).0

pub returns : goal.returns
returns c = c.shown.ensures ∙ ap shown_name (sym (input-at c.self.inside.modules.items c.self.inside.names c.self.inside.specs.items c.self.inside.spec_names c.args.self.now c.self.view_is c.self.invariant.kept c.args.m c.index.result.now c.args.k (in-entries c.self.inside.modules.items c.self.inside.names c.self.inside.specs.items c.self.inside.spec_names c.args.self.now c.self.view_is c.self.invariant.kept c.args.m c.requires.known) c.index.ensures c.requires.input).1)
