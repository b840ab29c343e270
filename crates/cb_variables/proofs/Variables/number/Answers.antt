use Rattle.std.proofs.Common.{◌∙◌, refl}
use Rattle.cb_variables.proofs.Same.{number_same}
use Rattle.cb_variables.specs.contracts.VariablePartialEq.TheImpl as equal
use Rattle.cb_variables.proofs.Variables.number.Goals as goal

pub returns : goal.returns
returns c =
    c.get_index_of.ensures.index
    ∙ number_same (equal.eq-value).it (record { named = λ x y. refl; mixed = λ x k. refl; other = λ x k. refl; own = λ j k. refl }) c.args.variable c.requires c.self.inside.variables.keys c.self.invariant
    c.args.self.now c.self.view_is
