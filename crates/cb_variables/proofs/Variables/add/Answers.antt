use Rattle.std.proofs.Common.{refl}
use Rattle.cb_variables.proofs.Same.{added_same, added_number}
use Rattle.cb_variables.specs.contracts.VariablePartialEq.TheImpl as equal
use Rattle.cb_variables.proofs.Variables.add.Goals as goal

pub returns-clause-added : goal.returns-clause-added
returns-clause-added c =
    added_same (equal.eq-value).it (record { named = λ x y. refl; mixed = λ x k. refl; other = λ x k. refl; own = λ j k. refl }) c.args.variable c.requires c.self.inside.variables.keys c.self.invariant
    c.args.self.now c.insert_full.new.self.keys c.self.view_is c.in_ok-number.ensures.keys

pub returns-clause-number : goal.returns-clause-number
returns-clause-number c =
    added_number (equal.eq-value).it (record { named = λ x y. refl; mixed = λ x k. refl; other = λ x k. refl; own = λ j k. refl }) c.args.variable c.requires c.self.inside.variables.keys c.self.invariant
    c.insert_full.new.self.keys c.in_ok-number.number c.in_ok-number.ensures.keys c.in_ok-number.ensures.index
