use Rattle.std.proofs.Common.{◌≡◌, Some, [], slice_get, slice_index_or, ap, sym, ◌∙◌, rules}
use Rattle.cb_model.specs.Text.{shown_name}
use Rattle.cb_variables.specs.declared.Variable.{Variable}
use Rattle.cb_variables.specs.declared.Variable.TheVariants as variable
use Rattle.cb_variables.proofs.Shown.{shown-written, shown-own, name-under, proper-under}
use Rattle.cb_variables.proofs.Variables.shown.Goals as goal

pub returns-in-Some-Named : goal.returns-in-Some-Named
returns-in-Some-Named c =
    let vs = c.self.inside.variables.keys in
    let v : Variable = variable.Named c.in-Some-Named.name in
    let at : slice_get vs c.args.number ≡ Some v = search rules in
    shown-written c.in-Some-Named.name.now (proper-under vs c.args.number v c.self.invariant at)
    ∙ ap shown_name (sym (name-under vs c.args.number v at) ∙ ap (λ xs. slice_index_or xs c.args.number []) c.self.view_is)

pub returns-in-Some-Own : goal.returns-in-Some-Own
returns-in-Some-Own c =
    let vs = c.self.inside.variables.keys in
    let v : Variable = variable.Own c.in-Some-Own.field-0-0 in
    let at : slice_get vs c.args.number ≡ Some v = search rules in
    shown-own c.in-Some-Own.field-0-0
    ∙ ap shown_name (sym (name-under vs c.args.number v at) ∙ ap (λ xs. slice_index_or xs c.args.number []) c.self.view_is)
