use Rattle.cb_known.proofs.Numbers.{module_found, module_lacks, no_module}
use Rattle.cb_known.proofs.goals.lacks_module.Goals as goal

pub returns-in-Some-number : goal.returns-in-Some-number
returns-in-Some-number c = λ ms same. module_found ms c.args.modules.now c.in-Some.name.now _ c.in-Some-number.field-0 same c.in-Some.ensures c.in-Some-number.ensures

pub returns-in-None-number : goal.returns-in-None-number
returns-in-None-number c = λ ms same. module_lacks ms c.args.modules.now c.in-Some.name.now _ same c.in-Some.ensures c.in-None-number.ensures
