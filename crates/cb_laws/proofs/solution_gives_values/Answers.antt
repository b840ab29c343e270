use Rattle.cb_model.specs.Equations.{valued}
use Rattle.cb_laws.specs.Laws.{SolutionGivesValues}
use Rattle.cb_laws.proofs.solution_gives_values.Goals as goal

law : SolutionGivesValues
law w es s h a ok = record { b = valued s a; sorted = (h a ok).sorted; sat = (h a ok).sat }

pub returns : goal.returns
returns c = law
