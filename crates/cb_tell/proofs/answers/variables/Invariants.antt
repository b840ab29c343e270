use Rattle.std.proofs.Common.{take, ◌-◌, ◌^◌}
use Rattle.cb_model.specs.Output.{printed_from}
use Rattle.cb_tell.specs.Items.{AreVariables}
use Rattle.cb_tell.proofs.answers.variables.Given as goal

abbrev pub invariant-loop-item : goal.invariant-loop-item
invariant-loop-item l = AreVariables l.engine.state.state.made (take l.place (printed_from 0 l.query.variables)) l.all.items

abbrev pub decreases-loop-item : goal.decreases-loop-item
decreases-loop-item l = 2 ^ 32 - l.place
