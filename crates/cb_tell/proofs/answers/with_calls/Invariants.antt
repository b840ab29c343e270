use Rattle.std.proofs.Common.{take}
use Rattle.cb_tell.specs.Items.{AddsCalls}
use Rattle.cb_tell.proofs.answers.with_calls.Given as goal

abbrev pub invariant-loop-call : goal.invariant-loop-call
invariant-loop-call l = AddsCalls l.names.names (take l.call-index l.calls) l.fn.variables.items l.all.items
