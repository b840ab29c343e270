use Rattle.std.proofs.Common.{◌≡◌, ◌++◌, map, drop}
use Rattle.cb_model.specs.Output.{printed_from}
use Rattle.cb_sorts.specs.Asked.{numbered_name}
use Rattle.cb_sorts.proofs.printed.printed.Given as goal

abbrev pub invariant-loop-number : goal.invariant-loop-number
invariant-loop-number l = map numbered_name l.all ++ printed_from l.number (drop l.number l.variables) ≡ printed_from 0 l.variables
