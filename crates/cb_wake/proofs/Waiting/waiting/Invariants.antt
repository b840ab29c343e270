use Rattle.std.proofs.Common.{◌≡◌, drop}
use Rattle.std.specs.Prelude.{slice_get}
use Rattle.cb_wake.specs.Waits.{numbers_of}
use Rattle.cb_wake.proofs.Waiting.waiting.Given as goal

abbrev pub invariant-loop-number : goal.invariant-loop-number
invariant-loop-number l = slice_get (numbers_of l.number (drop l.number l.waits-items)) l.left ≡ slice_get (numbers_of 0 l.waits-items) l.fn.k
