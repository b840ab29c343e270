use Rattle.std.proofs.Common.{refl}
use Rattle.cb_lines.specs.Ends.{cut_off}
use Rattle.cb_lines.proofs.ended.finish.Goals as goal

pub returns-in-Err-clause-written : goal.returns-in-Err-clause-written
returns-in-Err-clause-written g c = let f = c.in-Err.ensures.front in cut_off f.0 refl f.1.1
