use Rattle.std.proofs.Common.{take, refl}
use Rattle.cb_tell.proofs.Turns.{prefix-of}
use Rattle.cb_tell.proofs.lines.finish.Goals as goal

pub returns-in-Err-clause-told : goal.returns-in-Err-clause-told
returns-in-Err-clause-told g c =
    let f = c.in-Err.ensures.front in
    (refl, record { front = take f.0 c.args.line.now; begins = prefix-of f.0 c.args.line.now; wrote = f.1.1 })
