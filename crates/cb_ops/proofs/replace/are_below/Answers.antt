use Rattle.std.proofs.Common.{sym}
use Rattle.std.proofs.lemmas.Bool.{ltb-true}
use Rattle.cb_ops.proofs.Images.{behind-none}
use Rattle.cb_ops.proofs.replace.are_below.Goals as goal

pub returns-in-Some : goal.returns-in-Some
returns-in-Some c = λ h l le. behind-none c.args.list.now c.requires c.in-Some.entry.now c.args.level (sym c.in-Some.ensures.value) (ltb-true c.in-Some.entry.now.0 c.args.level h) l le
