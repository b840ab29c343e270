use Rattle.std.proofs.Common.{◌∙◌}
use Rattle.cb_directives.proofs.Turned.{sign_turned}
use Rattle.cb_directives.proofs.reserved.is.Goals as goal

pub returns-clause-turned : goal.returns-clause-turned
returns-clause-turned c = c.equal.ensures ∙ sign_turned (c.args.name.now, c.args.count) (c.args.other.now, c.args.others)
