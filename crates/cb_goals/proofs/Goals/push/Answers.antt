use Rattle.std.proofs.Common.{◌∙◌}
use Rattle.cb_goals.proofs.Lists.{pushed-is, pushed-keeps}
use Rattle.cb_goals.proofs.Goals.push.Goals as goal

pub returns-clause-pushed : goal.returns-clause-pushed
returns-clause-pushed c =
    pushed-is c.args.self.now c.self.inside.links.items c.push.new.self.items (record { goal = c.args.goal; rest = c.args.rest }) c.len.result c.self.view_is c.in_ok-push.ensures.items (c.len.ensures ∙ c.push.new.self.ok.0)

pub returns-clause-keeps : goal.returns-clause-keeps
returns-clause-keeps c =
    pushed-keeps c.args.self.now c.self.inside.links.items c.push.new.self.items (record { goal = c.args.goal; rest = c.args.rest }) c.self.view_is c.in_ok-push.ensures.items
