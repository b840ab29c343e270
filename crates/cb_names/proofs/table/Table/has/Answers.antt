use Rattle.std.proofs.Common.{◌∙◌}
use Rattle.cb_names.proofs.Seen.{has_seen}
use Rattle.cb_names.proofs.table.Table.has.Goals as goal

pub returns : goal.returns
returns g c = c.contains_key.ensures ∙ has_seen (c.args.name.now, c.args.count) c.self.inside.entries.entries c.args.self.now c.self.view_is
