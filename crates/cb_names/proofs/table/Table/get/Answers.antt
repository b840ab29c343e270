use Rattle.std.proofs.Common.{◌∙◌}
use Rattle.cb_names.proofs.Seen.{lookup_seen}
use Rattle.cb_names.proofs.table.Table.get.Goals as goal

pub returns : goal.returns
returns g c = c.get.ensures.value ∙ lookup_seen (c.args.name.now, c.args.count) c.self.inside.entries.entries c.args.self.now c.self.view_is
