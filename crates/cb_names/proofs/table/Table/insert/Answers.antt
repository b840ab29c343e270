use Rattle.cb_names.proofs.Seen.{insert_seen}
use Rattle.cb_names.proofs.table.Table.insert.Goals as goal

pub returns-in-Ok-clause-added : goal.returns-in-Ok-clause-added
returns-in-Ok-clause-added g c =
    insert_seen (c.args.name, c.args.count) c.args.value c.self.inside.entries.entries c.insert.new.self.entries c.args.self.now c.self.view_is c.requires c.in-Ok.ensures.entries
