use Rattle.cb_model.specs.Directives.{same_sign}
use Rattle.cb_names.specs.Keys.{key_sign}
use Rattle.cb_names.proofs.Seen.{added_seen}
use Rattle.cb_names.proofs.signs.Signs.add.Goals as goal

pub returns-clause-added : goal.returns-clause-added
returns-clause-added c =
    added_seen (same_sign (c.args.name.now, c.args.count)) key_sign (c.args.name, c.args.count) c.self.inside.signs.keys c.insert.new.self.keys c.args.self.now c.self.view_is c.in_ok-insert.ensures.keys
