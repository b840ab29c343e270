use Rattle.std.proofs.Common.{◌∙◌}
use Rattle.cb_model.specs.Directives.{same_sign}
use Rattle.cb_names.specs.Keys.{key_sign}
use Rattle.cb_names.proofs.Seen.{position_seen}
use Rattle.cb_names.proofs.signs.Signs.number.Goals as goal

pub returns : goal.returns
returns c = c.get_index_of.ensures.index ∙ position_seen (same_sign (c.args.name.now, c.args.count)) key_sign c.self.inside.signs.keys c.args.self.now c.self.view_is
