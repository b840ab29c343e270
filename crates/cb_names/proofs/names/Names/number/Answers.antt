use Rattle.std.proofs.Common.{◌∙◌, bytes_eq}
use Rattle.cb_names.proofs.Seen.{position_seen}
use Rattle.cb_names.proofs.names.Names.number.Goals as goal

pub returns : goal.returns
returns c = c.get_index_of.ensures.index ∙ position_seen (bytes_eq c.args.name.now) (λ x. x.now) c.self.inside.names.keys c.args.self.now c.self.view_is
