use Rattle.std.proofs.Common.{◌∙◌, bytes_eq}
use Rattle.cb_names.proofs.Seen.{any_seen}
use Rattle.cb_names.proofs.names.Names.has.Goals as goal

pub returns : goal.returns
returns c = c.contains.ensures ∙ any_seen (bytes_eq c.args.name.now) (λ x. x.now) c.self.inside.names.keys c.args.self.now c.self.view_is
