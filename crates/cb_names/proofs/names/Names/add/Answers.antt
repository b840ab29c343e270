use Rattle.std.proofs.Common.{bytes_eq}
use Rattle.cb_names.proofs.Seen.{added_seen}
use Rattle.cb_names.proofs.names.Names.add.Goals as goal

pub returns-clause-added : goal.returns-clause-added
returns-clause-added c = added_seen (bytes_eq c.args.name.now) (λ x. x.now) c.args.name c.self.inside.names.keys c.insert.new.self.keys c.args.self.now c.self.view_is c.in_ok-insert.ensures.keys
