use Rattle.cb_names.proofs.Seen.{distinct_seen}
use Rattle.cb_names.proofs.signs.Signs.len.Goals as goal

pub returns-clause-distinct : goal.returns-clause-distinct
returns-clause-distinct c = distinct_seen c.self.inside.signs.keys c.args.self.now c.self.view_is c.len.ensures.unique
