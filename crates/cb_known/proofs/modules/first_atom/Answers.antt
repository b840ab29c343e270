use Rattle.cb_known.proofs.Names.{first_some, first_none}
use Rattle.cb_known.proofs.modules.first_atom.Goals as goal

pub returns-in-Some : goal.returns-in-Some
returns-in-Some c = first_some c.args.args.now c.in-Some.first.now c.atom.result c.in-Some.ensures c.atom.ensures

pub returns-in-None : goal.returns-in-None
returns-in-None c = first_none c.args.args.now c.in-None.ensures
