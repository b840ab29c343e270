use Rattle.cb_known.proofs.Names.{sorts_found, sorts_none}
use Rattle.cb_known.proofs.goals.has_sorts.Goals as goal

pub returns-in-Some : goal.returns-in-Some
returns-in-Some c = sorts_found c.args.declared.now.sorts (c.args.name.now, c.args.count) c.in-Some.field-0 c.in-Some.ensures

pub returns-in-None : goal.returns-in-None
returns-in-None c = sorts_none c.args.declared.now.sorts (c.args.name.now, c.args.count) c.in-None.ensures
