use Rattle.cb_marking.proofs.Parts.{given_none, given_past}
use Rattle.cb_marking.proofs.terms.sort_at.Goals as goal

pub returns-in-None-at : goal.returns-in-None-at
returns-in-None-at c = given_past c.args.sorts _ c.args.place c.in-Some.is c.in-None-at.ensures

pub returns-in-None : goal.returns-in-None
returns-in-None c = given_none c.args.sorts c.args.place c.in-None.is
