use Rattle.cb_signs.proofs.Adding.{adds_fact, adds_rule}
use Rattle.cb_signs.proofs.clauses.add_clause.Goals as goal

pub returns-then-is_fact : goal.returns-then-is_fact
returns-then-is_fact c = adds_fact c.args.base.now c.args.more.now c.args.clause.now c.if-is_fact.ensures

pub returns-in_ok-add_term-in-Rule : goal.returns-in_ok-add_term-in-Rule
returns-in_ok-add_term-in-Rule c =
    adds_rule c.add_goals.result c.args.base.now c.args.more.now c.add_term.new.more c.add_goals.new.more c.args.clause.now c.in-Rule.line c.in-Rule.head c.in-Rule.bodied c.in-Rule.body c.as_slice-in-Rule.result.now
    c.in-Rule.is c.as_slice-in-Rule.ensures c.if-is_fact.ensures c.in_ok-add_term-in-Rule.ensures c.add_goals.ensures
