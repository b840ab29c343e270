use Rattle.cb_dd.proofs.Diagrams.{is_canonical}
use Rattle.cb_dd.proofs.Tables.{table-cut}
use Rattle.cb_dd.proofs.Dd.cut.Goals as goal

pub invariant_of-self : goal.invariant_of-self
invariant_of-self c = table-cut _ _ _ _ _ c.self.invariant c.truncate.ensures.keys

pub returns-clause-diagram : goal.returns-clause-diagram
returns-clause-diagram c = (table-cut _ _ c.self.inside.budget c.self.inside.fulls _ c.self.invariant c.truncate.ensures.keys).diagram

pub returns-clause-canonical : goal.returns-clause-canonical
returns-clause-canonical c = is_canonical _ (table-cut _ _ c.self.inside.budget c.self.inside.fulls _ c.self.invariant c.truncate.ensures.keys).diagram
