use Rattle.cb_model.specs.Facts.{bodied}
use Rattle.cb_circ.proofs.circuits.Circuits.fact.Goals as goal

pub returns-then-bodied : goal.returns-then-bodied
returns-then-bodied c = λ n gs. bodied c.if-bodied.true
