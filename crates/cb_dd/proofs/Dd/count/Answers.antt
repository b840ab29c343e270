use Rattle.std.proofs.Common.{subst}
use Rattle.cb_dd.specs.Diagram.{IsCanonical}
use Rattle.cb_dd.proofs.Diagrams.{is_canonical}
use Rattle.cb_dd.proofs.Dd.count.Goals as goal

pub returns-clause-canonical : goal.returns-clause-canonical
returns-clause-canonical c = subst (λ s. IsCanonical s.triples) c.self.view_is (is_canonical _ c.self.invariant.diagram)
