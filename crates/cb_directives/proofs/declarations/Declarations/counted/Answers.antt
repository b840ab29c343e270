use Rattle.std.proofs.Common.{◌≡◌, length, subst}
use Rattle.cb_model.specs.Directives.{Sign, Declared, sorts_of}
use Rattle.cb_directives.proofs.Counted.{counted_law}
use Rattle.cb_directives.proofs.declarations.Declarations.counted.Goals as goal

pub returns : goal.returns
returns c = subst (λ (d : Declared). (a : Sign) → length (sorts_of d a) ≡ a.1) c.self.view_is (counted_law (record { constants = c.self.inside.constants; sorts = c.self.inside.sorts; demons = c.self.inside.demons; delays = c.self.inside.delays }) c.self.invariant.2)
