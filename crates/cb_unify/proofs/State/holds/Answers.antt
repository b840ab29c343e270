use Rattle.std.proofs.Common.{◌↔◌, not, sym, subst}
use Rattle.std.specs.Prelude.{IsTrue}
use Rattle.cb_model.specs.declared.When.{When}
use Rattle.cb_unify.specs.Delays.{HoldsAt}
use Rattle.cb_unify.proofs.Delays.{holds-form, holds-settled, slots-below}
use Rattle.cb_unify.proofs.Inside.{seen}
use Rattle.cb_unify.proofs.State.holds.Goals as goal

pub are_settled-requires-clause-slots : goal.are_settled-requires-clause-slots
are_settled-requires-clause-slots c = slots-below (seen c.self.inside) c.args.self.now c.self.view_is c.requires.state

pub returns-in-Nonvar : goal.returns-in-Nonvar
returns-in-Nonvar c = λ t fits.
    subst (λ (d : When). IsTrue (not c.is_unbound.result) ↔ HoldsAt t c.args.self.now d c.args.r.0) (sym c.in-Nonvar.is)
    (holds-form (seen c.self.inside) c.args.self.now c.self.view_is c.requires.state c.args.r.0 c.last.result.0 c.stored.result c.last.ensures c.stored.ensures c.is_unbound.result c.is_unbound.ensures t fits)

pub returns-in_default : goal.returns-in_default
returns-in_default c =
    holds-settled (seen c.self.inside) c.args.self.now c.self.view_is c.requires.state c.args.when c.in_default.not-Any c.in_default.not-Nonvar c.args.r.0 c.requires.there c.are_settled.result c.are_settled.ensures
