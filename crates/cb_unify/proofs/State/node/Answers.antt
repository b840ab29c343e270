use Rattle.std.proofs.Common.{◌≡◌, subst}
use Rattle.cb_dd.specs.Diagram.{function_of}
use Rattle.cb_elim.specs.Store.{value_in}
use Rattle.cb_unify.specs.State.{Seen}
use Rattle.cb_unify.proofs.Slots.{slot-value}
use Rattle.cb_unify.proofs.State.node.Goals as goal

pub unreachable-requires : goal.unreachable-requires
unreachable-requires c = c.slot.ensures.some c.requires.fits.0 c.requires.fits.1 c.requires.sort c.in_default.is

pub returns-clause-value : goal.returns-clause-value
returns-clause-value c = slot-value c.args.self.now c.args.r.0 c.in-Some.slot.0 c.in-Some.ensures.slot c.value.result.0
    (subst (λ (s : Seen). function_of s.store.nodes.triples c.value.result.0 ≡ value_in s.store.nodes.triples s.store.slots c.in-Some.slot.0) c.self.view_is c.value.ensures.function)
