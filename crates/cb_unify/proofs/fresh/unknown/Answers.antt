use Rattle.std.proofs.Common.{sym, subst}
use Rattle.cb_model.specs.declared.Sort.{Sort}
use Rattle.cb_heap.specs.declared.Cell.TheVariants as shown
use Rattle.cb_unify.specs.Growth.{IsUnknown}
use Rattle.cb_unify.proofs.Opened.{unknown-bool, unknown-bus, unknown-term}
use Rattle.cb_unify.proofs.fresh.unknown.Goals as goal

pub returns-in_ok-slot-in-Bool-clause-unknown : goal.returns-in_ok-slot-in-Bool-clause-unknown
returns-in_ok-slot-in-Bool-clause-unknown c =
    subst (λ (z : Sort). IsUnknown c.args.store.now c.variable.new.self z (shown.Leaf c.in_ok-slot-in-Bool.slot.0)) (sym c.in-Bool.is)
    (unknown-bool c.args.store.now c.variable.new.self c.requires.store c.in_ok-slot-in-Bool.slot.0 c.in_ok-slot-in-Bool.ensures.slot c.in_ok-slot-in-Bool.ensures.slot.range c.in_ok-slot-in-Bool.ensures.slot.stays)

pub returns-in-Bus-clause-unknown : goal.returns-in-Bus-clause-unknown
returns-in-Bus-clause-unknown c = subst (λ (z : Sort). IsUnknown c.args.store.now c.args.store.now z shown.BusVar) (sym c.in-Bus.is) (unknown-bus c.args.store.now)

pub returns-in-Term-clause-unknown : goal.returns-in-Term-clause-unknown
returns-in-Term-clause-unknown c = subst (λ (z : Sort). IsUnknown c.args.store.now c.args.store.now z shown.TermVar) (sym c.in-Term.is) (unknown-term c.args.store.now)
