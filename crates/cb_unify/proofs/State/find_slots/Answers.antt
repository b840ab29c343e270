use Rattle.std.proofs.Common.{◌≡◌, List, ◌++◌, [], ◌∷◌, length, Option, Some, rules, sym, subst}
use Rattle.std.specs.Prelude.{slice_get}
use Rattle.cb_elim.specs.declared.Slot.{Slot}
use Rattle.cb_unify.specs.Trees.{HaveSlots}
use Rattle.cb_unify.proofs.Written.{one-slot}
use Rattle.cb_unify.proofs.State.find_slots.Goals as goal

pub slots-preserved : goal.slots-preserved
slots-preserved c =
    let e : c.len-in-slots-2.result ≡ length c.slots.slots.items = search rules in
    let items : c.push.new.self.items ≡ c.slots.slots.items ++ c.slot.result ∷ [] = search rules in
    subst (λ (xs : List (Option Slot)). HaveSlots c.args.self.now c.args.frame.now xs) (sym items)
    (one-slot c.args.self.now c.args.frame.now c.slots.slots.items c.cell.result.0 c.slot.result c.slots.invariant (subst (λ n. slice_get c.args.frame.now n ≡ Some c.cell.result.0) e c.cell.ensures) c.slot.ensures.slot c.slot.ensures.some)
