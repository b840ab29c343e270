use Rattle.std.proofs.Common.{◌↔◌, sym, subst}
use Rattle.std.specs.Prelude.{IsTrue, IfOk}
use Rattle.cb_boole.specs.Elimination.{Function}
use Rattle.cb_heap.specs.declared.Stored.{Stored}
use Rattle.cb_unify.specs.Delays.{IsSettledBit, Settles}
use Rattle.cb_unify.proofs.holds.settles.Goals as goal

pub value-requires-clause-slot : goal.value-requires-clause-slot
value-requires-clause-slot c = c.requires.slot c.in-Leaf.slot c.in-Leaf.is

pub returns-in-Leaf : goal.returns-in-Leaf
returns-in-Leaf c =
    subst (λ (x : Stored). IfOk c.is_settled.result (λ b. IsTrue b ↔ Settles c.args.store.now c.args.when x)) (sym c.in-Leaf.is)
    (subst (λ (f : Function). IfOk c.is_settled.result (λ b. IsTrue b ↔ IsSettledBit c.args.store.now.constants c.args.when f)) c.value.ensures.function c.is_settled.ensures)
