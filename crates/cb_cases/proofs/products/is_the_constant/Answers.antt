use Rattle.std.proofs.Common.{length, ap, arith}
use Rattle.cb_elim.specs.Store.{Seen}
use Rattle.cb_cases.proofs.products.is_the_constant.Goals as goal

pub are_rewritten-listed-requires : goal.are_rewritten-listed-requires
are_rewritten-listed-requires c = record {
  moment = c.equate_expressions.ensures.moments.moments c.mark-start.result c.mark-start.ensures.is_moment;
}

pub undo-requires-clause-moment : goal.undo-requires-clause-moment
undo-requires-clause-moment c = c.equate_expressions.ensures.moments.moments c.mark-start.result c.mark-start.ensures.is_moment

pub value-back-requires-clause-slot : goal.value-back-requires-clause-slot
value-back-requires-clause-slot c =
    let e = ap (λ (s : Seen). length s.slots) (c.undo.ensures.back c.args.store.now c.requires.store c.mark-start.ensures.moment c.equate_expressions.ensures.moments) in
    let h = c.requires.slots in
    omega arith

pub are_rewritten-none-requires : goal.are_rewritten-none-requires
are_rewritten-none-requires c = record {
  moment = (c.undo.ensures.moments c.args.store.now c.requires.store c.mark-start.ensures.moment c.equate_expressions.ensures.moments).moments c.mark-start.result c.mark-start.ensures.is_moment;
}
