use Rattle.std.proofs.Common.{length, ap, ◌∙◌, arith}
use Rattle.cb_elim.specs.Store.{Seen}
use Rattle.cb_cases.proofs.joined.join_twice.Goals as goal

pub are_rewritten-listed-requires : goal.are_rewritten-listed-requires
are_rewritten-listed-requires c = record { moment = c.join.ensures.moments.moments c.mark-start.result c.mark-start.ensures.is_moment }

pub undo-requires-clause-moment : goal.undo-requires-clause-moment
undo-requires-clause-moment c = c.join.ensures.moments.moments c.mark-start.result c.mark-start.ensures.is_moment

pub seen-requires-2-clause-slots : goal.seen-requires-2-clause-slots
seen-requires-2-clause-slots c =
    let e = ap (λ (s : Seen). length s.slots) (c.undo.ensures.back c.args.store.now c.requires.store c.mark-start.ensures.moment c.join.ensures.moments) in
    let h = c.requires.slots in
    omega arith

pub are_rewritten-none-requires : goal.are_rewritten-none-requires
are_rewritten-none-requires c = record {
  moment = (c.undo.ensures.moments c.args.store.now c.requires.store c.mark-start.ensures.moment c.join.ensures.moments).moments c.mark-start.result c.mark-start.ensures.is_moment;
}

pub join-requires-2-clause-slots : goal.join-requires-2-clause-slots
join-requires-2-clause-slots c =
    ap (λ (s : Seen). length s.slots) (c.undo.ensures.back c.args.store.now c.requires.store c.mark-start.ensures.moment c.join.ensures.moments) ∙ c.requires.slots

pub are_rewritten-again-requires : goal.are_rewritten-again-requires
are_rewritten-again-requires c = record {
  moment = c.join-2.ensures.moments.moments c.mark-start.result ((c.undo.ensures.moments c.args.store.now c.requires.store c.mark-start.ensures.moment c.join.ensures.moments).moments c.mark-start.result c.mark-start.ensures.is_moment);
}
