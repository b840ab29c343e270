use Rattle.std.proofs.Common.{length, ap, ◌∙◌}
use Rattle.cb_elim.specs.Store.{Seen}
use Rattle.cb_cases.proofs.undone.is_taken_back.Goals as goal

pub are_seen-between-requires-clause-moment : goal.are_seen-between-requires-clause-moment
are_seen-between-requires-clause-moment c = c.equate_constant.ensures.moments.moments c.mark-start.result c.mark-start.ensures.is_moment

pub undo-requires-clause-moment : goal.undo-requires-clause-moment
undo-requires-clause-moment c = c.equate_constant.ensures.moments.moments c.mark-start.result c.mark-start.ensures.is_moment

pub are_seen-after-requires-clause-slots : goal.are_seen-after-requires-clause-slots
are_seen-after-requires-clause-slots c =
    ap (λ (s : Seen). length s.slots) (c.undo.ensures.back c.args.store.now c.requires.store c.mark-start.ensures.moment c.equate_constant.ensures.moments) ∙ c.requires.slots

pub are_seen-after-requires-clause-moment : goal.are_seen-after-requires-clause-moment
are_seen-after-requires-clause-moment c =
    (c.undo.ensures.moments c.args.store.now c.requires.store c.mark-start.ensures.moment c.equate_constant.ensures.moments).moments c.mark-start.result c.mark-start.ensures.is_moment

pub returns-then-between-clause-slots : goal.returns-then-between-clause-slots
returns-then-between-clause-slots c =
    ap (λ (s : Seen). length s.slots) (c.undo.ensures.back c.args.store.now c.requires.store c.mark-start.ensures.moment c.equate_constant.ensures.moments) ∙ c.requires.slots

pub returns-then-between-clause-moments : goal.returns-then-between-clause-moments
returns-then-between-clause-moments c = c.undo.ensures.moments c.args.store.now c.requires.store c.mark-start.ensures.moment c.equate_constant.ensures.moments

pub returns-else-between-clause-slots : goal.returns-else-between-clause-slots
returns-else-between-clause-slots c =
    ap (λ (s : Seen). length s.slots) (c.undo.ensures.back c.args.store.now c.requires.store c.mark-start.ensures.moment c.equate_constant.ensures.moments) ∙ c.requires.slots

pub returns-else-between-clause-moments : goal.returns-else-between-clause-moments
returns-else-between-clause-moments c = c.undo.ensures.moments c.args.store.now c.requires.store c.mark-start.ensures.moment c.equate_constant.ensures.moments
