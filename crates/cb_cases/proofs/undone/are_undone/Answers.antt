use Rattle.std.proofs.Common.{length, ap, ◌∙◌}
use Rattle.cb_elim.specs.Store.{Seen}
use Rattle.cb_cases.proofs.Moments.{keeps-then}
use Rattle.cb_cases.proofs.undone.are_undone.Goals as goal

pub are_seen-first-requires-clause-moment : goal.are_seen-first-requires-clause-moment
are_seen-first-requires-clause-moment c = c.equate.ensures.moments.moments c.mark-start.result c.mark-start.ensures.is_moment

pub are_seen-still-requires-clause-moment : goal.are_seen-still-requires-clause-moment
are_seen-still-requires-clause-moment c = c.is_taken_back.ensures.moments.moments c.mark-start.result (c.equate.ensures.moments.moments c.mark-start.result c.mark-start.ensures.is_moment)

pub undo-requires-clause-moment : goal.undo-requires-clause-moment
undo-requires-clause-moment c = c.is_taken_back.ensures.moments.moments c.mark-start.result (c.equate.ensures.moments.moments c.mark-start.result c.mark-start.ensures.is_moment)

pub are_seen-last-requires-clause-slots : goal.are_seen-last-requires-clause-slots
are_seen-last-requires-clause-slots c =
    ap (λ (s : Seen). length s.slots) (c.undo.ensures.back c.args.store.now c.requires.store c.mark-start.ensures.moment (keeps-then c.args.store.now c.equate.new.store c.is_taken_back.new.store c.equate.ensures.moments c.is_taken_back.ensures.moments))
    ∙ c.requires.slots

pub are_seen-last-requires-clause-moment : goal.are_seen-last-requires-clause-moment
are_seen-last-requires-clause-moment c =
    (c.undo.ensures.moments c.args.store.now c.requires.store c.mark-start.ensures.moment (keeps-then c.args.store.now c.equate.new.store c.is_taken_back.new.store c.equate.ensures.moments c.is_taken_back.ensures.moments)).moments c.mark-start.result c.mark-start.ensures.is_moment
