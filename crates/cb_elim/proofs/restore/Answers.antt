use Rattle.std.proofs.Common.{◌≡◌, ◌<◌, [], ◌∷◌, ◌++◌, length, refl, ◌∙◌}
use Rattle.std.proofs.lemmas.List.{length-set}
use Rattle.cb_elim.proofs.Back.{slots-step, trail-step, mark-step, within-step}
use Rattle.cb_elim.proofs.restore.Goals as goal

pub back-preserved : goal.back-preserved
back-preserved c =
    let e : c.back.trail ≡ c.undo_next.new.self ++ c.in-Some.change ∷ [] = c.in-Some.ensures.newest in
    let more : c.args.to < length c.back.trail = c.in-Some.ensures.some.0 refl in
    record {
      mark = mark-step c.args.to c.back.trail c.undo_next.new.self c.in-Some.change e more;
      within = within-step (length c.back.slots) _ c.back.trail c.undo_next.new.self c.in-Some.change e (length-set c.back.slots c.in-Some.change.slot c.in-Some.change.value) c.back.invariant.within;
      trail = trail-step c.args.to c.back.trail c.undo_next.new.self c.in-Some.change e more ∙ c.back.invariant.trail;
      slots = slots-step c.args.to c.back.trail c.undo_next.new.self c.back.slots c.in-Some.change e more ∙ c.back.invariant.slots;
    }
