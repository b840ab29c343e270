use Rattle.std.proofs.Common.{◌≡◌, ◌<◌, [], ◌∷◌, ◌++◌, length, refl, ◌∙◌}
use Rattle.std.proofs.lemmas.List.{length-set}
use Rattle.cb_heap.proofs.Back.{cells-step, trail-step, mark-step, within-step}
use Rattle.cb_heap.proofs.take_back.Goals as goal

pub back-preserved : goal.back-preserved
back-preserved c =
    let e : c.back.trail ≡ c.undo_next.new.self ++ c.in-Some.change ∷ [] = c.in-Some.ensures.newest in
    let more : c.args.to < length c.back.trail = c.in-Some.ensures.some.0 refl in
    record {
      mark = mark-step c.args.to c.back.trail c.undo_next.new.self c.in-Some.change e more;
      within = within-step (length c.back.cells) _ c.back.trail c.undo_next.new.self c.in-Some.change e (length-set c.back.cells c.in-Some.change.cell c.in-Some.change.old) c.back.invariant.within;
      trail = trail-step c.args.to c.back.trail c.undo_next.new.self c.in-Some.change e more ∙ c.back.invariant.trail;
      cells = cells-step c.args.to c.back.trail c.undo_next.new.self c.back.cells c.in-Some.change e more ∙ c.back.invariant.cells;
    }
