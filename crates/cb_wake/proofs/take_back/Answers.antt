use Rattle.std.proofs.Common.{◌≡◌, ◌<◌, [], ◌∷◌, ◌++◌, length, refl, ◌∙◌, arith}
use Rattle.cb_wake.proofs.Back.{still-step, still-past, taken-step, mark-step}
use Rattle.cb_wake.proofs.take_back.Goals as goal

pub back-preserved-then-k-still : goal.back-preserved-then-k-still
back-preserved-then-k-still c =
    let e : c.back.taken ≡ c.undo_next.new.self ++ c.in-Some.k ∷ [] = c.in-Some.ensures.newest in
    let more : c.args.to < length c.back.taken = c.in-Some.ensures.some.0 refl in
    record {
      mark = mark-step c.args.to c.back.taken c.undo_next.new.self c.in-Some.k e more;
      taken = taken-step c.args.to c.back.taken c.undo_next.new.self c.in-Some.k e more ∙ c.back.invariant.taken;
      still = still-step c.args.to c.back.taken c.undo_next.new.self c.back.still c.in-Some.k e more ∙ c.back.invariant.still;
    }

pub back-preserved : goal.back-preserved
back-preserved c =
    let e : c.back.taken ≡ c.undo_next.new.self ++ c.in-Some.k ∷ [] = c.in-Some.ensures.newest in
    let more : c.args.to < length c.back.taken = c.in-Some.ensures.some.0 refl in
    record {
      mark = mark-step c.args.to c.back.taken c.undo_next.new.self c.in-Some.k e more;
      taken = taken-step c.args.to c.back.taken c.undo_next.new.self c.in-Some.k e more ∙ c.back.invariant.taken;
      still = still-past c.args.to c.back.taken c.undo_next.new.self c.back.still c.in-Some.k e more (omega arith) ∙ c.back.invariant.still;
    }
