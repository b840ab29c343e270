use Rattle.std.proofs.Common.{◌≡◌, ℕ, ◌+◌, ◌<◌, List, [], ◌∷◌, length, take, get_or, subst, ap, ◌∙◌, arith, rules, length-append, get_or-take}
use Rattle.std.specs.Prelude.{slice_set}
use Rattle.std.proofs.lemmas.List.{length-take-le}
use Rattle.cb_trail.specs.Uses.{IsLinked}
use Rattle.cb_trail.specs.declared.uses.Use.{Use}
use Rattle.cb_trail.proofs.Linked.{level-room, linked-less, read-at, stays-less, stays-then}
use Rattle.cb_trail.proofs.uses.cut_from.Goals as goal

pub index_mut-requires : goal.index_mut-requires
index_mut-requires c =
    let h : c.in-Some.used.level < length c.cut.last.items
    = level-room c.take_past.new.uses.items c.in-Some.used c.cut.before.items c.cut.last.items (subst (λ (us : List Use). IsLinked us c.cut.before.items c.cut.last.items) c.in-Some.ensures.taken.0 c.cut.invariant.linked) in
    search (rules, h)

pub cut-preserved : goal.cut-preserved
cut-preserved c =
    let n : c.len-number.result ≡ length c.take_past.new.uses.items = search rules in
    let all : length c.cut.uses.items ≡ length c.take_past.new.uses.items + 1 = ap length c.in-Some.ensures.taken.0 ∙ length-append c.take_past.new.uses.items (c.in-Some.used ∷ []) in
    let long : length c.cut.before.items ≡ length c.cut.uses.items = c.cut.invariant.linked.number in
    let b : c.index.result.now ≡ get_or c.cut.before.items (length c.take_past.new.uses.items) 0
    = read-at c.cut.before.items c.len-number.result c.index.result.now (omega arith) c.index.ensures ∙ ap (λ k. get_or c.cut.before.items k 0) n in
    let t : c.truncate.new.self.items ≡ take (length c.take_past.new.uses.items) c.cut.before.items = c.truncate.ensures.items ∙ ap (λ k. take k c.cut.before.items) n in
    record {
      linked = linked-less c.take_past.new.uses.items c.in-Some.used c.cut.uses.items c.cut.before.items c.truncate.new.self.items c.cut.last.items (slice_set c.cut.last.items c.in-Some.used.level c.index.result.now) c.in-Some.ensures.taken.0 c.cut.invariant.linked
          (λ i h. ap (λ (xs : List ℕ). get_or xs i 0) t ∙ get_or-take (length c.take_past.new.uses.items) c.cut.before.items i 0 h)
          (ap length t ∙ length-take-le (length c.take_past.new.uses.items) c.cut.before.items (omega arith))
          (ap (λ k. slice_set c.cut.last.items c.in-Some.used.level k) b);
      stays = stays-then c.args.slots c.args.changes c.args.uses.now.items c.cut.uses.items c.take_past.new.uses.items c.cut.invariant.stays
          (stays-less c.args.slots c.args.changes c.cut.uses.items c.take_past.new.uses.items c.in-Some.used c.in-Some.ensures.taken.0 c.in-Some.ensures.taken.1);
    }
