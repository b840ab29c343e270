use Rattle.std.proofs.Common.{◌≡◌, ◌+◌, List, [], ◌∷◌, ◌++◌, length, get_or, subst, sym, ap, arith}
use Rattle.std.specs.Prelude.{ℕ, slice_set}
use Rattle.std.proofs.lemmas.Grind.{common_steps}
use Rattle.cb_trail.specs.Uses.{IsLinked}
use Rattle.cb_trail.specs.declared.uses.Use.{Use}
use Rattle.cb_trail.proofs.Linked.{read-at, same-linked, linked-more}
use Rattle.cb_trail.proofs.uses.add_to.Goals as goal

pub returns-in_err-push-clause-linked : goal.returns-in_err-push-clause-linked
returns-in_err-push-clause-linked c =
    let e : c.push.new.self.items ≡ c.args.before.now.items = grind (arith, common_steps) in
    subst (λ (bs : List ℕ). IsLinked c.args.uses.now.items bs c.make_room.new.last.items) (sym e)
    (same-linked c.args.uses.now.items c.args.before.now.items c.args.last.now.items c.make_room.new.last.items c.make_room.ensures.same c.requires)

pub returns-then-is_err-clause-linked : goal.returns-then-is_err-clause-linked
returns-then-is_err-clause-linked c =
    let e : c.pop.new.self.items ≡ c.args.before.now.items = grind (arith, common_steps) in
    let u : c.push-2.new.self.items ≡ c.args.uses.now.items = grind (arith, common_steps) in
    subst (λ (us : List Use). IsLinked us c.pop.new.self.items c.make_room.new.last.items) (sym u)
    (subst (λ (bs : List ℕ). IsLinked c.args.uses.now.items bs c.make_room.new.last.items) (sym e)
    (same-linked c.args.uses.now.items c.args.before.now.items c.args.last.now.items c.make_room.new.last.items c.make_room.ensures.same c.requires))

pub returns-clause-linked : goal.returns-clause-linked
returns-clause-linked c =
    let u : c.push-2.new.self.items ≡ c.args.uses.now.items ++ c.args.used ∷ [] = grind (arith, common_steps) in
    let n : c.index-newest.result.now ≡ get_or c.make_room.new.last.items c.args.used.level 0 = read-at c.make_room.new.last.items c.args.used.level c.index-newest.result.now c.in_ok-make_room.ensures.room c.index-newest.ensures in
    let b : c.push.new.self.items ≡ c.args.before.now.items ++ get_or c.make_room.new.last.items c.args.used.level 0 ∷ [] = grind (arith, common_steps) in
    let k : c.len.result ≡ length c.args.uses.now.items + 1 = grind (arith, common_steps) in
    subst (λ (us : List Use). IsLinked us c.push.new.self.items (slice_set c.make_room.new.last.items c.args.used.level c.len.result)) (sym u)
    (linked-more c.args.uses.now.items c.args.used c.args.before.now.items c.push.new.self.items c.make_room.new.last.items (slice_set c.make_room.new.last.items c.args.used.level c.len.result)
    (same-linked c.args.uses.now.items c.args.before.now.items c.args.last.now.items c.make_room.new.last.items c.make_room.ensures.same c.requires)
    c.in_ok-make_room.ensures.room b (ap (λ j. slice_set c.make_room.new.last.items c.args.used.level j) k))
