use Rattle.std.proofs.Common.{List, ℕ, [], ◌∷◌, take, get_or, sym, subst, arith}
use Rattle.std.proofs.lemmas.List.{take_more}
use Rattle.std.proofs.lemmas.List.Elements.{Contains-get_or}
use Rattle.cb_marking.specs.Search.{Visited}
use Rattle.cb_marking.proofs.Seen.{Visited-append}
use Rattle.cb_marking.proofs.links.visit_all.Goals as goal

pub visit-requires : goal.visit-requires
visit-requires c =
    let xs = c.args.things.now in
    omega (arith, c.requires (get_or xs c.loop-thing.thing-index 0) (Contains-get_or xs c.loop-thing.thing-index 0 c.loop-thing-test.true), c.loop-thing.invariant.len)

pub loop-thing-preserved : goal.loop-thing-preserved
loop-thing-preserved c =
    let xs = c.args.things.now in
    let i = c.loop-thing.thing-index in
    subst (λ (l : List ℕ). Visited l c.args.seen.now c.args.waiting.now c.visit.new.seen c.visit.new.waiting) (sym (take_more xs i 0 c.loop-thing-test.true))
    (Visited-append (take i xs) (get_or xs i 0 ∷ []) c.args.seen.now c.args.waiting.now c.loop-thing.seen c.loop-thing.waiting c.visit.new.seen c.visit.new.waiting c.loop-thing.invariant c.in_ok-visit.ensures)
