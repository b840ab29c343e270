use Rattle.std.proofs.Common.{ℕ, List, length, ◌^◌, rules, [], sym, subst, ◌≡◌, ◌∙◌, ◌<◌}
use Rattle.std.proofs.lemmas.Result.{err_from_is_err_and}
use Rattle.cb_ops.specs.declared.walk.Step.TheVariants as step
use Rattle.cb_ops.specs.Walk.{images_of}
use Rattle.cb_ops.proofs.Ite.{Grows-same, Grows-then}
use Rattle.cb_ops.proofs.Substitute.{grown-nodes}
use Rattle.cb_ops.proofs.Walks.{Walking, walk_work, walking-start, walking-node, walking-same, walking-visit, walking-side, walking-trail, joined-room, walking-up, up-work, walking-answer, walking-room, went-down, went-work}
use Rattle.cb_ops.proofs.Made.{made-ok}
use Rattle.cb_ops.proofs.Replaced.{spread, no_levels, images-stay, spread-is, put-one, images-full, images-cause, as-made, as-substituted}
use Rattle.cb_ops.proofs.Ops.substitute_in.Goals as goal

pub visit-requires-clause-node : goal.visit-requires-clause-node
visit-requires-clause-node c = walking-node (images_of c.args.list.now) (2 ^ 32) (2 ^ length no_levels) (spread c.args.list.now no_levels) c.args.self.now c.args.f c.loop-step.self c.in-Down.n c.loop-step.waiting.items c.loop-step.step c.in-Down.is c.loop-step.invariant.0

pub returns-in_err-step-in-Down-clause-room : goal.returns-in_err-step-in-Down-clause-room
returns-in_err-step-in-Down-clause-room c =
    images-full c.args.list.now c.args.self.now c.loop-step.self c.args.f.0 c.loop-step.invariant.0.grows c.requires.f c.requires.nodes (λ second. walking-room (images_of c.args.list.now) (2 ^ 32) (2 ^ length second) (spread c.args.list.now second) c.args.self.now c.loop-step.self c.args.f c.loop-step.waiting.items c.loop-step.step (c.loop-step.invariant.1 second))

pub returns-in_err-step-in-Down-clause-done : goal.returns-in_err-step-in-Down-clause-done
returns-in_err-step-in-Down-clause-done c = as-substituted c.loop-step.done c.loop-step.self.triples c.args.list.now c.loop-step.invariant.2

pub loop-step-init : goal.loop-step-init
loop-step-init c =
    let none : c.new-waiting.result.items ≡ [] = search rules in (
      subst (λ xs. Walking (images_of c.args.list.now) (2 ^ 32) (2 ^ length no_levels) (spread c.args.list.now no_levels) c.args.self.now c.args.self.now c.args.f xs (step.Down c.args.f)) (sym none) (walking-start (images_of c.args.list.now) (2 ^ 32) (2 ^ length no_levels) (spread c.args.list.now no_levels) c.args.self.now c.args.f c.count-count.ensures.diagram c.requires.f),
      (λ (second : List ℕ). subst (λ xs. Walking (images_of c.args.list.now) (2 ^ 32) (2 ^ length second) (spread c.args.list.now second) c.args.self.now c.args.self.now c.args.f xs (step.Down c.args.f)) (sym none) (walking-start (images_of c.args.list.now) (2 ^ 32) (2 ^ length second) (spread c.args.list.now second) c.args.self.now c.args.f c.count-count.ensures.diagram c.requires.f)),
      as-made c.args.done.now c.args.self.now.triples c.args.list.now c.requires.done,
    )

pub loop-step-preserved-in-Down : goal.loop-step-preserved-in-Down
loop-step-preserved-in-Down c = (
  (let g = walking-same (images_of c.args.list.now) (2 ^ 32) (2 ^ length no_levels) (spread c.args.list.now no_levels) c.args.self.now c.args.f c.loop-step.self c.loop-step.waiting.items c.loop-step.step (step.Down c.in-Down.n) c.in-Down.is (c.loop-step.invariant.0) in
      went-down (images_of c.args.list.now) (2 ^ 32) (2 ^ length no_levels) (spread c.args.list.now no_levels) c.args.self.now (images-stay c.args.list.now c.args.self.now c.requires.nodes) (spread-is c.args.list.now c.args.self.now c.requires.nodes no_levels) c.loop-step.self c.args.f c.in-Down.n c.loop-step.waiting.items c.visit.new.waiting.items g c.in_ok-step-in-Down.step c.in_ok-step-in-Down.ensures.down),
  (λ (second : List ℕ).
      let g = walking-same (images_of c.args.list.now) (2 ^ 32) (2 ^ length second) (spread c.args.list.now second) c.args.self.now c.args.f c.loop-step.self c.loop-step.waiting.items c.loop-step.step (step.Down c.in-Down.n) c.in-Down.is (c.loop-step.invariant.1 second) in
      went-down (images_of c.args.list.now) (2 ^ 32) (2 ^ length second) (spread c.args.list.now second) c.args.self.now (images-stay c.args.list.now c.args.self.now c.requires.nodes) (spread-is c.args.list.now c.args.self.now c.requires.nodes second) c.loop-step.self c.args.f c.in-Down.n c.loop-step.waiting.items c.visit.new.waiting.items g c.in_ok-step-in-Down.step c.in_ok-step-in-Down.ensures.down),
  c.loop-step.invariant.2,
)

pub loop-step-smaller-in-Down : goal.loop-step-smaller-in-Down
loop-step-smaller-in-Down c =
    let g = walking-same (images_of c.args.list.now) (2 ^ 32) (2 ^ length no_levels) (spread c.args.list.now no_levels) c.args.self.now c.args.f c.loop-step.self c.loop-step.waiting.items c.loop-step.step (step.Down c.in-Down.n) c.in-Down.is (c.loop-step.invariant.0) in
    subst (λ u. walk_work c.loop-step.self.triples c.visit.new.waiting.items c.in_ok-step-in-Down.step < walk_work c.loop-step.self.triples c.loop-step.waiting.items u) (sym c.in-Down.is)
    (went-work (images_of c.args.list.now) (2 ^ 32) (2 ^ length no_levels) (spread c.args.list.now no_levels) c.args.self.now (images-stay c.args.list.now c.args.self.now c.requires.nodes) (spread-is c.args.list.now c.args.self.now c.requires.nodes no_levels) c.loop-step.self c.args.f c.in-Down.n c.loop-step.waiting.items c.visit.new.waiting.items g c.in_ok-step-in-Down.step c.in_ok-step-in-Down.ensures.down)

pub returns-in_default-clause-function : goal.returns-in_default-clause-function
returns-in_default-clause-function c =
    let none : c.loop-step.waiting.items ≡ [] = search rules in
    let g = walking-same (images_of c.args.list.now) (2 ^ 32) (2 ^ length no_levels) (spread c.args.list.now no_levels) c.args.self.now c.args.f c.loop-step.self c.loop-step.waiting.items c.loop-step.step (step.Up c.in-Up.r) c.in-Up.is (c.loop-step.invariant.0) in
    let e = subst (λ xs. Walking (images_of c.args.list.now) (2 ^ 32) (2 ^ length no_levels) (spread c.args.list.now no_levels) c.args.self.now c.loop-step.self c.args.f xs (step.Up c.in-Up.r)) none g in
    let m = walking-answer (images_of c.args.list.now) (2 ^ 32) (2 ^ length no_levels) (spread c.args.list.now no_levels) c.args.self.now c.loop-step.self c.args.f c.in-Up.r e in
    record { at = λ a. m.is a ∙ (images-stay c.args.list.now c.args.self.now c.requires.nodes) c.args.self.now c.loop-step.self (Grows-same c.args.self.now) c.loop-step.invariant.0.grows c.args.f.0 c.requires.f a }

pub returns-in_default-clause-made : goal.returns-in_default-clause-made
returns-in_default-clause-made c =
    let none : c.loop-step.waiting.items ≡ [] = search rules in
    let g = walking-same (images_of c.args.list.now) (2 ^ 32) (2 ^ length no_levels) (spread c.args.list.now no_levels) c.args.self.now c.args.f c.loop-step.self c.loop-step.waiting.items c.loop-step.step (step.Up c.in-Up.r) c.in-Up.is (c.loop-step.invariant.0) in
    let e = subst (λ xs. Walking (images_of c.args.list.now) (2 ^ 32) (2 ^ length no_levels) (spread c.args.list.now no_levels) c.args.self.now c.loop-step.self c.args.f xs (step.Up c.in-Up.r)) none g in
    let i = c.loop-step.invariant.0 in
    made-ok c.args.self.now c.loop-step.self c.in-Up.r (walking-answer (images_of c.args.list.now) (2 ^ 32) (2 ^ length no_levels) (spread c.args.list.now no_levels) c.args.self.now c.loop-step.self c.args.f c.in-Up.r e).answer i.grows i.fulls i.diagram

pub returns-in_default-clause-room : goal.returns-in_default-clause-room
returns-in_default-clause-room c =
    images-full c.args.list.now c.args.self.now c.loop-step.self c.args.f.0 c.loop-step.invariant.0.grows c.requires.f c.requires.nodes (λ second. walking-room (images_of c.args.list.now) (2 ^ 32) (2 ^ length second) (spread c.args.list.now second) c.args.self.now c.loop-step.self c.args.f c.loop-step.waiting.items c.loop-step.step (c.loop-step.invariant.1 second))

pub returns-in_default-clause-done : goal.returns-in_default-clause-done
returns-in_default-clause-done c = as-substituted c.loop-step.done c.loop-step.self.triples c.args.list.now c.loop-step.invariant.2

pub put_in-requires-clause-visit : goal.put_in-requires-clause-visit
put_in-requires-clause-visit c =
    walking-visit (images_of c.args.list.now) (2 ^ 32) (2 ^ length no_levels) (spread c.args.list.now no_levels) c.args.self.now (images-stay c.args.list.now c.args.self.now c.requires.nodes) (spread-is c.args.list.now c.args.self.now c.requires.nodes no_levels) c.loop-step.self c.loop-step.self c.args.f c.loop-step.waiting.items [] c.pop.new.self.items c.in-Some.top c.in-Up.r c.in-Some.ensures.items (walking-same (images_of c.args.list.now) (2 ^ 32) (2 ^ length no_levels) (spread c.args.list.now no_levels) c.args.self.now c.args.f c.loop-step.self c.loop-step.waiting.items c.loop-step.step (step.Up c.in-Up.r) c.in-Up.is (c.loop-step.invariant.0))

pub put_in-requires-clause-side : goal.put_in-requires-clause-side
put_in-requires-clause-side c =
    walking-side (images_of c.args.list.now) (2 ^ 32) (2 ^ length no_levels) (spread c.args.list.now no_levels) c.args.self.now (images-stay c.args.list.now c.args.self.now c.requires.nodes) (spread-is c.args.list.now c.args.self.now c.requires.nodes no_levels) c.loop-step.self c.loop-step.self c.args.f c.loop-step.waiting.items [] c.pop.new.self.items c.in-Some.top c.in-Up.r c.in-Some.ensures.items (walking-same (images_of c.args.list.now) (2 ^ 32) (2 ^ length no_levels) (spread c.args.list.now no_levels) c.args.self.now c.args.f c.loop-step.self c.loop-step.waiting.items c.loop-step.step (step.Up c.in-Up.r) c.in-Up.is (c.loop-step.invariant.0))

pub put_in-requires-clause-nodes : goal.put_in-requires-clause-nodes
put_in-requires-clause-nodes c = grown-nodes c.args.self.now c.loop-step.self c.loop-step.invariant.0.grows c.args.list.now c.requires.nodes

pub returns-in_err-step-in-Up-clause-room : goal.returns-in_err-step-in-Up-clause-room
returns-in_err-step-in-Up-clause-room c =
    images-full c.args.list.now c.args.self.now c.put_in.new.self c.args.f.0 (Grows-then c.args.self.now c.loop-step.self c.put_in.new.self c.loop-step.invariant.0.grows c.put_in.ensures.grows) c.requires.f c.requires.nodes
    (λ second. joined-room (images_of c.args.list.now) (2 ^ 32) (2 ^ length second) (spread c.args.list.now second) c.args.self.now (images-stay c.args.list.now c.args.self.now c.requires.nodes) (spread-is c.args.list.now c.args.self.now c.requires.nodes second) c.loop-step.self c.put_in.new.self c.args.f c.loop-step.waiting.items c.put_in.new.waiting.items c.pop.new.self.items c.in-Some.top c.in-Up.r c.in-Some.ensures.items (walking-same (images_of c.args.list.now) (2 ^ 32) (2 ^ length second) (spread c.args.list.now second) c.args.self.now c.args.f c.loop-step.self c.loop-step.waiting.items c.loop-step.step (step.Up c.in-Up.r) c.in-Up.is (c.loop-step.invariant.1 second)) c.put_in.ensures.grows c.put_in.ensures.diagram (put-one c.args.list.now c.args.self.now c.loop-step.self c.put_in.new.self c.loop-step.invariant.0.grows c.requires.nodes second c.args.f c.pop.new.self.items c.in-Some.top (walking-trail (images_of c.args.list.now) (2 ^ 32) (2 ^ length second) (spread c.args.list.now second) c.args.self.now c.loop-step.self c.args.f c.loop-step.waiting.items c.pop.new.self.items c.in-Some.top c.in-Up.r c.in-Some.ensures.items (walking-same (images_of c.args.list.now) (2 ^ 32) (2 ^ length second) (spread c.args.list.now second) c.args.self.now c.args.f c.loop-step.self c.loop-step.waiting.items c.loop-step.step (step.Up c.in-Up.r) c.in-Up.is (c.loop-step.invariant.1 second))) c.put_in.ensures.room))

pub returns-in_err-step-in-Up-clause-nodes : goal.returns-in_err-step-in-Up-clause-nodes
returns-in_err-step-in-Up-clause-nodes c =
    let p = err_from_is_err_and c.from_residual-in_err-step-in-Up.result c.from_residual-in_err-step-in-Up.ensures.1 in
    rw (p.1, p.2) (images-cause c.args.list.now c.args.f.0 c.args.self.now c.loop-step.self c.put_in.new.self c.in_err-step-in-Up.field-0.0 (returns-in_err-step-in-Up-clause-room c) (c.put_in.ensures.grows.budget ∙ c.loop-step.invariant.0.grows.budget) c.loop-step.invariant.0.fulls c.in_err-step-in-Up.ensures.fulls c.in_err-step-in-Up.ensures.full)

pub returns-in_err-step-in-Up-clause-done : goal.returns-in_err-step-in-Up-clause-done
returns-in_err-step-in-Up-clause-done c = as-substituted c.put_in.new.done c.put_in.new.self.triples c.args.list.now c.put_in.ensures.done

pub loop-step-smaller : goal.loop-step-smaller
loop-step-smaller c =
    subst (λ u. walk_work c.put_in.new.self.triples c.put_in.new.waiting.items c.in_ok-step-in-Up.step < walk_work c.loop-step.self.triples c.loop-step.waiting.items u) (sym c.in-Up.is)
    (up-work (images_of c.args.list.now) (2 ^ 32) (2 ^ length no_levels) (spread c.args.list.now no_levels) c.args.self.now (images-stay c.args.list.now c.args.self.now c.requires.nodes) (spread-is c.args.list.now c.args.self.now c.requires.nodes no_levels) c.loop-step.self c.put_in.new.self c.args.f c.loop-step.waiting.items c.put_in.new.waiting.items c.pop.new.self.items c.in-Some.top c.in-Up.r c.in-Some.ensures.items (walking-same (images_of c.args.list.now) (2 ^ 32) (2 ^ length no_levels) (spread c.args.list.now no_levels) c.args.self.now c.args.f c.loop-step.self c.loop-step.waiting.items c.loop-step.step (step.Up c.in-Up.r) c.in-Up.is (c.loop-step.invariant.0)) c.put_in.ensures.grows c.put_in.ensures.diagram (put-one c.args.list.now c.args.self.now c.loop-step.self c.put_in.new.self c.loop-step.invariant.0.grows c.requires.nodes no_levels c.args.f c.pop.new.self.items c.in-Some.top (walking-trail (images_of c.args.list.now) (2 ^ 32) (2 ^ length no_levels) (spread c.args.list.now no_levels) c.args.self.now c.loop-step.self c.args.f c.loop-step.waiting.items c.pop.new.self.items c.in-Some.top c.in-Up.r c.in-Some.ensures.items (walking-same (images_of c.args.list.now) (2 ^ 32) (2 ^ length no_levels) (spread c.args.list.now no_levels) c.args.self.now c.args.f c.loop-step.self c.loop-step.waiting.items c.loop-step.step (step.Up c.in-Up.r) c.in-Up.is (c.loop-step.invariant.0))) c.put_in.ensures.room) c.in_ok-step-in-Up.step c.in_ok-step-in-Up.ensures.up)

pub loop-step-preserved : goal.loop-step-preserved
loop-step-preserved c = (
  walking-up (images_of c.args.list.now) (2 ^ 32) (2 ^ length no_levels) (spread c.args.list.now no_levels) c.args.self.now (images-stay c.args.list.now c.args.self.now c.requires.nodes) (spread-is c.args.list.now c.args.self.now c.requires.nodes no_levels) c.loop-step.self c.put_in.new.self c.args.f c.loop-step.waiting.items c.put_in.new.waiting.items c.pop.new.self.items c.in-Some.top c.in-Up.r c.in-Some.ensures.items (walking-same (images_of c.args.list.now) (2 ^ 32) (2 ^ length no_levels) (spread c.args.list.now no_levels) c.args.self.now c.args.f c.loop-step.self c.loop-step.waiting.items c.loop-step.step (step.Up c.in-Up.r) c.in-Up.is (c.loop-step.invariant.0)) c.put_in.ensures.grows c.put_in.ensures.diagram (put-one c.args.list.now c.args.self.now c.loop-step.self c.put_in.new.self c.loop-step.invariant.0.grows c.requires.nodes no_levels c.args.f c.pop.new.self.items c.in-Some.top (walking-trail (images_of c.args.list.now) (2 ^ 32) (2 ^ length no_levels) (spread c.args.list.now no_levels) c.args.self.now c.loop-step.self c.args.f c.loop-step.waiting.items c.pop.new.self.items c.in-Some.top c.in-Up.r c.in-Some.ensures.items (walking-same (images_of c.args.list.now) (2 ^ 32) (2 ^ length no_levels) (spread c.args.list.now no_levels) c.args.self.now c.args.f c.loop-step.self c.loop-step.waiting.items c.loop-step.step (step.Up c.in-Up.r) c.in-Up.is (c.loop-step.invariant.0))) c.put_in.ensures.room) c.in_ok-step-in-Up.step c.in_ok-step-in-Up.ensures.fulls c.in_ok-step-in-Up.ensures.up,
  (λ (second : List ℕ). walking-up (images_of c.args.list.now) (2 ^ 32) (2 ^ length second) (spread c.args.list.now second) c.args.self.now (images-stay c.args.list.now c.args.self.now c.requires.nodes) (spread-is c.args.list.now c.args.self.now c.requires.nodes second) c.loop-step.self c.put_in.new.self c.args.f c.loop-step.waiting.items c.put_in.new.waiting.items c.pop.new.self.items c.in-Some.top c.in-Up.r c.in-Some.ensures.items (walking-same (images_of c.args.list.now) (2 ^ 32) (2 ^ length second) (spread c.args.list.now second) c.args.self.now c.args.f c.loop-step.self c.loop-step.waiting.items c.loop-step.step (step.Up c.in-Up.r) c.in-Up.is (c.loop-step.invariant.1 second)) c.put_in.ensures.grows c.put_in.ensures.diagram (put-one c.args.list.now c.args.self.now c.loop-step.self c.put_in.new.self c.loop-step.invariant.0.grows c.requires.nodes second c.args.f c.pop.new.self.items c.in-Some.top (walking-trail (images_of c.args.list.now) (2 ^ 32) (2 ^ length second) (spread c.args.list.now second) c.args.self.now c.loop-step.self c.args.f c.loop-step.waiting.items c.pop.new.self.items c.in-Some.top c.in-Up.r c.in-Some.ensures.items (walking-same (images_of c.args.list.now) (2 ^ 32) (2 ^ length second) (spread c.args.list.now second) c.args.self.now c.args.f c.loop-step.self c.loop-step.waiting.items c.loop-step.step (step.Up c.in-Up.r) c.in-Up.is (c.loop-step.invariant.1 second))) c.put_in.ensures.room) c.in_ok-step-in-Up.step c.in_ok-step-in-Up.ensures.fulls c.in_ok-step-in-Up.ensures.up),
  c.put_in.ensures.done,
)
