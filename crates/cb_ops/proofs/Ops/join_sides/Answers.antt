use Rattle.std.proofs.Common.{rules, [], ◌∷◌, sym, subst, ◌≡◌, ◌∙◌, ◌<◌, arith}
use Rattle.std.proofs.lemmas.Result.{err_from_is_err_and}
use Rattle.cb_ops.specs.Ops.{DependsOn}
use Rattle.cb_ops.specs.declared.walk.Step.TheVariants as step
use Rattle.cb_ops.specs.Walk.{sides_of}
use Rattle.cb_ops.proofs.Ite.{Grows-same, Grows-then}
use Rattle.cb_ops.proofs.Walks.{Walking, walk_work, walking-node, walking-same, walking-refused, walking-visit, walking-side, joined-room, walking-up, up-work, walking-answer, walking-room, all-grown, entered, entered-work}
use Rattle.cb_ops.proofs.Joins.{sides-stay, depends-on, as-asked, as-room, step-cause}
use Rattle.cb_ops.proofs.Ops.join_sides.Goals as goal

pub enter-requires-clause-node : goal.enter-requires-clause-node
enter-requires-clause-node c = walking-node (sides_of c.args.level c.args.sides) c.args.level 1 DependsOn c.args.self.now c.args.f c.loop-step.self c.in-Down.n c.loop-step.waiting.items c.loop-step.step c.in-Down.is c.loop-step.invariant.0

pub returns-in_err-step-in-Down-clause-room : goal.returns-in_err-step-in-Down-clause-room
returns-in_err-step-in-Down-clause-room c =
    let g = walking-same (sides_of c.args.level c.args.sides) c.args.level 1 DependsOn c.args.self.now c.args.f c.loop-step.self c.loop-step.waiting.items c.loop-step.step (step.Down c.in-Down.n) c.in-Down.is c.loop-step.invariant.0 in
    as-room c.args.self.now c.enter.new.self c.args.f.0 (Grows-then c.args.self.now c.loop-step.self c.enter.new.self c.loop-step.invariant.0.grows c.enter.ensures.grows) c.requires.node
    (walking-refused (sides_of c.args.level c.args.sides) c.args.level 1 DependsOn c.args.self.now (sides-stay c.args.level c.args.sides c.args.self.now) (depends-on c.args.self.now) c.loop-step.self c.enter.new.self c.args.f c.in-Down.n c.loop-step.waiting.items c.enter.new.waiting.items g c.enter.ensures.grows c.enter.ensures.diagram (as-asked c.loop-step.self c.enter.new.self c.in-Down.n.0 c.enter.ensures.room))

pub returns-in_err-step-in-Down-clause-nodes : goal.returns-in_err-step-in-Down-clause-nodes
returns-in_err-step-in-Down-clause-nodes c =
    let p = err_from_is_err_and c.from_residual.result c.from_residual.ensures.1 in
    rw (p.1, p.2) (step-cause (c.args.f.0 ∷ []) c.args.self.now c.loop-step.self c.enter.new.self c.in_err-step-in-Down.field-0.0 (returns-in_err-step-in-Down-clause-room c) (c.enter.ensures.grows.budget ∙ c.loop-step.invariant.0.grows.budget) c.loop-step.invariant.0.fulls c.in_err-step-in-Down.ensures.fulls c.in_err-step-in-Down.ensures.full)

pub loop-step-preserved-in-Down : goal.loop-step-preserved-in-Down
loop-step-preserved-in-Down c =
    let g = walking-same (sides_of c.args.level c.args.sides) c.args.level 1 DependsOn c.args.self.now c.args.f c.loop-step.self c.loop-step.waiting.items c.loop-step.step (step.Down c.in-Down.n) c.in-Down.is c.loop-step.invariant.0 in (
      entered (sides_of c.args.level c.args.sides) c.args.level 1 DependsOn c.args.self.now (sides-stay c.args.level c.args.sides c.args.self.now) (depends-on c.args.self.now) c.loop-step.self c.enter.new.self c.args.f c.in-Down.n c.loop-step.waiting.items c.enter.new.waiting.items g c.enter.ensures.grows c.enter.ensures.diagram c.in_ok-step-in-Down.ensures.fulls (as-asked c.loop-step.self c.enter.new.self c.in-Down.n.0 c.enter.ensures.room) c.in_ok-step-in-Down.step c.in_ok-step-in-Down.ensures.still c.in_ok-step-in-Down.ensures.down,
      all-grown (sides_of c.args.level c.args.sides) c.args.level c.args.self.now (sides-stay c.args.level c.args.sides c.args.self.now) c.loop-step.self c.enter.new.self c.loop-step.invariant.0.grows c.enter.ensures.grows c.loop-step.done c.loop-step.invariant.1,
    )

pub loop-step-smaller-in-Down : goal.loop-step-smaller-in-Down
loop-step-smaller-in-Down c =
    let g = walking-same (sides_of c.args.level c.args.sides) c.args.level 1 DependsOn c.args.self.now c.args.f c.loop-step.self c.loop-step.waiting.items c.loop-step.step (step.Down c.in-Down.n) c.in-Down.is c.loop-step.invariant.0 in
    subst (λ u. walk_work c.enter.new.self.triples c.enter.new.waiting.items c.in_ok-step-in-Down.step < walk_work c.loop-step.self.triples c.loop-step.waiting.items u) (sym c.in-Down.is)
    (entered-work (sides_of c.args.level c.args.sides) c.args.level 1 DependsOn c.args.self.now (sides-stay c.args.level c.args.sides c.args.self.now) (depends-on c.args.self.now) c.loop-step.self c.enter.new.self c.args.f c.in-Down.n c.loop-step.waiting.items c.enter.new.waiting.items g c.enter.ensures.grows c.enter.ensures.diagram c.in_ok-step-in-Down.step c.in_ok-step-in-Down.ensures.still c.in_ok-step-in-Down.ensures.down)

pub returns-in_default-clause-function : goal.returns-in_default-clause-function
returns-in_default-clause-function c =
    let none : c.loop-step.waiting.items ≡ [] = search rules in
    let g = walking-same (sides_of c.args.level c.args.sides) c.args.level 1 DependsOn c.args.self.now c.args.f c.loop-step.self c.loop-step.waiting.items c.loop-step.step (step.Up c.in-Up.r) c.in-Up.is c.loop-step.invariant.0 in
    let e = subst (λ xs. Walking (sides_of c.args.level c.args.sides) c.args.level 1 DependsOn c.args.self.now c.loop-step.self c.args.f xs (step.Up c.in-Up.r)) none g in
    let m = walking-answer (sides_of c.args.level c.args.sides) c.args.level 1 DependsOn c.args.self.now c.loop-step.self c.args.f c.in-Up.r e in
    record { at = λ a. m.is a ∙ (sides-stay c.args.level c.args.sides c.args.self.now) c.args.self.now c.loop-step.self (Grows-same c.args.self.now) c.loop-step.invariant.0.grows c.args.f.0 c.requires.node a }

pub returns-in_default-clause-is_node : goal.returns-in_default-clause-is_node
returns-in_default-clause-is_node c =
    let none : c.loop-step.waiting.items ≡ [] = search rules in
    let g = walking-same (sides_of c.args.level c.args.sides) c.args.level 1 DependsOn c.args.self.now c.args.f c.loop-step.self c.loop-step.waiting.items c.loop-step.step (step.Up c.in-Up.r) c.in-Up.is c.loop-step.invariant.0 in
    let e = subst (λ xs. Walking (sides_of c.args.level c.args.sides) c.args.level 1 DependsOn c.args.self.now c.loop-step.self c.args.f xs (step.Up c.in-Up.r)) none g in
    (walking-answer (sides_of c.args.level c.args.sides) c.args.level 1 DependsOn c.args.self.now c.loop-step.self c.args.f c.in-Up.r e).answer

pub returns-in_default-clause-room : goal.returns-in_default-clause-room
returns-in_default-clause-room c =
    as-room c.args.self.now c.loop-step.self c.args.f.0 c.loop-step.invariant.0.grows c.requires.node (walking-room (sides_of c.args.level c.args.sides) c.args.level 1 DependsOn c.args.self.now c.loop-step.self c.args.f c.loop-step.waiting.items c.loop-step.step c.loop-step.invariant.0)

pub leave-requires-clause-visit : goal.leave-requires-clause-visit
leave-requires-clause-visit c =
    let g = walking-same (sides_of c.args.level c.args.sides) c.args.level 1 DependsOn c.args.self.now c.args.f c.loop-step.self c.loop-step.waiting.items c.loop-step.step (step.Up c.in-Up.r) c.in-Up.is c.loop-step.invariant.0 in
    walking-visit (sides_of c.args.level c.args.sides) c.args.level 1 DependsOn c.args.self.now (sides-stay c.args.level c.args.sides c.args.self.now) (depends-on c.args.self.now) c.loop-step.self c.loop-step.self c.args.f c.loop-step.waiting.items [] c.pop.new.self.items c.in-Some.top c.in-Up.r c.in-Some.ensures.items g

pub leave-requires-clause-side : goal.leave-requires-clause-side
leave-requires-clause-side c =
    let g = walking-same (sides_of c.args.level c.args.sides) c.args.level 1 DependsOn c.args.self.now c.args.f c.loop-step.self c.loop-step.waiting.items c.loop-step.step (step.Up c.in-Up.r) c.in-Up.is c.loop-step.invariant.0 in
    walking-side (sides_of c.args.level c.args.sides) c.args.level 1 DependsOn c.args.self.now (sides-stay c.args.level c.args.sides c.args.self.now) (depends-on c.args.self.now) c.loop-step.self c.loop-step.self c.args.f c.loop-step.waiting.items [] c.pop.new.self.items c.in-Some.top c.in-Up.r c.in-Some.ensures.items g

pub returns-in_err-step-in-Up-clause-room : goal.returns-in_err-step-in-Up-clause-room
returns-in_err-step-in-Up-clause-room c =
    let g = walking-same (sides_of c.args.level c.args.sides) c.args.level 1 DependsOn c.args.self.now c.args.f c.loop-step.self c.loop-step.waiting.items c.loop-step.step (step.Up c.in-Up.r) c.in-Up.is c.loop-step.invariant.0 in
    as-room c.args.self.now c.leave.new.self c.args.f.0 (Grows-then c.args.self.now c.loop-step.self c.leave.new.self c.loop-step.invariant.0.grows c.leave.ensures.grows) c.requires.node
    (joined-room (sides_of c.args.level c.args.sides) c.args.level 1 DependsOn c.args.self.now (sides-stay c.args.level c.args.sides c.args.self.now) (depends-on c.args.self.now) c.loop-step.self c.leave.new.self c.args.f c.loop-step.waiting.items c.leave.new.waiting.items c.pop.new.self.items c.in-Some.top c.in-Up.r c.in-Some.ensures.items g c.leave.ensures.grows c.leave.ensures.diagram (λ ls d. let o = c.leave.ensures.one in omega (arith, o)))

pub returns-in_err-step-in-Up-clause-nodes : goal.returns-in_err-step-in-Up-clause-nodes
returns-in_err-step-in-Up-clause-nodes c =
    let p = err_from_is_err_and c.from_residual-in_err-step-in-Up.result c.from_residual-in_err-step-in-Up.ensures.1 in
    rw (p.1, p.2) (step-cause (c.args.f.0 ∷ []) c.args.self.now c.loop-step.self c.leave.new.self c.in_err-step-in-Up.field-0.0 (returns-in_err-step-in-Up-clause-room c) (c.leave.ensures.grows.budget ∙ c.loop-step.invariant.0.grows.budget) c.loop-step.invariant.0.fulls c.in_err-step-in-Up.ensures.fulls c.in_err-step-in-Up.ensures.full)

pub loop-step-smaller : goal.loop-step-smaller
loop-step-smaller c =
    let g = walking-same (sides_of c.args.level c.args.sides) c.args.level 1 DependsOn c.args.self.now c.args.f c.loop-step.self c.loop-step.waiting.items c.loop-step.step (step.Up c.in-Up.r) c.in-Up.is c.loop-step.invariant.0 in
    subst (λ u. walk_work c.leave.new.self.triples c.leave.new.waiting.items c.in_ok-step-in-Up.step < walk_work c.loop-step.self.triples c.loop-step.waiting.items u) (sym c.in-Up.is)
    (up-work (sides_of c.args.level c.args.sides) c.args.level 1 DependsOn c.args.self.now (sides-stay c.args.level c.args.sides c.args.self.now) (depends-on c.args.self.now) c.loop-step.self c.leave.new.self c.args.f c.loop-step.waiting.items c.leave.new.waiting.items c.pop.new.self.items c.in-Some.top c.in-Up.r c.in-Some.ensures.items g c.leave.ensures.grows c.leave.ensures.diagram (λ ls d. let o = c.leave.ensures.one in omega (arith, o)) c.in_ok-step-in-Up.step c.in_ok-step-in-Up.ensures.up)

pub loop-step-preserved : goal.loop-step-preserved
loop-step-preserved c =
    let g = walking-same (sides_of c.args.level c.args.sides) c.args.level 1 DependsOn c.args.self.now c.args.f c.loop-step.self c.loop-step.waiting.items c.loop-step.step (step.Up c.in-Up.r) c.in-Up.is c.loop-step.invariant.0 in (
      walking-up (sides_of c.args.level c.args.sides) c.args.level 1 DependsOn c.args.self.now (sides-stay c.args.level c.args.sides c.args.self.now) (depends-on c.args.self.now) c.loop-step.self c.leave.new.self c.args.f c.loop-step.waiting.items c.leave.new.waiting.items c.pop.new.self.items c.in-Some.top c.in-Up.r c.in-Some.ensures.items g c.leave.ensures.grows c.leave.ensures.diagram (λ ls d. let o = c.leave.ensures.one in omega (arith, o)) c.in_ok-step-in-Up.step c.in_ok-step-in-Up.ensures.fulls c.in_ok-step-in-Up.ensures.up,
      c.in_ok-step-in-Up.ensures.done,
    )
