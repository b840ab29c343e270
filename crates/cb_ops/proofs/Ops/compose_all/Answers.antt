use Rattle.std.proofs.Common.{ℕ, List, Err, subst, sym}
use Rattle.std.proofs.lemmas.Result.{err_from_is_err_and}
use Rattle.std.specs.List.{Contains}
use Rattle.std.specs.List.Sorted.{IsStrictlyIncreasing}
use Rattle.cb_ops.specs.Ops.{DependsOn, IsFree}
use Rattle.cb_ops.proofs.Substitute.{grown-nodes}
use Rattle.cb_ops.proofs.Made.{made-on, made-ok}
use Rattle.cb_ops.proofs.Turns.{composing-first, composing-next, composing-stop, composing-cause, composing-done, composing-room}
use Rattle.cb_ops.proofs.Ops.compose_all.Goals as goal

pub loop-level-init : goal.loop-level-init
loop-level-init c = composing-first c.args.f.0 c.args.list.now c.as_slice-level-items.result.now c.args.self.now c.requires.f c.count-count.ensures.diagram

pub compose_at-requires-clause-f : goal.compose_at-requires-clause-f
compose_at-requires-clause-f c = c.loop-level.invariant.node

pub compose_at-requires-clause-nodes : goal.compose_at-requires-clause-nodes
compose_at-requires-clause-nodes c = grown-nodes c.args.self.now c.loop-level.self c.loop-level.invariant.grows c.args.list.now c.requires.nodes

pub returns-in_err-n-clause-room : goal.returns-in_err-n-clause-room
returns-in_err-n-clause-room c =
    composing-stop c.loop-level.level-index c.args.f.0 c.args.list.now c.as_slice-level-items.result.now c.args.self.now c.loop-level.self c.compose_at.new.self c.loop-level.n.0 c.requires.nodes c.loop-level.invariant
    (subst IsStrictlyIncreasing (sym c.as_slice-level-items.ensures) c.in-Ok.ensures.rise)
    (subst (λ (xs : List ℕ). (l : ℕ) → Contains xs l → IsFree c.args.self.now.triples c.args.f.0 l → ⊥) (sym c.as_slice-level-items.ensures) c.in-Ok.ensures.needed)
    c.loop-level-test.true c.compose_at.ensures.room

pub returns-in_err-n-clause-nodes : goal.returns-in_err-n-clause-nodes
returns-in_err-n-clause-nodes c =
    let p = err_from_is_err_and c.from_residual.result c.from_residual.ensures.1 in
    rw (p.1, p.2) (composing-cause c.loop-level.level-index c.args.f.0 c.args.list.now c.as_slice-level-items.result.now c.args.self.now c.loop-level.self c.compose_at.new.self c.loop-level.n.0 c.requires.nodes c.loop-level.invariant
    (subst IsStrictlyIncreasing (sym c.as_slice-level-items.ensures) c.in-Ok.ensures.rise)
    (subst (λ (xs : List ℕ). (l : ℕ) → Contains xs l → IsFree c.args.self.now.triples c.args.f.0 l → ⊥) (sym c.as_slice-level-items.ensures) c.in-Ok.ensures.needed)
    c.loop-level-test.true c.compose_at.ensures.room _ c.in_err-n.ensures.replaced c.compose_at.ensures.grows c.in_err-n.ensures.fulls c.in_err-n.ensures.full)

pub loop-level-preserved : goal.loop-level-preserved
loop-level-preserved c =
    composing-next c.loop-level.level-index c.args.f.0 c.args.list.now c.as_slice-level-items.result.now c.args.self.now c.loop-level.self c.compose_at.new.self c.loop-level.n.0 c.requires.nodes c.loop-level.invariant
    (subst IsStrictlyIncreasing (sym c.as_slice-level-items.ensures) c.in-Ok.ensures.rise)
    (subst (λ (xs : List ℕ). (l : ℕ) → Contains xs l → IsFree c.args.self.now.triples c.args.f.0 l → ⊥) (sym c.as_slice-level-items.ensures) c.in-Ok.ensures.needed)
    c.loop-level-test.true c.compose_at.ensures.room c.in_ok-n.n.0 c.requires.lower c.compose_at.ensures.grows c.compose_at.ensures.diagram c.in_ok-n.ensures.is_node c.in_ok-n.ensures.function c.in_ok-n.ensures.fulls

pub returns-clause-function : goal.returns-clause-function
returns-clause-function c =
    composing-done c.loop-level.level-index c.args.f.0 c.args.list.now c.as_slice-level-items.result.now c.args.self.now c.loop-level.self c.loop-level.n.0 c.loop-level.invariant c.loop-level-test.false
    (subst (DependsOn c.args.self.now.triples c.args.f.0) (sym c.as_slice-level-items.ensures) c.in-Ok.ensures.enough)

pub returns-clause-room : goal.returns-clause-room
returns-clause-room c =
    composing-room c.loop-level.level-index c.args.f.0 c.args.list.now c.as_slice-level-items.result.now c.args.self.now c.loop-level.self c.loop-level.n.0 c.loop-level.invariant
    (subst IsStrictlyIncreasing (sym c.as_slice-level-items.ensures) c.in-Ok.ensures.rise)
    (subst (λ (xs : List ℕ). (l : ℕ) → Contains xs l → IsFree c.args.self.now.triples c.args.f.0 l → ⊥) (sym c.as_slice-level-items.ensures) c.in-Ok.ensures.needed)

pub returns-in_err-n-clause-made : goal.returns-in_err-n-clause-made
returns-in_err-n-clause-made c =
    let p = err_from_is_err_and c.from_residual.result c.from_residual.ensures.1 in
    let i = c.loop-level.invariant in
    let e = c.in_err-n.ensures in
    rw (p.1, p.2) (made-on c.args.self.now c.loop-level.self c.compose_at.new.self (Err c.in_err-n.field-0.0) i.grows i.fulls
    (record { is_node = e.is_node; grows = e.grows; full = e.full; unbounded = e.unbounded; fulls = e.fulls; diagram = e.diagram }))

pub returns-clause-made : goal.returns-clause-made
returns-clause-made c = let i = c.loop-level.invariant in made-ok c.args.self.now c.loop-level.self c.loop-level.n i.node i.grows i.fulls i.diagram
