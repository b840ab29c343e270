use Rattle.std.proofs.Common.{Bool, Ok, ◌≡◌, ◌+◌, List, ◌++◌, take, drop, length, replicate, ap, sym, subst, ◌∙◌, arith, rules}
use Rattle.cb_dd.specs.declared.Node.{Node}
use Rattle.cb_solution.proofs.Eliminated.{SpreadSo, spread-first, spread-next, spread-none, spread-stop}
use Rattle.cb_solution.proofs.Places.{whole-slice}
use Rattle.cb_solution.proofs.parts.spread.Goals as goal

pub loop-part-init : goal.loop-part-init
loop-part-init c = let e : c.resize.new.self.items ≡ replicate (length c.args.levels.now.keys) (record { 0 = 0 }) = search rules in spread-first c.args.levels.now.keys c.args.parts.now c.args.ops.now c.resize.new.self.items e

pub returns-in_err-add-clause-room : goal.returns-in_err-add-clause-room
returns-in_err-add-clause-room c =
    spread-stop c.loop-part.part-index c.args.levels.now.keys c.args.parts.now c.args.ops.now c.loop-part.ops c.add.new.ops c.loop-part.nodes.items c.loop-part.invariant c.requires.parts c.loop-part-test.true _ c.add.ensures.grows (rw c.deref_mut.ensures.value at c.add.ensures.room)

pub returns-then-not-branch-clause-none : goal.returns-then-not-branch-clause-none
returns-then-not-branch-clause-none c =
    spread-none c.loop-part.part-index c.args.levels.now.keys c.args.parts.now c.args.ops.now c.loop-part.ops c.add.new.ops c.loop-part.nodes.items c.loop-part.invariant c.requires.parts c.loop-part-test.true _ (c.in_ok-add.ensures.out (ap (λ (b : Bool). Ok b) c.if-not-branch.true))

pub returns-then-not-branch-clause-room : goal.returns-then-not-branch-clause-room
returns-then-not-branch-clause-room c =
    spread-stop c.loop-part.part-index c.args.levels.now.keys c.args.parts.now c.args.ops.now c.loop-part.ops c.add.new.ops c.loop-part.nodes.items c.loop-part.invariant c.requires.parts c.loop-part-test.true _ c.add.ensures.grows (rw c.deref_mut.ensures.value at c.add.ensures.room)

pub loop-part-preserved : goal.loop-part-preserved
loop-part-preserved c =
    let placed = (rw c.deref_mut.ensures.value at c.in_ok-add.ensures.placed) (ap (λ (b : Bool). Ok b) c.if-not-branch.false) in
    let n : c.loop-part.nodes.len ≡ length c.loop-part.nodes.items = (let o = c.loop-part.nodes.ok.0 in omega (arith, o)) in
    let e : take c.loop-part.nodes.len (c.add.new.nodes ++ drop (length c.add.new.nodes) c.loop-part.nodes.items) ≡ c.add.new.nodes = whole-slice c.loop-part.nodes.len c.add.new.nodes c.loop-part.nodes.items (placed.places.number ∙ sym c.loop-part.invariant.places.number) n in
    subst (λ (ms : List Node). SpreadSo (c.loop-part.part-index + 1) c.args.levels.now.keys c.args.parts.now c.args.ops.now c.add.new.ops ms) (sym e)
    (spread-next c.loop-part.part-index c.args.levels.now.keys c.args.parts.now c.args.ops.now c.loop-part.ops c.add.new.ops c.loop-part.nodes.items c.loop-part.invariant c.requires.parts c.loop-part-test.true _ c.add.ensures.grows (rw c.deref_mut.ensures.value at c.add.ensures.room) c.add.new.nodes placed c.in_ok-add.ensures.fulls)
