use Rattle.std.proofs.Common.{◌≡◌, ◌+◌, ◌-◌, ◌<◌, ◌≤◌, true, List, [], length, drop, rules, sym, ap, subst, ◌∙◌, arith}
use Rattle.std.specs.Prelude.{sum_by}
use Rattle.std.specs.List.{list_all}
use Rattle.std.proofs.Math.Seq.{drop-length}
use Rattle.cb_model.specs.declared.Expr.{Expr}
use Rattle.cb_model.specs.declared.Tree.TheVariants as tree
use Rattle.cb_model.specs.Room.{expr_size, tree_size}
use Rattle.cb_model.specs.Values.{in_scope}
use Rattle.cb_dd.specs.Diagram.{Store as Nodes}
use Rattle.cb_unify.specs.State.{Seen}
use Rattle.cb_unify.specs.Moments.{KeepsMoments}
use Rattle.cb_unify.specs.Trees.{IsTreeOf, bit_places, nodes_most}
use Rattle.cb_unify.proofs.Bounds.{bus-cause, bus-front, bus-room, bus-step, room-le}
use Rattle.cb_unify.proofs.Back.{keeps-then}
use Rattle.cb_unify.proofs.Written.{cons-at, element-scope, elements-scope, frame-more, more-cells, slots-later}
use Rattle.cb_unify.proofs.build.bus_cell.Goals as goal

pub end_cell-requires-clause-scope : goal.end_cell-requires-clause-scope
end_cell-requires-clause-scope c = (elements-scope c.args.state.now.store.constants (length c.args.frame.now) c.args.es.now c.args.tail c.requires.scope).1

pub loop-k-init : goal.loop-k-init
loop-k-init c =
    let s = c.args.state.now in
    let u = c.end_cell.new.state in
    let n = ap (λ (o : Nodes). length o.triples) c.end_cell.ensures.nodes in
    record {
      within = omega arith;
      bus = subst (λ (xs : List Expr). IsTreeOf s u c.args.frame.now (tree.Bus xs c.args.tail) c.in_ok-at.at.0) (sym (drop-length c.args.es.now)) c.in_ok-at.ensures.tree;
      slots = slots-later s u (bit_places (tree.Bus [] c.args.tail)) c.args.frame.now c.args.slots.now.items c.requires.state c.in_ok-at.ensures.tree.added c.requires.frame c.requires.slots;
      room = omega (arith, n);
      fulls = ap (λ (o : Nodes). o.fulls) c.end_cell.ensures.nodes;
    }

pub truth-requires-clause-frame : goal.truth-requires-clause-frame
truth-requires-clause-frame c =
    let s = c.args.state.now in
    frame-more (length s.heap.cells) (length c.loop-k.state.heap.cells) c.args.frame.now (more-cells s c.loop-k.state (bit_places (tree.Bus (drop c.loop-k.k c.args.es.now) c.args.tail)) c.loop-k.invariant.bus.added) c.requires.frame

pub truth-requires-clause-scope : goal.truth-requires-clause-scope
truth-requires-clause-scope c =
    let s = c.args.state.now in
    let h = (elements-scope s.store.constants (length c.args.frame.now) c.args.es.now c.args.tail c.requires.scope).0 in
    subst (λ (x : Expr). in_scope c.loop-k.state.store.constants (length c.args.frame.now) x ≡ true) (sym c.index-es-k.is)
    (element-scope c.loop-k.state.store.constants (length c.args.frame.now) c.args.es.now (c.loop-k.k - 1) c.index-es-k.result (let a = c.loop-k.invariant.within in let b = c.loop-k-test.true in omega arith)
    (subst (λ m. list_all (in_scope m (length c.args.frame.now)) c.args.es.now ≡ true) (sym c.loop-k.invariant.bus.added.adds.constants) h))

pub returns-in_err-head-clause-room : goal.returns-in_err-head-clause-room
returns-in_err-head-clause-room c =
    bus-room c.args.state.now c.loop-k.state (bit_places (tree.Bus (drop c.loop-k.k c.args.es.now) c.args.tail)) c.args.es.now c.args.tail c.loop-k.k c.index-es-k.result c.index-es-k.is c.loop-k.invariant.within (let b = c.loop-k-test.true in omega arith)
    c.loop-k.invariant.bus.added c.loop-k.invariant.room c.truth.new.state.store.nodes c.truth.ensures.room

pub returns-in_err-head-clause-cause : goal.returns-in_err-head-clause-cause
returns-in_err-head-clause-cause c h =
    bus-cause c.args.state.now c.loop-k.state (bit_places (tree.Bus (drop c.loop-k.k c.args.es.now) c.args.tail)) c.args.es.now c.args.tail c.loop-k.k c.index-es-k.result c.index-es-k.is c.loop-k.invariant.within (let b = c.loop-k-test.true in omega arith)
    c.loop-k.invariant.bus.added c.loop-k.invariant.room c.truth.new.state c.loop-k.invariant.fulls (c.in_err-head.ensures.cause (search rules))

pub put-requires-clause-addable : goal.put-requires-clause-addable
put-requires-clause-addable c =
    let m = more-cells c.loop-k.state c.truth.new.state _ c.in_ok-head.ensures.tree.added in
    let l = c.loop-k.invariant.bus.there in
    (c.in_ok-head.ensures.tree.there, omega (arith, m, l))

pub returns-in_default-clause-room : goal.returns-in_default-clause-room
returns-in_default-clause-room c =
    subst (λ (o : Seen). length o.store.nodes.triples ≤ length c.args.state.now.store.nodes.triples + nodes_most c.args.state.now.store (tree_size (tree.Bus c.args.es.now c.args.tail))) (sym c.in_default.ensures.refused)
    (bus-room c.args.state.now c.loop-k.state (bit_places (tree.Bus (drop c.loop-k.k c.args.es.now) c.args.tail)) c.args.es.now c.args.tail c.loop-k.k c.index-es-k.result c.index-es-k.is c.loop-k.invariant.within (let b = c.loop-k-test.true in omega arith)
    c.loop-k.invariant.bus.added c.loop-k.invariant.room c.truth.new.state.store.nodes c.truth.ensures.room)

pub loop-k-preserved : goal.loop-k-preserved
loop-k-preserved c =
    let s = c.args.state.now in
    let now = c.loop-k.state in
    let v = c.truth.new.state in
    let z = c.put.new.self in
    let some : 0 < c.loop-k.k = (let b = c.loop-k-test.true in omega arith) in
    let same = c.in-Ok.ensures.put.nodes in
    record {
      within = (let a = c.loop-k.invariant.within in omega arith);
      bus = cons-at s now v z c.args.frame.now c.args.es.now c.args.tail c.loop-k.k c.index-es-k.result c.in_ok-head.head c.loop-k.at c.in-Ok.r.0 c.index-es-k.is c.loop-k.invariant.within some c.loop-k.invariant.bus c.in_ok-head.ensures.tree c.in-Ok.ensures.put;
      slots = slots-later v z 0 c.args.frame.now c.truth.new.slots.items c.truth.ensures.state c.in-Ok.ensures.put.added
          (frame-more (length s.heap.cells) (length v.heap.cells) c.args.frame.now (let i = more-cells s now _ c.loop-k.invariant.bus.added in let j = more-cells now v _ c.in_ok-head.ensures.tree.added in omega (arith, i, j)) c.requires.frame) c.in_ok-head.ensures.slots;
      room = subst (λ (o : Nodes). length o.triples ≤ length s.store.nodes.triples + nodes_most s.store (sum_by expr_size (drop (c.loop-k.k - 1) c.args.es.now))) (sym same)
          (bus-step s now (bit_places (tree.Bus (drop c.loop-k.k c.args.es.now) c.args.tail)) c.args.es.now c.args.tail c.loop-k.k c.index-es-k.result c.index-es-k.is c.loop-k.invariant.within some c.loop-k.invariant.bus.added c.loop-k.invariant.room v.store.nodes c.truth.ensures.room);
      fulls = ap (λ (o : Nodes). o.fulls) same ∙ c.in_ok-head.ensures.fulls ∙ c.loop-k.invariant.fulls;
    }

pub returns-clause-tree : goal.returns-clause-tree
returns-clause-tree c =
    let none : c.loop-k.k ≡ 0 = (let b = c.loop-k-test.false in omega arith) in
    subst (λ n. IsTreeOf c.args.state.now c.loop-k.state c.args.frame.now (tree.Bus (drop n c.args.es.now) c.args.tail) c.loop-k.at.0) none c.loop-k.invariant.bus

pub returns-clause-room : goal.returns-clause-room
returns-clause-room c =
    room-le c.args.state.now c.loop-k.state.store.nodes (sum_by expr_size (drop c.loop-k.k c.args.es.now)) (tree_size (tree.Bus c.args.es.now c.args.tail)) (bus-front c.args.es.now c.args.tail c.loop-k.k) c.loop-k.invariant.room

pub returns-clause-moments : goal.returns-clause-moments
returns-clause-moments c = c.loop-k.invariant.bus.added.moments

pub returns-clause-state : goal.returns-clause-state
returns-clause-state c = c.loop-k.invariant.bus.added.state

pub truth-requires-clause-state : goal.truth-requires-clause-state
truth-requires-clause-state c = c.loop-k.invariant.bus.added.state

pub returns-in_err-head-clause-moments : goal.returns-in_err-head-clause-moments
returns-in_err-head-clause-moments c = keeps-then c.args.state.now c.loop-k.state c.truth.new.state c.loop-k.invariant.bus.added.moments c.truth.ensures.moments

pub returns-in_default-clause-moments : goal.returns-in_default-clause-moments
returns-in_default-clause-moments c =
    subst (λ (o : Seen). KeepsMoments c.args.state.now o) (sym c.in_default.ensures.refused) (keeps-then c.args.state.now c.loop-k.state c.truth.new.state c.loop-k.invariant.bus.added.moments c.truth.ensures.moments)
