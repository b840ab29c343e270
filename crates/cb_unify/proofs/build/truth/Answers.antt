use Rattle.std.proofs.Common.{◌+◌, ◌≤◌, List, length, Option, sym, ap, subst, ◌∙◌, arith}
use Rattle.cb_model.specs.declared.Expr.{Expr}
use Rattle.cb_model.specs.declared.Tree.TheVariants as tree
use Rattle.cb_model.specs.Room.{expr_size}
use Rattle.cb_dd.specs.Diagram.{Store as Nodes}
use Rattle.cb_elim.specs.declared.Slot.{Slot}
use Rattle.cb_unify.specs.Trees.{IsNodeOf, IsTreeOf, bit_places, nodes_most}
use Rattle.cb_unify.proofs.Back.{keeps-then}
use Rattle.cb_unify.proofs.Written.{each-of, node-leaf, ok-err, own-leaf, slots-later}
use Rattle.cb_unify.proofs.build.truth.Goals as goal

pub returns-in-Var-clause-tree : goal.returns-in-Var-clause-tree
returns-in-Var-clause-tree c =
    let s = c.args.state.now in
    subst (λ (x : Expr). IsTreeOf s s c.args.frame.now (tree.Leaf x) c.get.result.0) (sym c.in-Var.is)
    (own-leaf s c.args.frame.now c.in-Var.n c.get.result.0 c.requires.state c.requires.frame c.get.ensures (each-of (length s.heap.cells) c.args.frame.now c.in-Var.n c.get.result.0 c.requires.frame c.get.ensures))

pub returns-in-Ok-leaf : goal.returns-in-Ok-leaf
returns-in-Ok-leaf c =
    let s = c.args.state.now in
    let u = c.node_of.new.self in
    let y = c.leaf.new.self in
    let vars : List (Option Slot) = c.find_slots.new.slots.items in
    let p : IsNodeOf s u vars c.args.e.now c.in_ok-node.node.0 = subst (λ (v : List (Option Slot)). IsNodeOf s u v c.args.e.now c.in_ok-node.node.0) c.deref.ensures.value c.in_ok-node.ensures.node in
    let made : IsTreeOf s y c.args.frame.now (tree.Leaf c.args.e.now) c.in-Ok-leaf.r.0 =
    node-leaf s u y c.args.frame.now vars c.args.e.now c.in_ok-node.node.0 c.in-Ok-leaf.r.0 c.requires.state c.in-Ok.ensures.slots c.in-Ok.ensures.all c.requires.scope p c.in-Ok-leaf.ensures.leaf in
    let full = ap (λ (o : Nodes). o.fulls) c.leaf.ensures.nodes ∙ c.in_ok-node.ensures.fulls in
    record {
      tree = made;
      slots = slots-later s y (bit_places (tree.Leaf c.args.e.now)) c.args.frame.now vars c.requires.state made.added c.requires.frame c.in-Ok.ensures.slots;
      room = subst (λ (o : Nodes). length o.triples ≤ length s.store.nodes.triples + nodes_most s.store (expr_size c.args.e.now)) (sym c.leaf.ensures.nodes) c.node_of.ensures.room;
      cause = λ h. absurd (ok-err c.in-Ok-leaf.r _ h);
      fulls = full;
      risen = omega (arith, full);
      moments = keeps-then s u y c.node_of.ensures.moments c.leaf.ensures.moments;
      state = c.leaf.ensures.state;
    }
