use Rattle.std.proofs.Common.{◌≡◌, ◌+◌, ◌-◌, ◌<◌, ◌≤◌, [], ◌∷◌, ℕ, List, length, length-append, refl, sym, ap, subst, arith, ◌∙◌}
use Rattle.cb_model.specs.Bits.{numbers_from}
use Rattle.cb_dd.specs.declared.Node.{Node}
use Rattle.cb_ops.proofs.Ite.{Grows-same, Grows-then}
use Rattle.cb_boole.specs.Stages.{IsStage}
use Rattle.cb_project.specs.Leaves.{functions_of, AllNodes, AllDepend}
use Rattle.cb_project.proofs.Nodes.{nodes-grown, nodes-more}
use Rattle.cb_project.proofs.Whole.{stage-first, stage-next, within-next, room-next, whole-room, depend-all, step-at, room-at, length-next, length-on, all_levels}
use Rattle.cb_project.proofs.leaves.leaf_nodes.Goals as goal

pub loop-i-init : goal.loop-i-init
loop-i-init c = record {
  stage = subst (λ (ns : List Node). IsStage c.args.constants c.args.first (functions_of c.args.ops.now.triples c.args.values.now) (functions_of c.args.ops.now.triples ns) (functions_of c.args.ops.now.triples c.in-Ok.left.items)) (sym c.new-nodes.ensures.items)
      (subst (λ (ns : List Node). IsStage c.args.constants c.args.first (functions_of c.args.ops.now.triples c.args.values.now) [] (functions_of c.args.ops.now.triples ns)) (sym c.in-Ok.ensures.items)
      (stage-first c.args.constants c.args.first c.args.ops.now.triples c.args.values.now c.requires.constants c.requires.below));
  nodes = subst (λ (ns : List Node). AllNodes c.args.ops.now.triples ns) (sym c.new-nodes.ensures.items) tt;
  later = subst (λ (ns : List Node). AllNodes c.args.ops.now.triples ns) (sym c.in-Ok.ensures.items) c.requires.nodes;
  count = ap length c.new-nodes.ensures.items;
  all = omega (arith, ap length c.in-Ok.ensures.items);
  grows = Grows-same c.args.ops.now;
  within = λ ls d. (
    subst (λ (ns : List Node). AllDepend c.args.ops.now.triples ns (all_levels ls c.args.first (length c.args.values.now))) (sym c.in-Ok.ensures.items) (depend-all c.args.ops.now.triples c.args.values.now ls (numbers_from c.args.first (length c.args.values.now)) d),
    omega arith,
  );
}

pub loop-i-preserved : goal.loop-i-preserved
loop-i-preserved c =
    let i = c.loop-i.invariant in
    let some : 0 < length c.loop-i.left.items = omega (arith, i.all, c.loop-i-test.true) in
    let room = room-at c.loop-i.ops c.step.new.ops c.index.result.now (c.args.first + c.loop-i.i) c.deref.result.now c.loop-i.left.items c.index.ensures c.deref.ensures.value c.step.ensures.room in
    let few : length c.loop-i.left.items ≤ length c.args.values.now = omega (arith, i.all) in
    let most = λ (ls : List ℕ) (d : AllDepend c.args.ops.now.triples c.args.values.now ls). room-next c.args.ops.now c.loop-i.ops c.step.new.ops c.args.first (c.args.first + c.loop-i.i) c.loop-i.i (length c.args.values.now) c.loop-i.left.items c.index.result.now ls some few c.loop-i-test.true refl (i.within ls d).0 (i.within ls d).1 room in
    let step = step-at c.loop-i.ops.triples c.step.new.ops.triples c.args.constants c.args.first (c.args.first + c.loop-i.i - c.args.first) c.index.result.now c.deref.result.now c.loop-i.left.items c.in_ok-node.node.0 c.in_ok-node.next.items c.index.ensures c.deref.ensures.value c.in_ok-node.ensures.step in
    let same : c.args.first + c.loop-i.i - c.args.first ≡ c.loop-i.i = omega arith in
    record {
      stage = subst (λ (ns : List Node). IsStage c.args.constants c.args.first (functions_of c.args.ops.now.triples c.args.values.now) (functions_of c.step.new.ops.triples ns) (functions_of c.step.new.ops.triples c.in_ok-node.next.items)) (sym c.in-Ok-push.ensures.items)
          (stage-next c.args.constants c.args.first c.args.ops.now c.loop-i.ops c.step.new.ops c.step.ensures.grows c.args.values.now c.loop-i.nodes.items c.loop-i.left.items c.in_ok-node.next.items c.in_ok-node.node c.index.result.now c.loop-i.i (c.args.first + c.loop-i.i - c.args.first) i.count same some i.nodes i.stage step);
      nodes = subst (λ (ns : List Node). AllNodes c.step.new.ops.triples ns) (sym c.in-Ok-push.ensures.items)
          (nodes-more c.step.new.ops.triples c.loop-i.nodes.items c.in_ok-node.node (nodes-grown c.loop-i.ops c.step.new.ops c.step.ensures.grows c.loop-i.nodes.items i.nodes) step.is_node);
      later = step.nodes;
      count = ap length c.in-Ok-push.ensures.items ∙ omega (arith, length-append c.loop-i.nodes.items (c.in_ok-node.node ∷ []), i.count);
      all = length-on c.loop-i.left.items c.in_ok-node.next.items c.args.values.now c.loop-i.i some i.all (length-next c.loop-i.ops.triples c.step.new.ops.triples c.args.constants c.args.first _ _ _ _ c.in_ok-node.next.items step);
      grows = Grows-then c.args.ops.now c.loop-i.ops c.step.new.ops i.grows c.step.ensures.grows;
      within = λ ls d. (
        within-next c.loop-i.ops c.step.new.ops c.args.constants c.args.first (c.args.first + c.loop-i.i - c.args.first) c.loop-i.i (length c.args.values.now) c.loop-i.left.items c.in_ok-node.next.items c.in_ok-node.node c.index.result.now ls some c.loop-i-test.true same (i.within ls d).0 step,
        most ls d,
      );
    }

pub returns-in_err-node-clause-room : goal.returns-in_err-node-clause-room
returns-in_err-node-clause-room c =
    let i = c.loop-i.invariant in
    let some : 0 < length c.loop-i.left.items = omega (arith, i.all, c.loop-i-test.true) in
    let room = room-at c.loop-i.ops c.step.new.ops c.index.result.now (c.args.first + c.loop-i.i) c.deref.result.now c.loop-i.left.items c.index.ensures c.deref.ensures.value c.step.ensures.room in
    let few : length c.loop-i.left.items ≤ length c.args.values.now = omega (arith, i.all) in
    let most = λ (ls : List ℕ) (d : AllDepend c.args.ops.now.triples c.args.values.now ls). room-next c.args.ops.now c.loop-i.ops c.step.new.ops c.args.first (c.args.first + c.loop-i.i) c.loop-i.i (length c.args.values.now) c.loop-i.left.items c.index.result.now ls some few c.loop-i-test.true refl (i.within ls d).0 (i.within ls d).1 room in
    whole-room c.args.ops.now c.step.new.ops c.args.values.now (c.loop-i.i + 1) (omega (arith, c.loop-i-test.true)) most

pub returns-in_default-push-clause-room : goal.returns-in_default-push-clause-room
returns-in_default-push-clause-room c =
    let i = c.loop-i.invariant in
    let some : 0 < length c.loop-i.left.items = omega (arith, i.all, c.loop-i-test.true) in
    let room = room-at c.loop-i.ops c.step.new.ops c.index.result.now (c.args.first + c.loop-i.i) c.deref.result.now c.loop-i.left.items c.index.ensures c.deref.ensures.value c.step.ensures.room in
    let few : length c.loop-i.left.items ≤ length c.args.values.now = omega (arith, i.all) in
    let most = λ (ls : List ℕ) (d : AllDepend c.args.ops.now.triples c.args.values.now ls). room-next c.args.ops.now c.loop-i.ops c.step.new.ops c.args.first (c.args.first + c.loop-i.i) c.loop-i.i (length c.args.values.now) c.loop-i.left.items c.index.result.now ls some few c.loop-i-test.true refl (i.within ls d).0 (i.within ls d).1 room in
    whole-room c.args.ops.now c.step.new.ops c.args.values.now (c.loop-i.i + 1) (omega (arith, c.loop-i-test.true)) most

pub returns-clause-room : goal.returns-clause-room
returns-clause-room c = whole-room c.args.ops.now c.loop-i.ops c.args.values.now c.loop-i.i (omega (arith, c.loop-i.invariant.all)) (λ ls d. (c.loop-i.invariant.within ls d).1)

pub returns-in_default-clause-room : goal.returns-in_default-clause-room
returns-in_default-clause-room c = whole-room c.args.ops.now c.args.ops.now c.args.values.now 0 (omega arith) (λ ls d. omega arith)

pub returns-clause-form : goal.returns-clause-form
returns-clause-form c =
    let i = c.loop-i.invariant in
    record {
      nodes = i.nodes;
      as_many = omega (arith, i.count, i.all, c.loop-i-test.false, c.loop-i.auto.i-end);
      parametric = i.stage.gen;
      own = i.stage.own;
    }
