use Rattle.std.proofs.Common.{◌*◌, ◌≤◌, sym, arith, mul-le-mul_left}
use Rattle.cb_paths.proofs.Counting.{counted-sides, counted-constant, smaller, smaller-constant, taken-nodes, taken-capped, constant-small}
use Rattle.cb_paths.proofs.products.Goals as goal

pub pass-smaller-in-Continue-branch-3 : goal.pass-smaller-in-Continue-branch-3
pass-smaller-in-Continue-branch-3 c =
    smaller c.args.ops.now.triples c.count-count.ensures.diagram c.pass.found 0 c.args.limit c.in-Some.n c.in-Some.times c.pass.ways.entries c.pop_last.new.self.entries c.in-Some.ensures.removal
    c.in-Some-parts.field-0-0 c.in-Some-parts.lo c.in-Some-parts.hi (taken-nodes c.args.ops.now.triples c.count-count.ensures.diagram c.pass.found 0 c.args.limit c.in-Some.n c.in-Some.times c.pass.ways.entries c.pop_last.new.self.entries c.in-Some.ensures.removal c.pass.invariant.nodes).1
    (sym c.in-Some-parts.ensures.parts) c.add.new.ways.entries c.add-in-Some-parts.new.ways.entries c.in-Some.ensures.all_below c.in_ok-add-in-Some-parts.ensures.above c.in_ok-add-in-Some-parts-2.ensures.above

pub pass-preserved-in-Continue-branch-3 : goal.pass-preserved-in-Continue-branch-3
pass-preserved-in-Continue-branch-3 c =
    let nodes = taken-nodes c.args.ops.now.triples c.count-count.ensures.diagram c.pass.found 0 c.args.limit c.in-Some.n c.in-Some.times c.pass.ways.entries c.pop_last.new.self.entries c.in-Some.ensures.removal c.pass.invariant.nodes in
    record {
      found = c.pass.invariant.found;
      nodes = c.in_ok-add-in-Some-parts-2.ensures.nodes c.args.ops.now.triples (c.in_ok-add-in-Some-parts.ensures.nodes c.args.ops.now.triples nodes.0 c.in-Some-parts.ensures.inner.lo_node) c.in-Some-parts.ensures.inner.hi_node;
      capped = c.in_ok-add-in-Some-parts-2.ensures.capped;
      counted = counted-sides c.args.ops.now.triples c.count-count.ensures.diagram c.pass.found _ c.args.limit c.in-Some.n c.in-Some.times c.pass.ways.entries c.pop_last.new.self.entries c.in-Some.ensures.removal
          c.in-Some-parts.field-0-0 c.in-Some-parts.lo c.in-Some-parts.hi nodes.1 (sym c.in-Some-parts.ensures.parts) c.add.new.ways.entries c.add-in-Some-parts.new.ways.entries
          (c.in_ok-add-in-Some-parts.ensures.through c.args.ops.now.triples) (c.in_ok-add-in-Some-parts-2.ensures.through c.args.ops.now.triples) c.pass.invariant.counted;
    }

pub overflow_add-found : goal.overflow_add-found
overflow_add-found c =
    let few = (taken-capped c.args.ops.now.triples c.count-count.ensures.diagram c.pass.found 0 c.args.limit c.in-Some.n c.in-Some.times c.pass.ways.entries c.pop_last.new.self.entries c.in-Some.ensures.removal c.pass.invariant.capped).1 in
    let small : c.in-Some.times * c.in-Some.n ≤ c.in-Some.times * 1 = mul-le-mul_left c.in-Some.times (constant-small c.in-Some.n c.in-None.ensures.constant.1) in
    omega (arith, few, c.pass.invariant.found, c.requires.small)

pub pass-smaller : goal.pass-smaller
pass-smaller c = smaller-constant c.args.ops.now.triples c.count-count.ensures.diagram c.pass.found 0 c.args.limit c.in-Some.n c.in-Some.times c.pass.ways.entries c.pop_last.new.self.entries c.in-Some.ensures.removal c.in-Some.ensures.all_below

pub pass-preserved : goal.pass-preserved
pass-preserved c = record {
  found = omega (arith, c.min-found.ensures);
  nodes = (taken-nodes c.args.ops.now.triples c.count-count.ensures.diagram c.pass.found 0 c.args.limit c.in-Some.n c.in-Some.times c.pass.ways.entries c.pop_last.new.self.entries c.in-Some.ensures.removal c.pass.invariant.nodes).0;
  capped = (taken-capped c.args.ops.now.triples c.count-count.ensures.diagram c.pass.found 0 c.args.limit c.in-Some.n c.in-Some.times c.pass.ways.entries c.pop_last.new.self.entries c.in-Some.ensures.removal c.pass.invariant.capped).0;
  counted = counted-constant c.args.ops.now.triples c.count-count.ensures.diagram c.pass.found _ c.args.limit c.in-Some.n c.in-Some.times c.pass.ways.entries c.pop_last.new.self.entries c.in-Some.ensures.removal c.in-None.ensures.constant.1 c.min-found.result c.min-found.ensures c.pass.invariant.counted;
}
