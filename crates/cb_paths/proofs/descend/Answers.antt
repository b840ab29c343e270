use Rattle.std.proofs.Common.{◌≡◌, ℕ, ◌<◌, min, [], ◌∷◌, ◌++◌, length, sym, ◌∙◌, arith, inl, inr, Some, vec_capacity}
use Rattle.cb_dd.specs.Diagram.{parts_of}
use Rattle.cb_paths.proofs.Walking.{IsWay, pushed, room-left, down-come, down-walk, down-some, to_come-one, walk-end, walk-wider, is-one}
use Rattle.cb_paths.proofs.descend.Goals as goal
use Rattle.cb_paths.proofs.descend.Goals.{then-lo-eq0, else-lo-eq0}

pub loop-level-preserved : goal.loop-level-preserved
loop-level-preserved c =
    let ts = c.args.ops.now.triples in
    let is = c.count-count.ensures.diagram in
    let room : ℕ = min (vec_capacity c.loop-level.literals) (vec_capacity c.loop-level.others) in
    let ls = c.loop-level.literals.items in
    let ns = c.loop-level.others.items in
    let walk = c.loop-level.invariant.walk in
    let parts : parts_of ts c.loop-level.n.0 ≡ Some (c.in-Some.level, c.in-Some.lo, c.in-Some.hi) = sym c.in-Some.ensures.parts in
    let left : length ls < room = room-left ts is room ls ns c.loop-level.n.0 c.in-Some.level c.in-Some.lo c.in-Some.hi walk parts in
    let way : IsWay c.in-Some.lo c.in-Some.hi c.if-lo-eq0.bit = elim c.if-lo-eq0.branch [ then-lo-eq0 w ↦ inl (w.if-lo-eq0.true, w.bit-is) | else-lo-eq0 w ↦ inr (w.if-lo-eq0.false, w.bit-is) ] in
    let m : length ls ≡ length ns = walk.as_many in
    let gl : c.push.new.self.items ≡ ls ++ (c.in-Some.level, c.if-lo-eq0.bit.0) ∷ [] = pushed c.push.result ls _ _ c.push.ensures.items (c.push.ensures.succeeds (omega arith)) in
    let gn : c.push-in-Some.new.self.items ≡ ns ++ c.if-lo-eq0.bit.1 ∷ [] = pushed c.push-in-Some.result ns _ _ c.push-in-Some.ensures.items (c.push-in-Some.ensures.succeeds (omega arith)) in
    record {
      come = c.loop-level.invariant.come ∙ down-come ts is room ls ns c.loop-level.n.0 c.in-Some.level c.in-Some.lo c.in-Some.hi walk parts c.in-Some.ensures.inner c.if-lo-eq0.bit way c.push.new.self.items c.push-in-Some.new.self.items gl gn;
      walk = walk-wider ts room _ c.push.new.self.items c.push-in-Some.new.self.items c.if-lo-eq0.bit.2.0 (omega (arith, c.push.ensures.capacity, c.push-in-Some.ensures.capacity)) (down-walk ts is room ls ns c.loop-level.n.0 c.in-Some.level c.in-Some.lo c.in-Some.hi walk parts c.in-Some.ensures.inner c.if-lo-eq0.bit way c.push.new.self.items c.push-in-Some.new.self.items gl gn);
      some = down-some ts is room ls ns c.loop-level.n.0 c.in-Some.level c.in-Some.lo c.in-Some.hi walk parts c.in-Some.ensures.inner c.if-lo-eq0.bit way;
    }

pub returns-clause-come : goal.returns-clause-come
returns-clause-come c = c.loop-level.invariant.come ∙ to_come-one c.args.ops.now.triples c.loop-level.literals.items c.loop-level.others.items c.loop-level.n.0 (is-one c.loop-level.n.0 c.in_default.ensures.constant.1 c.loop-level.invariant.some)

pub returns-clause-walk : goal.returns-clause-walk
returns-clause-walk c = walk-end c.args.ops.now.triples _ c.loop-level.literals.items c.loop-level.others.items c.loop-level.n.0 c.loop-level.invariant.walk
