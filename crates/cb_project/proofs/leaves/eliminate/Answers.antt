use Rattle.std.proofs.Common.{length, refl}
use Rattle.cb_ops.proofs.Ite.{Grows-then}
use Rattle.cb_project.proofs.Steps.{rest-on, rest-depends, rest-room, rest-done}
use Rattle.cb_project.proofs.leaves.eliminate.Goals as goal

pub loop-level-preserved : goal.loop-level-preserved
loop-level-preserved c =
    let i = c.loop-level.invariant in
    record {
      is_node = c.in_ok-left.ensures.is_node;
      function = rest-on c.args.ops.now c.loop-level.ops c.both_sides.new.ops i.grows c.args.f.0 c.loop-level.left.0 _ c.loop-level.level-index c.args.levels.now c.loop-level-test.true refl i.function c.in_ok-left.left.0 c.in_ok-left.ensures.function;
      grows = Grows-then c.args.ops.now c.loop-level.ops c.both_sides.new.ops i.grows c.both_sides.ensures.grows;
      within = λ ls d. (
        rest-depends c.args.ops.now c.loop-level.ops c.both_sides.new.ops i.grows c.args.f.0 c.loop-level.left.0 _ c.loop-level.level-index c.args.levels.now c.loop-level-test.true refl i.function c.in_ok-left.left.0 c.in_ok-left.ensures.function ls (i.within ls d).0,
        rest-room c.args.ops.now c.loop-level.ops c.both_sides.new.ops i.grows c.args.f.0 c.loop-level.left.0 0 c.loop-level.level-index (length c.args.levels.now) c.in_ok-left.left.0 c.loop-level-test.true i.within c.both_sides.ensures.room ls d,
      );
    }

pub returns-clause-function : goal.returns-clause-function
returns-clause-function c = rest-done c.loop-level.ops.triples c.loop-level.left.0 c.args.levels.now c.loop-level.level-index _ c.loop-level-test.false c.loop-level.invariant.function
