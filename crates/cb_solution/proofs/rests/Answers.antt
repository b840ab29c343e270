use Rattle.std.proofs.Common.{◌≡◌, List, [], ◌∷◌, ◌++◌, subst, sym, arith}
use Rattle.std.proofs.lemmas.Grind.{common_steps}
use Rattle.cb_dd.specs.declared.Node.{Node}
use Rattle.cb_solution.proofs.Loops.{RestsSo, rests-first, rests-next, rests-stop}
use Rattle.cb_solution.proofs.rests.Goals as goal

pub loop-level-init : goal.loop-level-init
loop-level-init c =
    subst (λ (ns : List Node). RestsSo 0 c.args.f.0 c.args.levels.now c.args.ops.now c.args.ops.now ns c.args.f.0) (sym c.new-nodes.ensures.items) (rests-first c.args.f.0 c.args.levels.now c.args.ops.now c.requires.f)

pub returns-in_err-left-clause-room : goal.returns-in_err-left-clause-room
returns-in_err-left-clause-room c =
    rests-stop c.loop-level.level-index c.args.f.0 c.args.levels.now c.args.ops.now c.loop-level.ops c.both_sides.new.ops c.loop-level.nodes.items c.loop-level.left c.requires.f c.loop-level.invariant c.both_sides.ensures.grows
    c.loop-level-test.true c.both_sides.ensures.room

pub loop-level-preserved : goal.loop-level-preserved
loop-level-preserved c =
    let pushed : c.push.new.self.items ≡ c.loop-level.nodes.items ++ c.loop-level.left ∷ [] = grind (arith, common_steps) in
    rests-next c.loop-level.level-index c.args.f.0 c.args.levels.now c.args.ops.now c.loop-level.ops c.both_sides.new.ops c.loop-level.nodes.items c.loop-level.left c.requires.f c.loop-level.invariant c.both_sides.ensures.grows
    c.both_sides.ensures.room c.in_ok-left.left.0 c.loop-level-test.true c.in_ok-left.ensures.is_node c.in_ok-left.ensures.function c.in_ok-left.ensures.fulls c.push.new.self.items pushed
