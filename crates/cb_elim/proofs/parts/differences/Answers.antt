use Rattle.std.proofs.Common.{◌≡◌, [], ◌∷◌, ◌++◌, arith}
use Rattle.std.proofs.lemmas.Grind.{common_steps}
use Rattle.cb_elim.proofs.Parting.{differences-next, differences-stop}
use Rattle.cb_elim.proofs.parts.differences.Goals as goal

pub returns-in_err-part-clause-room : goal.returns-in_err-part-clause-room
returns-in_err-part-clause-room c = differences-stop c.loop-f.f-index c.args.pairs.now c.args.ops.now c.loop-f.ops c.xor.new.self c.loop-f.parts.items c.loop-f.invariant c.requires c.loop-f-test.true _ c.xor.ensures.made.grows c.xor.ensures.made.room

pub returns-in_err-map_err-clause-room : goal.returns-in_err-map_err-clause-room
returns-in_err-map_err-clause-room c = differences-stop c.loop-f.f-index c.args.pairs.now c.args.ops.now c.loop-f.ops c.xor.new.self c.loop-f.parts.items c.loop-f.invariant c.requires c.loop-f-test.true _ c.xor.ensures.made.grows c.xor.ensures.made.room

pub loop-f-preserved : goal.loop-f-preserved
loop-f-preserved c =
    let pushed : c.push.new.self.items ≡ c.loop-f.parts.items ++ c.in_ok-part.part ∷ [] = grind (arith, common_steps) in
    differences-next c.loop-f.f-index c.args.pairs.now c.args.ops.now c.loop-f.ops c.xor.new.self c.loop-f.parts.items c.loop-f.invariant c.requires c.loop-f-test.true _ c.xor.ensures.made.grows c.xor.ensures.made.room c.in_ok-part.part c.in_ok-part.ensures.made.is_node c.in_ok-part.ensures.function c.in_ok-part.ensures.made.fulls c.push.new.self.items pushed
