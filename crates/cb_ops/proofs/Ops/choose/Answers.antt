use Rattle.std.proofs.Common.{sym, refl}
use Rattle.std.proofs.lemmas.Result.{IfOk-weaker}
use Rattle.cb_ops.proofs.Substitute.{image-node, image-joined, image-room, unreplaced, unreplaced-room}
use Rattle.cb_ops.proofs.Ops.choose.Goals as goal

pub returns-in_default-clause-function : goal.returns-in_default-clause-function
returns-in_default-clause-function c = IfOk-weaker c.join.result _ _ (λ r h. unreplaced c.args.self.now.triples c.join.new.self.triples c.args.level c.args.low.0 c.args.high.0 c.args.list.now r.0 (sym c.in_default.ensures) h) c.join.ensures.function

pub returns-in_default-clause-room : goal.returns-in_default-clause-room
returns-in_default-clause-room c = unreplaced-room c.args.self.now c.join.new.self c.args.level c.args.low.0 c.args.high.0 c.args.list.now (sym c.in_default.ensures) c.join.ensures.room

pub ite-requires-clause-f : goal.ite-requires-clause-f
ite-requires-clause-f c = image-node c.args.self.now.triples c.args.list.now c.args.level c.in-Some.choice c.requires.nodes (sym c.in-Some.ensures)

pub returns-clause-function : goal.returns-clause-function
returns-clause-function c = IfOk-weaker c.ite.result _ _ (λ r h. image-joined c.args.self.now c.ite.new.self c.args.level c.in-Some.choice.0 c.args.low.0 c.args.high.0 c.args.list.now r.0 c.in-Some.choice (sym c.in-Some.ensures) refl h) c.ite.ensures.function

pub returns-clause-room : goal.returns-clause-room
returns-clause-room c = image-room c.args.self.now c.ite.new.self c.args.level c.args.low.0 c.args.high.0 c.args.list.now c.in-Some.choice (sym c.in-Some.ensures) c.ite.ensures.made.room
