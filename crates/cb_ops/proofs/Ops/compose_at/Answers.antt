use Rattle.std.proofs.Common.{sym, ap}
use Rattle.std.specs.Option.{is_some}
use Rattle.std.proofs.lemmas.Result.{IfOk-weaker}
use Rattle.cb_ops.proofs.Substitute.{image-node}
use Rattle.cb_ops.proofs.Turns.{level-none, level-still, level-some, level-room}
use Rattle.cb_ops.proofs.Ops.compose_at.Goals as goal

pub returns-in_default-clause-function : goal.returns-in_default-clause-function
returns-in_default-clause-function c = level-none c.args.self.now.triples c.args.list.now c.args.f.0 c.args.level (sym c.in_default.ensures)

pub returns-in_default-clause-room : goal.returns-in_default-clause-room
returns-in_default-clause-room c = level-still c.args.self.now c.args.f.0 c.args.level c.args.list.now (sym c.in_default.ensures)

pub compose-requires-clause-g : goal.compose-requires-clause-g
compose-requires-clause-g c = image-node c.args.self.now.triples c.args.list.now c.args.level c.in-Some.g c.requires.nodes (sym c.in-Some.ensures)

pub returns-clause-function : goal.returns-clause-function
returns-clause-function c = IfOk-weaker c.compose.result _ _ (λ r h. level-some c.args.self.now.triples c.compose.new.self.triples c.args.list.now c.args.f.0 c.args.level c.in-Some.g r.0 (sym c.in-Some.ensures) h) c.compose.ensures.function

pub returns-clause-room : goal.returns-clause-room
returns-clause-room c = level-room c.args.self.now c.compose.new.self c.args.list.now c.args.f.0 c.args.level c.in-Some.g (sym c.in-Some.ensures) c.compose.ensures.made.room

pub returns-clause-replaced : goal.returns-clause-replaced
returns-clause-replaced c = λ h. ap is_some (sym c.in-Some.ensures)
