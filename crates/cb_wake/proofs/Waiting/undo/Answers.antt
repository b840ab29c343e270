use Rattle.std.proofs.Common.{◌≡◌, take, drop, ◌∙◌, arith}
use Rattle.std.proofs.lemmas.Grind.{common_steps}
use Rattle.cb_wake.specs.Moments.{Moment, put_back}
use Rattle.cb_wake.specs.Waits.{Waits}
use Rattle.cb_wake.proofs.Back.{undo-is, back-to}
use Rattle.cb_wake.proofs.Waiting.undo.Goals as goal

pub returns-clause-reverted : goal.returns-clause-reverted
returns-clause-reverted c =
    let m : Moment = record { parked = c.to.inside.parked; taken = c.to.inside.taken } in
    let seen : Waits = record { still = c.self.inside.still.items; taken = c.self.inside.taken } in
    let still : c.truncate.new.self.items ≡ take c.to.inside.parked (put_back (drop c.to.inside.taken c.self.inside.taken) c.self.inside.still.items) = grind (arith, common_steps) in
    undo-is c.args.self.now seen c.self.view_is c.args.to m c.to.view_is c.take_back.new.taken c.take_back.ensures.taken c.truncate.new.self.items still

pub returns-clause-back : goal.returns-clause-back
returns-clause-back c = λ w e k. returns-clause-reverted c ∙ back-to w c.args.self.now c.args.to e k
