use Rattle.cb_goals.proofs.Lists.{pushing-more}
use Rattle.cb_goals.proofs.Goals.push_body.Goals as goal

pub loop-place-preserved : goal.loop-place-preserved
loop-place-preserved c =
    pushing-more c.args.self.now c.loop-place.self c.push.new.self c.args.clause c.args.frame c.args.count c.args.rest c.loop-place.list c.loop-place.place c.in_ok-list.list c.loop-place.invariant c.loop-place-test.true
    c.loop-place.auto.place c.in_ok-list.ensures.pushed.0 c.in_ok-list.ensures.one c.in_ok-list.ensures.pushed.1 c.in_ok-list.ensures.keeps
