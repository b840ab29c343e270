use Rattle.cb_branch.proofs.Begins.{asking-more, asking-start}
use Rattle.cb_branch.proofs.additions.asked.Goals as goal

pub loop-place-init : goal.loop-place-init
loop-place-init c = asking-start c.args.goals.now c.args.count c.requires.none

pub loop-place-preserved : goal.loop-place-preserved
loop-place-preserved c =
    asking-more c.loop-place.goals c.push.new.self c.args.count c.loop-place.list c.loop-place.place c.in_ok-list.list c.loop-place.invariant c.loop-place-test.true
    c.loop-place.auto.place c.in_ok-list.ensures.pushed.0 c.in_ok-list.ensures.one c.in_ok-list.ensures.pushed.1
