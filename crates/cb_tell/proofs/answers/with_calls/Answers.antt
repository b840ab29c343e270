use Rattle.cb_tell.proofs.Printing.{item-next, items-whole}
use Rattle.cb_tell.proofs.answers.with_calls.Goals as goal

pub loop-call-init : goal.loop-call-init
loop-call-init c = λ made printed a. a c.args.names.now.names

pub loop-call-preserved : goal.loop-call-preserved
loop-call-preserved c = λ made printed a.
    item-next made c.args.names.now.names printed c.args.calls.now c.loop-call.call-index c.loop-call.all.items c.push.new.self.items c.call-item.result c.name-name.result c.as_slice-args.result
    (c.loop-call.invariant made printed a) c.loop-call-test.true c.call-item.is c.name-name.ensures c.as_slice-args.ensures.value c.in_ok-push.ensures.items

pub returns : goal.returns
returns c = λ made printed a. items-whole made c.args.names.now.names printed c.args.calls.now c.loop-call.call-index c.loop-call.all.items (c.loop-call.invariant made printed a) c.loop-call-test.false
