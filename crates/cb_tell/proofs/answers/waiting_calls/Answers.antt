use Rattle.std.proofs.Common.{◌++◌, ap, ◌∙◌}
use Rattle.cb_branch.specs.Running.{calls_of}
use Rattle.cb_tell.proofs.Printing.{calls-none, calls-next, calls-fewer, calls-all}
use Rattle.cb_tell.proofs.answers.waiting_calls.Goals as goal

pub loop-pred-init : goal.loop-pred-init
loop-pred-init c = calls-none (calls_of c.args.engine.now.state) c.new-all.result.items c.new-all.ensures.items

pub loop-pred-smaller : goal.loop-pred-smaller
loop-pred-smaller c =
    calls-fewer (calls_of c.args.engine.now.state) c.loop-pred.all.items c.push.new.self.items _ c.len.result _ (c.len.ensures ∙ c.loop-pred.all.ok.0) c.in-Some.ensures.some (c.in_ok-push.ensures.items)

pub loop-pred-preserved : goal.loop-pred-preserved
loop-pred-preserved c =
    calls-next (calls_of c.args.engine.now.state) c.loop-pred.all.items c.push.new.self.items _ c.len.result _ c.loop-pred.invariant (c.len.ensures ∙ c.loop-pred.all.ok.0) c.in-Some.ensures.some
    (c.in_ok-extend_from_slice.ensures.items ∙ ap (λ xs. xs ++ c.in-Some.cells.now) c.new-args.ensures.items) c.in_ok-push.ensures.items

pub returns : goal.returns
returns c = calls-all (calls_of c.args.engine.now.state) c.loop-pred.all.items c.len.result c.loop-pred.invariant (c.len.ensures ∙ c.loop-pred.all.ok.0) c.in_default.ensures.none
