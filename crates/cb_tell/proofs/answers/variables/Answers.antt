use Rattle.std.proofs.Common.{◌+◌, take, sym, subst, List}
use Rattle.cb_model.specs.Output.{printed_from}
use Rattle.cb_answer.specs.declared.Item.{Item}
use Rattle.cb_tell.specs.Items.{AreVariables}
use Rattle.cb_tell.proofs.Printing.{variables-all, variables-next}
use Rattle.cb_tell.proofs.answers.variables.Goals as goal

pub loop-item-preserved : goal.loop-item-preserved
loop-item-preserved c =
    let made = c.args.engine.now.state.state.made in
    subst (λ (ys : List Item). AreVariables made (take (c.loop-item.place + 1) (printed_from 0 c.args.query.now.variables)) ys) (sym c.in_ok-push.ensures.items)
    (variables-next made c.args.query.now.variables c.loop-item.place c.loop-item.all.items c.in-Some.item c.loop-item.invariant c.in-Some.ensures.some)

pub returns : goal.returns
returns c =
    variables-all c.args.engine.now.state.state.made (printed_from 0 c.args.query.now.variables) c.loop-item.place c.loop-item.all.items c.loop-item.invariant c.in_default.ensures.none
