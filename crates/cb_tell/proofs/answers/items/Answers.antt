use Rattle.cb_model.specs.Output.{printed_from}
use Rattle.cb_tell.proofs.Printing.{if-ok-on}
use Rattle.cb_tell.proofs.answers.items.Goals as goal

pub returns : goal.returns
returns c = if-ok-on (λ x h. h c.args.engine.now.state.state.made (printed_from 0 c.args.query.now.variables) c.in_ok-all.ensures) c.with_calls.result c.with_calls.ensures
