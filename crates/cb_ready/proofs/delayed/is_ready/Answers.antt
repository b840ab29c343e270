use Rattle.cb_ready.proofs.Words.{tells-ready}
use Rattle.cb_ready.proofs.delayed.is_ready.Goals as goal

pub returns : goal.returns
returns c = tells-ready c.all_hold.result c.args.state.now c.args.program.now c.args.pred c.args.args.now c.requires.name c.all_hold.ensures
