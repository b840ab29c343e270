use Rattle.cb_tell.proofs.Turns.{nothing}
use Rattle.cb_tell.proofs.tell.Goals as goal

pub returns-in_default-clause-told : goal.returns-in_default-clause-told
returns-in_default-clause-told g c = nothing c.args.program.now c.args.query.now c.args.resolutions c.args.nodes (g.O.Sink.written c.args.out.now)
