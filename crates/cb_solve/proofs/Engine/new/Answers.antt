use Rattle.cb_solve.proofs.Starts.{engine-begins, fresh-unbegun}
use Rattle.cb_solve.proofs.Engine.new.Goals as goal

pub begin-requires : goal.begin-requires
begin-requires c = fresh-unbegun c.args.program.now c.args.query.now c.args.resolutions c.args.nodes c.in_ok-branch.branch c.in_ok-branch.ensures c.new-2.result c.new-2.ensures.items c.requires

pub returns-in-Ok : goal.returns-in-Ok
returns-in-Ok c = engine-begins c.args.program.now c.args.query.now c.args.resolutions c.args.nodes c.in_ok-branch.branch c.in_ok-branch.ensures c.new-2.result c.new-2.ensures.items c.requires c.begin.new.m c.in-Ok.over c.in-Ok.ensures
