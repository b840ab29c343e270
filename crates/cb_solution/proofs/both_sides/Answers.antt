use Rattle.cb_ops.proofs.Restrict.{two-rooms, exists-room}
use Rattle.cb_solution.proofs.Steps.{both-is}
use Rattle.cb_solution.proofs.both_sides.Goals as goal

pub returns-in_err-high-clause-room : goal.returns-in_err-high-clause-room
returns-in_err-high-clause-room c = two-rooms c.args.ops.now c.restrict.new.self c.restrict-2.new.self c.restrict-2.new.self c.restrict.ensures.made.grows c.restrict-2.ensures.made.grows c.args.f.0 c.args.level 0 0 c.requires c.restrict.ensures.made.room c.restrict-2.ensures.made.room

pub returns-in_err-n-clause-room : goal.returns-in_err-n-clause-room
returns-in_err-n-clause-room c = exists-room c.args.ops.now c.restrict.new.self c.restrict-2.new.self c.and.new.self c.restrict.ensures.made.grows c.restrict-2.ensures.made.grows c.args.f.0 c.args.level c.in_ok-low.low.0 c.in_ok-high.high.0 c.requires c.in_ok-low.ensures.made.is_node c.in_ok-low.ensures.function c.in_ok-high.ensures.function c.restrict.ensures.made.room c.restrict-2.ensures.made.room c.and.ensures.made.room

pub returns-clause-room : goal.returns-clause-room
returns-clause-room c = exists-room c.args.ops.now c.restrict.new.self c.restrict-2.new.self c.and.new.self c.restrict.ensures.made.grows c.restrict-2.ensures.made.grows c.args.f.0 c.args.level c.in_ok-low.low.0 c.in_ok-high.high.0 c.requires c.in_ok-low.ensures.made.is_node c.in_ok-low.ensures.function c.in_ok-high.ensures.function c.restrict.ensures.made.room c.restrict-2.ensures.made.room c.and.ensures.made.room

pub returns-clause-function : goal.returns-clause-function
returns-clause-function c = both-is c.args.ops.now c.restrict.new.self c.restrict-2.new.self c.and.new.self c.restrict.ensures.made.grows c.restrict-2.ensures.made.grows c.args.f.0 c.args.level c.in_ok-low.low.0 c.in_ok-high.high.0 c.requires c.in_ok-low.ensures.made.is_node c.in_ok-low.ensures.function c.in_ok-high.ensures.function c.in_ok-n.n.0 c.in_ok-n.ensures.function
