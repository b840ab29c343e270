use Rattle.std.proofs.Common.{◌-◌, subst, sym, arith}
use Rattle.cb_ops.specs.Substitute.{Images}
use Rattle.cb_ops.specs.Composed.{AreLower}
use Rattle.cb_project.proofs.Steps.{step-is, step-room, put-in-at, put-room-at}
use Rattle.cb_project.proofs.leaves.step.Goals as goal

pub put_in-requires-clause-lower : goal.put_in-requires-clause-lower
put_in-requires-clause-lower c = λ e. subst (λ (l : Images). AreLower c.leaf_of.new.ops.triples l) (sym c.deref.ensures.value) c.in_ok-found.ensures.leaf.lower

pub returns-in_err-next-clause-room : goal.returns-in_err-next-clause-room
returns-in_err-next-clause-room c = step-room c.args.ops.now c.leaf_of.new.ops c.put_in.new.ops c.leaf_of.ensures.grows c.put_in.ensures.grows c.args.f.0 c.args.constants c.args.first (c.args.parameter - c.args.first) c.args.parameter (omega (arith, c.requires.first)) c.in_ok-found.found.node.0 c.args.later.now c.in_ok-found.found.images.items c.requires.nodes c.in_ok-found.ensures.leaf c.leaf_of.ensures.room (put-room-at c.args.later.now _ c.in_ok-found.found.images.items c.leaf_of.new.ops c.put_in.new.ops c.deref.ensures.value c.put_in.ensures.room)

pub returns-clause-room : goal.returns-clause-room
returns-clause-room c = step-room c.args.ops.now c.leaf_of.new.ops c.put_in.new.ops c.leaf_of.ensures.grows c.put_in.ensures.grows c.args.f.0 c.args.constants c.args.first (c.args.parameter - c.args.first) c.args.parameter (omega (arith, c.requires.first)) c.in_ok-found.found.node.0 c.args.later.now c.in_ok-found.found.images.items c.requires.nodes c.in_ok-found.ensures.leaf c.leaf_of.ensures.room (put-room-at c.args.later.now _ c.in_ok-found.found.images.items c.leaf_of.new.ops c.put_in.new.ops c.deref.ensures.value c.put_in.ensures.room)

pub returns-clause-step : goal.returns-clause-step
returns-clause-step c = step-is c.args.ops.now c.leaf_of.new.ops c.put_in.new.ops c.leaf_of.ensures.grows c.put_in.ensures.grows c.args.f.0 c.args.constants c.args.first (c.args.parameter - c.args.first) c.args.parameter (omega (arith, c.requires.first)) c.in_ok-found.found.node.0 c.args.later.now c.in_ok-found.found.images.items c.requires.nodes c.in_ok-found.ensures.leaf c.in_ok-next.next.items (put-in-at c.leaf_of.new.ops.triples c.put_in.new.ops.triples _ c.in_ok-found.found.images.items c.args.later.now c.in_ok-next.next.items c.deref.ensures.value c.in_ok-next.ensures.put_in)
