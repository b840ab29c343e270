use Rattle.cb_project.proofs.Steps.{replaced-at-once, replaced-one-by-one}
use Rattle.cb_project.proofs.leaves.replaced.Goals as goal

pub returns-in-AtOnce-clause-room : goal.returns-in-AtOnce-clause-room
returns-in-AtOnce-clause-room c = replaced-at-once c.args.value.0 c.args.images.now c.args.ops.now c.substitute.new.self c.substitute.ensures.room

pub returns-in-OneByOne-clause-room : goal.returns-in-OneByOne-clause-room
returns-in-OneByOne-clause-room c = replaced-one-by-one c.args.value.0 c.args.images.now c.args.ops.now c.compose_all.new.self c.compose_all.ensures.room
