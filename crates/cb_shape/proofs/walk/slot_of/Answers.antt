use Rattle.std.proofs.Common.{subst, sym, ap, ◌∙◌}
use Rattle.cb_shape.proofs.Ends.{leaf-last, leaf-slot}
use Rattle.cb_shape.proofs.walk.slot_of.Goals as goal

pub unreachable-requires : goal.unreachable-requires
unreachable-requires c =
    c.in_default.not-Leaf c.requires.leaf.0
    (leaf-last c.args.heap.now.cells c.args.r.0 c.last.result.0 c.stored.result c.requires.leaf.0 c.last.ensures c.stored.ensures c.requires.leaf.1)

pub returns : goal.returns
returns c = λ s leaf.
    leaf-slot c.args.heap.now.cells c.args.r.0 c.last.result.0 c.in-Leaf.slot s c.last.ensures (c.stored.ensures ∙ ap Rattle.std.proofs.Common.Some c.in-Leaf.is) leaf
