use Rattle.std.proofs.Common.{length, ap}
use Rattle.cb_model.specs.declared.Tree.TheVariants as tree
use Rattle.cb_unify.specs.Works.{works, written}
use Rattle.std.proofs.Common.{[]}
use Rattle.cb_unify.proofs.Working.{node-each, node-open, node-written, one-cell, one-spent}
use Rattle.cb_unify.proofs.writing.compound_cell.Goals as goal

pub write-requires-clause-starts : goal.write-requires-clause-starts
write-requires-clause-starts c = node-open c.args.name c.args.args.now (works c.push_compound.new.pending.items) (works c.new-pending.result.items) c.in-Ok.ensures (ap works c.new-pending.ensures.items)

pub write-requires-clause-scope : goal.write-requires-clause-scope
write-requires-clause-scope c =
    node-each c.args.name c.args.args.now (works c.push_compound.new.pending.items) (works c.new-pending.result.items) c.in-Ok.ensures (ap works c.new-pending.ensures.items) c.args.state.now.store.constants (length c.args.frame.now) c.requires.scope

pub returns-in-Ok-clause-tree : goal.returns-in-Ok-clause-tree
returns-in-Ok-clause-tree c =
    one-cell c.args.state.now c.write.new.state c.args.frame.now (written (works c.push_compound.new.pending.items) []) (tree.Node c.args.name c.args.args.now) c.write.result
    (node-written c.args.name c.args.args.now (works c.push_compound.new.pending.items) (works c.new-pending.result.items) c.in-Ok.ensures (ap works c.new-pending.ensures.items)) c.write.ensures.tree

pub returns-in-Ok-clause-spent : goal.returns-in-Ok-clause-spent
returns-in-Ok-clause-spent c =
    one-spent c.args.state.now.store c.write.new.state.store (written (works c.push_compound.new.pending.items) []) (tree.Node c.args.name c.args.args.now) c.write.result
    (node-written c.args.name c.args.args.now (works c.push_compound.new.pending.items) (works c.new-pending.result.items) c.in-Ok.ensures (ap works c.new-pending.ensures.items)) c.write.ensures.spent
