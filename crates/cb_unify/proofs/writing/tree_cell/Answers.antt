use Rattle.std.proofs.Common.{◌≡◌, ◌∷◌, [], rules}
use Rattle.cb_unify.specs.Works.{works, written}
use Rattle.cb_unify.proofs.Working.{one-cell}
use Rattle.cb_unify.proofs.writing.tree_cell.Goals as goal

pub returns-in-Ok-clause-tree : goal.returns-in-Ok-clause-tree
returns-in-Ok-clause-tree c =
    let e : written (works c.push.new.self.items) [] ≡ c.args.tree.now ∷ [] = search rules in
    one-cell c.args.state.now c.write.new.state c.args.frame.now (written (works c.push.new.self.items) []) c.args.tree.now c.write.result e c.write.ensures.tree
