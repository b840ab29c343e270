use Rattle.std.proofs.Common.{length, rules, sym, subst}
use Rattle.cb_model.specs.declared.Tree.{Tree}
use Rattle.cb_unify.specs.Trees.{IsTreeOf}
use Rattle.cb_unify.proofs.Written.{each-of, int-at, own-term, slots-later}
use Rattle.cb_unify.proofs.writing.simple_cell.Goals as goal

pub returns-in-Var-clause-tree : goal.returns-in-Var-clause-tree
returns-in-Var-clause-tree c =
    let s = c.args.state.now in
    subst (λ (x : Tree). IsTreeOf s s c.args.frame.now x c.get.result.0) (sym c.in-Var.is)
    (own-term s c.args.frame.now c.in-Var.n c.get.result.0 c.requires.state c.get.ensures (each-of (length s.heap.cells) c.args.frame.now c.in-Var.n c.get.result.0 c.requires.frame c.get.ensures))

pub returns-in-Ok-clause-tree : goal.returns-in-Ok-clause-tree
returns-in-Ok-clause-tree c =
    int-at c.args.state.now c.put.new.self c.args.frame.now _ c.in-Ok.r.0 c.in-Ok.ensures.put c.args.tree.now c.in-Int.value c.in-Int.is (search rules) (search rules)

pub returns-in-Ok-clause-slots : goal.returns-in-Ok-clause-slots
returns-in-Ok-clause-slots c = slots-later c.args.state.now c.put.new.self 0 c.args.frame.now c.args.slots.now.items c.requires.state c.in-Ok.ensures.put.added c.requires.frame c.requires.slots
