use Rattle.std.proofs.Common.{ℕ, [], length, Option, sym, subst}
use Rattle.cb_model.specs.declared.Tree.TheVariants as tree
use Rattle.cb_unify.specs.Trees.{IsTreeOf}
use Rattle.cb_unify.proofs.Written.{each-of, nil-bus, own-bus, tail-scope}
use Rattle.cb_unify.proofs.build.end_cell.Goals as goal

pub get-requires : goal.get-requires
get-requires c = tail-scope c.args.state.now.store.constants (length c.args.frame.now) c.in-Some.n c.args.tail c.in-Some.is c.requires.scope

pub returns-in-Some-clause-tree : goal.returns-in-Some-clause-tree
returns-in-Some-clause-tree c =
    let s = c.args.state.now in
    subst (λ (o : Option ℕ). IsTreeOf s s c.args.frame.now (tree.Bus [] o) c.get.result.0) (sym c.in-Some.is)
    (own-bus s c.args.frame.now c.in-Some.n c.get.result.0 c.requires.state c.get.ensures (each-of (length s.heap.cells) c.args.frame.now c.in-Some.n c.get.result.0 c.requires.frame c.get.ensures))

pub returns-in-Ok-clause-tree : goal.returns-in-Ok-clause-tree
returns-in-Ok-clause-tree c =
    subst (λ (o : Option ℕ). IsTreeOf c.args.state.now c.put.new.self c.args.frame.now (tree.Bus [] o) c.in-Ok.r.0) (sym c.in-None.is) (nil-bus c.args.state.now c.put.new.self c.args.frame.now c.in-Ok.r.0 c.in-Ok.ensures.put)
