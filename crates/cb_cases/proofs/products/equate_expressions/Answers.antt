use Rattle.std.proofs.Common.{◌≡◌, true, length, subst, sym}
use Rattle.cb_model.specs.Values.{in_scope}
use Rattle.cb_elim.specs.Store.{Seen}
use Rattle.cb_cases.proofs.Moments.{keeps-then}
use Rattle.cb_cases.proofs.products.equate_expressions.Goals as goal

pub expr-requires-2-clause-scope : goal.expr-requires-2-clause-scope
expr-requires-2-clause-scope c = subst (λ (s : Seen). in_scope s.constants (length c.args.vars.now) c.args.g.now ≡ true) (sym c.expr.ensures.only_nodes.same) c.requires.right

pub unify-requires-clause-f : goal.unify-requires-clause-f
unify-requires-clause-f c = c.expr-2.ensures.only_nodes.arguments c.in_ok-left.left.0 c.in_ok-left.ensures.argument

pub returns-in_err-right-clause-moments : goal.returns-in_err-right-clause-moments
returns-in_err-right-clause-moments c = keeps-then c.args.store.now c.expr.new.self c.expr-2.new.self c.expr.ensures.moments c.expr-2.ensures.moments

pub returns-clause-moments : goal.returns-clause-moments
returns-clause-moments c =
    keeps-then c.args.store.now c.expr.new.self c.unify.new.self c.expr.ensures.moments (keeps-then c.expr.new.self c.expr-2.new.self c.unify.new.self c.expr-2.ensures.moments c.unify.ensures.moments)
