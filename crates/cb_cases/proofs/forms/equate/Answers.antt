use Rattle.cb_cases.proofs.forms.equate.Goals as goal

pub unify-requires-clause-f : goal.unify-requires-clause-f
unify-requires-clause-f c = c.expr-2.ensures.only_nodes.arguments c.in_ok-left.left.0 c.in_ok-left.ensures.argument
