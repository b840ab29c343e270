use Rattle.std.proofs.Common.{◌≡◌, true, subst, sym}
use Rattle.cb_model.specs.Values.{in_scope}
use Rattle.cb_cases.proofs.systems.equate_both.Goals as goal

pub equate_expressions-requires-2-clause-right : goal.equate_expressions-requires-2-clause-right
equate_expressions-requires-2-clause-right c = subst (λ k. in_scope k 1 c.args.second.now ≡ true) (sym c.equate_expressions.ensures.constants) c.requires.second
