use Rattle.std.proofs.Common.{◌≡◌, true, subst, sym}
use Rattle.cb_model.specs.Values.{in_scope}
use Rattle.cb_cases.proofs.products.is_refused.Goals as goal

pub equate_expressions-requires-2-clause-left : goal.equate_expressions-requires-2-clause-left
equate_expressions-requires-2-clause-left c = subst (λ k. in_scope k 1 c.args.product.now ≡ true) (sym c.equate_expressions.ensures.constants) c.requires.product

pub are_rewritten-none-requires : goal.are_rewritten-none-requires
are_rewritten-none-requires c = record {
  moment = c.equate_expressions-2.ensures.moments.moments c.mark-start.result (c.equate_expressions.ensures.moments.moments c.mark-start.result c.mark-start.ensures.is_moment);
}
