use Rattle.std.proofs.Common.{◌≡◌, ◌∷◌, ◌++◌, ◌∙◌, ap, rules, codes, drop}
use Rattle.cb_model.specs.Answers.{literal_text, product_text}
use Rattle.cb_show.specs.Levels.{level_name}
use Rattle.cb_show.proofs.Pieces.{whole, none_left}
use Rattle.cb_show.proofs.values.push_product.Goals as goal

pub returns : goal.returns
returns g c =
    let text = level_name c.args.naming.now.constants c.args.naming.now.first (g.N.Names.constants c.args.naming.now.names.now) in
    let e : c.in-Some.head.now ∷ c.in-Some.rest.now ≡ c.args.product.now = search rules in
    whole (codes "*") (literal_text text) c.args.line.now.items c.push_literal.new.line.items c.loop-literal.line.items c.in-Some.head.now
    (drop c.loop-literal.literal-index c.in-Some.rest.now) c.in-Some.rest.now c.loop-literal.invariant (none_left c.in-Some.rest.now c.loop-literal.literal-index c.loop-literal-test.false)
    c.in_ok-push_literal.ensures
    ∙ ap (λ p. c.args.line.now.items ++ product_text text p) e
