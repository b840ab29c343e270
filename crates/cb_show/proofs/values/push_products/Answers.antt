use Rattle.std.proofs.Common.{◌++◌, ◌∙◌, ap, refl, codes}
use Rattle.cb_model.specs.Answers.{product_text}
use Rattle.cb_show.specs.Levels.{level_name}
use Rattle.cb_show.proofs.Pieces.{whole}
use Rattle.cb_show.proofs.values.push_products.Goals as goal

pub returns : goal.returns
returns g c =
    let text = product_text (level_name c.args.naming.now.constants c.args.naming.now.first (g.N.Names.constants c.args.naming.now.names.now)) in
    whole (codes " + ") text c.args.line.now.items c.push_product.new.line.items c.loop-line.line.items c.args.products.now.product
    c.loop-line.products.to_come c.args.products.now.to_come c.loop-line.invariant.left (c.loop-line-test.ensures.none refl).0
    (c.in_ok-push_product.ensures ∙ ap (λ p. c.args.line.now.items ++ text p) c.product.ensures)
