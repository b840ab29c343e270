use Rattle.std.proofs.Common.{◌∷◌, refl}
use Rattle.cb_show.proofs.Fronts.{on_ok}
use Rattle.cb_show.proofs.Counts.{not_empty, nothing_there, none_there, some_there}
use Rattle.cb_show.proofs.Shown.{none_shown, empty_shown, large_shown, sum_shown, all_shown}
use Rattle.cb_show.proofs.values.push_value.Goals as goal

pub returns-then-is_none : goal.returns-then-is_none
returns-then-is_none g c = record {
  text = large_shown c.args.ops.now.triples c.args.f.0 c.args.constants c.args.first c.requires.order (g.N.Names.constants c.args.names.now) c.in_ok-count.field-0
      c.in_ok-count.ensures.counted (none_there c.is_none.result c.in_ok-count.field-0 c.is_none.ensures c.if-is_none.true) c.args.line.now.items c.extend_from_slice.new.self.items
      c.in_ok-extend_from_slice.ensures.items;
}

pub returns-then-not-advance : goal.returns-then-not-advance
returns-then-not-advance g c = record {
  text = none_shown c.args.ops.now.triples c.args.f.0 c.args.constants c.args.first c.requires.order (g.N.Names.constants c.args.names.now) c.in_ok-products.products.to_come
      c.in_ok-products.ensures.products (c.if-not-advance.ensures.none refl).0 c.args.line.now.items c.push.new.self.items c.in_ok-push.ensures.items;
}

pub returns-then-is_empty : goal.returns-then-is_empty
returns-then-is_empty g c =
    let z = nothing_there c.is_empty.result c.product.result.now c.advance.new.self.product c.is_empty.ensures c.if-is_empty.true c.product.ensures in
    record {
      text = empty_shown c.args.ops.now.triples c.args.f.0 c.args.constants c.args.first c.requires.order (g.N.Names.constants c.args.names.now) c.in_ok-products.products.to_come
          c.advance.new.self.to_come c.advance.new.self.product c.in_ok-products.ensures.products (c.if-not-advance.ensures.some refl) z c.args.line.now.items
          c.push-then-is_empty.new.self.items c.in_ok-push-2.ensures.items;
    }

pub push_products-requires-clause-levels : goal.push_products-requires-clause-levels
push_products-requires-clause-levels g c =
    all_shown c.args.ops.now.triples c.args.f.0 c.args.constants c.args.first c.requires.order (g.N.Names.constants c.args.names.now) c.in_ok-products.products.to_come
    (c.advance.new.self.product ∷ c.advance.new.self.to_come) c.in_ok-products.ensures.products (c.if-not-advance.ensures.some refl) c.requires.scope

pub returns : goal.returns
returns g c = record {
  text = on_ok c.push_products.result
      (sum_shown c.args.ops.now.triples c.args.f.0 c.args.constants c.args.first c.requires.order (g.N.Names.constants c.args.names.now) c.in_ok-count.field-0
      c.in_ok-products.products.to_come c.advance.new.self.to_come c.advance.new.self.product c.in_ok-count.ensures.counted
      (some_there c.is_none.result c.in_ok-count.field-0 c.is_none.ensures c.if-is_none.false) c.in_ok-products.ensures.products (c.if-not-advance.ensures.some refl)
      (not_empty c.is_empty.result c.product.result.now c.advance.new.self.product c.is_empty.ensures c.if-is_empty.false c.product.ensures) c.args.line.now.items
      c.push_products.new.line.items)
      c.push_products.ensures;
}
