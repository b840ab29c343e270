use Rattle.std.proofs.Common.{◌≡◌, ◌+◌, min, length, ap, arith}
use Rattle.cb_model.specs.Answers.{paths}
use Rattle.cb_dd.specs.Diagram.{function_of}
use Rattle.cb_paths.specs.Products.{products_of}
use Rattle.cb_paths.proofs.Order.{products-are}
use Rattle.cb_paths.proofs.count.Goals as goal

pub returns-then-n-most : goal.returns-then-n-most
returns-then-n-most c = record {
  counted = λ env levels rise d.
      let e : length (paths (function_of c.args.ops.now.triples c.args.f.0) env levels) ≡ length (products_of c.args.ops.now.triples c.args.f.0)
      = ap length (products-are c.args.ops.now.triples c.count-count.ensures.diagram c.args.f.0 c.requires env levels rise d) in
      let h : c.in_ok-n.n ≡ min (length (products_of c.args.ops.now.triples c.args.f.0)) (c.args.most + 1) = c.in_ok-n.ensures.counted in
      omega arith;
}

pub returns : goal.returns
returns c = record {
  counted = λ env levels rise d.
      let e : length (paths (function_of c.args.ops.now.triples c.args.f.0) env levels) ≡ length (products_of c.args.ops.now.triples c.args.f.0)
      = ap length (products-are c.args.ops.now.triples c.count-count.ensures.diagram c.args.f.0 c.requires env levels rise d) in
      let h : c.in_ok-n.n ≡ min (length (products_of c.args.ops.now.triples c.args.f.0)) (c.args.most + 1) = c.in_ok-n.ensures.counted in
      (omega arith, omega arith);
}
