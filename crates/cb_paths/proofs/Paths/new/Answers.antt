use Rattle.std.proofs.Common.{ℕ, [], min, vec_capacity, sym, subst, ◌∙◌, arith}
use Rattle.cb_paths.specs.Walk.{IsWalk, to_come}
use Rattle.cb_paths.proofs.Order.{walk-start, products-to-come}
use Rattle.cb_paths.proofs.Paths.new.Goals as goal

pub invariant_of-result : goal.invariant_of-result
invariant_of-result c =
    let h = c.len.ensures.value in
    let k = c.len-2.ensures.value in
    let x = c.in_ok-literals.ensures.exact in
    let y = c.in_ok-others.ensures.exact in
    let ts = c.args.ops.now.triples in
    let room : ℕ = min (vec_capacity c.in_ok-literals.literals) (vec_capacity c.in_ok-others.others) in
    let start : IsWalk ts room [] [] c.args.f.0 = walk-start ts c.count-count.ensures.diagram c.args.f.0 room c.in_ok-levels.levels.items c.requires c.in_ok-levels.ensures.enough (omega arith) in
    subst (λ ls. IsWalk ts room ls c.in_ok-others.others.items c.args.f.0) (sym c.in_ok-literals.ensures.items) (subst (λ ns. IsWalk ts room [] ns c.args.f.0) (sym c.in_ok-others.ensures.items) start)

pub returns : goal.returns
returns c = record {
  products = λ env levels rise d. (λ j. to_come c.args.ops.now.triples (c.in_ok-literals.ensures.items j) (c.in_ok-others.ensures.items j) c.args.f.0) ∙ products-to-come c.args.ops.now.triples c.count-count.ensures.diagram c.args.f.0 c.requires env levels rise d;
}
