use Rattle.std.specs.Prelude.{slice_set}
use Rattle.std.proofs.Common.{◌-◌, ◌<◌, ◌≤◌, ◌∙◌, length, get_or, Some, None, refl, ap, subst, sym, arith}
use Rattle.cb_model.specs.declared.Clause.{Clause}
use Rattle.cb_chains.proofs.Chaining.{chained_before}
use Rattle.cb_chains.proofs.Chains.new.Goals as goal

pub loop-at-preserved : goal.loop-at-preserved
loop-at-preserved c =
    let now = c.loop-at.invariant in
    let i = c.loop-at.at - 1 in
    let x = c.index-clauses-at.result in
    let low : i < length c.args.clauses.now = omega (arith, now.within) in
    record {
      within = omega (arith, now.within);
      chained = chained_before c.args.clauses.now c.args.preds c.loop-at.at i c.loop-at.firsts.items c.loop-at.nexts.items c.put.new.firsts.items c.put.new.nexts.items x
          c.loop-at-test.true refl now.within c.index-clauses-at.is (subst (λ (y : Clause). y.pred < c.args.preds) (sym c.index-clauses-at.is) (c.requires i x low)) (c.in_ok-put.ensures.firsts ∙ ap (λ (y : Clause). slice_set c.loop-at.firsts.items y.pred (Some i)) (sym c.index-clauses-at.is))
          (c.in_ok-put.ensures.nexts ∙ ap (λ (y : Clause). slice_set c.loop-at.nexts.items i (get_or c.loop-at.firsts.items y.pred None)) (sym c.index-clauses-at.is)) now.chained;
    }
