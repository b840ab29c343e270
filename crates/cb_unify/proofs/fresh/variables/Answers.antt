use Rattle.std.proofs.Common.{[], ◌∷◌, ◌++◌, List, ℕ, take, sym, subst, arith, ◌∙◌}
use Rattle.std.specs.Prelude.{get_or}
use Rattle.cb_model.specs.declared.Sort.{Sort}
use Rattle.cb_model.specs.declared.Sort.TheVariants as sort
use Rattle.cb_unify.specs.Growth.{AreMade}
use Rattle.cb_unify.proofs.Back.{keeps-then}
use Rattle.cb_unify.proofs.Making.{bools-step, take-step}
use Rattle.cb_unify.proofs.Opened.{made-then}
use Rattle.cb_unify.proofs.fresh.variables.Goals as goal

pub loop-sort-preserved : goal.loop-sort-preserved
loop-sort-preserved c =
    let old = c.args.state.now in
    let now = c.loop-sort.state in
    let new = c.variable.new.self in
    let k = c.loop-sort.sort-index in
    let zs = c.args.sorts.now in
    let z : Sort = get_or zs k sort.Bool in
    record {
      made = subst (λ (xs : List Sort). AreMade old new xs c.push.new.self.items) (sym (take-step zs k sort.Bool c.loop-sort-test.true))
          (subst (λ (f : List ℕ). AreMade old new (take k zs ++ z ∷ []) f) (sym c.in-Ok.ensures.items)
          (made-then old now new (take k zs) (z ∷ []) c.loop-sort.cells.items (c.in_ok-cell.cell ∷ []) c.loop-sort.invariant.made c.in_ok-cell.ensures.made));
      room = let e = bools-step zs k sort.Bool c.loop-sort-test.true in let a = c.loop-sort.invariant.room in let b = c.variable.ensures.room in omega arith;
      fulls = c.in_ok-cell.ensures.fulls ∙ c.loop-sort.invariant.fulls;
      moments = keeps-then old now new c.loop-sort.invariant.moments c.variable.ensures.moments;
      state = c.variable.ensures.state;
    }
