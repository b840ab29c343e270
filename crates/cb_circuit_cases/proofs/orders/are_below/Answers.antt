use Rattle.std.proofs.Common.{◌≡◌, ◌<◌, length, slice_index_or, sym, subst, inl, inr, arith, rules}
use Rattle.std.proofs.lemmas.Bool.{cases_lt}
use Rattle.std.proofs.lemmas.List.{get_or_default}
use Rattle.cb_circuit_cases.proofs.orders.are_below.Goals as goal

pub loop-at-preserved : goal.loop-at-preserved
loop-at-preserved c k d a b = elim (cases_lt k c.loop-at.at) [
  | inl lt ↦ c.loop-at.invariant k d a lt
  | inr ge ↦
      let same : k ≡ c.loop-at.at = omega (arith, b, ge) in
      let l : c.loop-at.at < length c.args.list.now = omega arith in
      let p : slice_index_or c.args.list.now c.loop-at.at 0 < c.args.count = search rules in
      subst (λ j. slice_index_or c.args.list.now j d < c.args.count) (sym same) (subst (λ v. v < c.args.count) (get_or_default c.args.list.now c.loop-at.at 0 d l) p)
]
