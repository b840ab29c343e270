use Rattle.std.proofs.Common.{◌≡◌, ℕ, nat_eq, sym, ap, subst, ◌∙◌}
use Rattle.std.proofs.lemmas.List.Sorted.{IsNonDecreasingBy-from_sort}
use Rattle.std.proofs.lemmas.Map.Keys.{IsStrictlyIncreasing-from_distinct}
use Rattle.std.specs.List.{list_any}
use Rattle.std.specs.List.Sorted.{IsStrictlyIncreasing}
use Rattle.cb_ops.proofs.Gather.{depends-listed, contains-listed}
use Rattle.cb_ops.proofs.Ops.support.Goals as goal

pub returns-clause-rise : goal.returns-clause-rise
returns-clause-rise c =
    let e : c.in_ok-list.list.items ≡ c.sort.new.self.keys = c.in_ok-list.ensures.ok ∙ c.as_slice.ensures.keys in
    subst IsStrictlyIncreasing (sym e) (IsStrictlyIncreasing-from_distinct c.sort.new.self.keys (IsNonDecreasingBy-from_sort (λ (x : ℕ). x) c.sort.new.self.keys c.in_ok-sort.ensures.sorted) c.sort.ensures.unique)

pub returns-clause-enough : goal.returns-clause-enough
returns-clause-enough c =
    let e : c.in_ok-list.list.items ≡ c.sort.new.self.keys = c.in_ok-list.ensures.ok ∙ c.as_slice.ensures.keys in
    depends-listed c.args.self.now.triples c.args.f.0 c.gather.new.levels.keys c.in_ok-list.list.items (λ l. ap (list_any (nat_eq l)) e ∙ c.sort.ensures.reordered.2 l) c.in_ok-gather.ensures.found

pub returns-clause-needed : goal.returns-clause-needed
returns-clause-needed c =
    let e : c.in_ok-list.list.items ≡ c.sort.new.self.keys = c.in_ok-list.ensures.ok ∙ c.as_slice.ensures.keys in
    λ l h free. c.in_ok-gather.ensures.matter l (sym (ap (list_any (nat_eq l)) e ∙ c.sort.ensures.reordered.2 l) ∙ contains-listed c.in_ok-list.list.items l h) free
