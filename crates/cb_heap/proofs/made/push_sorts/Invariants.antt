use Rattle.std.proofs.Common.{◌≡◌, ◌++◌, take, map}
use Rattle.std.specs.Prelude.{get_or}
use Rattle.cb_model.specs.declared.Sort.TheVariants as sort
use Rattle.cb_heap.specs.declared.Ref.{Ref}
use Rattle.cb_heap.proofs.made.push_sorts.Given as goal

abbrev pub invariant-loop-arg : goal.invariant-loop-arg
invariant-loop-arg l = l.sorts.items ≡ l.fn.sorts.items ++ map (λ (r : Ref). get_or l.fn.sorts.items r.0 sort.Bool) (take l.arg-index l.args)
