use Rattle.std.proofs.Common.{◌≡◌, ◌++◌, take, map}
use Rattle.cb_heap.specs.declared.Ref.{Ref}
use Rattle.cb_heap.specs.declared.Stored.TheVariants as cell
use Rattle.cb_heap.proofs.made.push_links.Given as goal

abbrev pub invariant-loop-arg : goal.invariant-loop-arg
invariant-loop-arg l = l.cells.items ≡ l.fn.cells.items ++ map (λ (r : Ref). cell.Bound r) (take l.arg-index l.args)
