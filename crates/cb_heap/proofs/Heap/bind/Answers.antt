use Rattle.std.proofs.Common.{sym, ap, subst, ◌∙◌}
use Rattle.std.specs.Prelude.{slice_get, slice_set}
use Rattle.std.specs.Vec.{with_items}
use Rattle.cb_heap.specs.declared.Stored.TheVariants as cell
use Rattle.cb_heap.specs.Links.{IsLast}
use Rattle.cb_heap.specs.Heap.{IsUnboundAt}
use Rattle.cb_heap.proofs.Binding.{binds-from, binds-to, written}
use Rattle.cb_heap.proofs.Inside.{seen}
use Rattle.cb_heap.proofs.Heap.bind.Goals as goal

pub returns-in_ok-rewrite-clause-bound : goal.returns-in_ok-rewrite-clause-bound
returns-in_ok-rewrite-clause-bound c =
    (binds-from c.args.self.now (seen c.self.inside) c.self.view_is c.args.var.0 c.args.to.0 c.last_of-end.result.0 (subst (λ xs. IsLast xs c.args.to.0 c.last_of-end.result.0) c.deref.ensures.value c.last_of-end.ensures) (with_items c.self.inside.cells c.rewrite.new.cells).items c.rewrite.new.trail
    c.requires.heap c.requires.unbound c.requires.sorts c.requires.apart (c.is_younger_variable.ensures.yes c.if-is_younger_variable.true).0 (subst (λ xs. IsUnboundAt xs c.last_of-end.result.0) c.deref-2.ensures.value (c.is_younger_variable.ensures.yes c.if-is_younger_variable.true).1) (written c.self.inside.cells c.last_of-end.result.0 (cell.Bound c.args.var) _ (c.in_ok-rewrite.ensures.cells ∙ ap (λ xs. slice_set xs c.last_of-end.result.0 (cell.Bound c.args.var)) c.deref_mut.ensures.value)) (λ k is. c.in_ok-rewrite.ensures.trail k (ap (λ xs. slice_get xs c.last_of-end.result.0) c.deref_mut.ensures.value ∙ is))).0

pub returns-in_ok-rewrite-clause-heap : goal.returns-in_ok-rewrite-clause-heap
returns-in_ok-rewrite-clause-heap c =
    (binds-from c.args.self.now (seen c.self.inside) c.self.view_is c.args.var.0 c.args.to.0 c.last_of-end.result.0 (subst (λ xs. IsLast xs c.args.to.0 c.last_of-end.result.0) c.deref.ensures.value c.last_of-end.ensures) (with_items c.self.inside.cells c.rewrite.new.cells).items c.rewrite.new.trail
    c.requires.heap c.requires.unbound c.requires.sorts c.requires.apart (c.is_younger_variable.ensures.yes c.if-is_younger_variable.true).0 (subst (λ xs. IsUnboundAt xs c.last_of-end.result.0) c.deref-2.ensures.value (c.is_younger_variable.ensures.yes c.if-is_younger_variable.true).1) (written c.self.inside.cells c.last_of-end.result.0 (cell.Bound c.args.var) _ (c.in_ok-rewrite.ensures.cells ∙ ap (λ xs. slice_set xs c.last_of-end.result.0 (cell.Bound c.args.var)) c.deref_mut.ensures.value)) (λ k is. c.in_ok-rewrite.ensures.trail k (ap (λ xs. slice_get xs c.last_of-end.result.0) c.deref_mut.ensures.value ∙ is))).1

pub returns-in_ok-rewrite-clause-moments : goal.returns-in_ok-rewrite-clause-moments
returns-in_ok-rewrite-clause-moments c =
    (binds-from c.args.self.now (seen c.self.inside) c.self.view_is c.args.var.0 c.args.to.0 c.last_of-end.result.0 (subst (λ xs. IsLast xs c.args.to.0 c.last_of-end.result.0) c.deref.ensures.value c.last_of-end.ensures) (with_items c.self.inside.cells c.rewrite.new.cells).items c.rewrite.new.trail
    c.requires.heap c.requires.unbound c.requires.sorts c.requires.apart (c.is_younger_variable.ensures.yes c.if-is_younger_variable.true).0 (subst (λ xs. IsUnboundAt xs c.last_of-end.result.0) c.deref-2.ensures.value (c.is_younger_variable.ensures.yes c.if-is_younger_variable.true).1) (written c.self.inside.cells c.last_of-end.result.0 (cell.Bound c.args.var) _ (c.in_ok-rewrite.ensures.cells ∙ ap (λ xs. slice_set xs c.last_of-end.result.0 (cell.Bound c.args.var)) c.deref_mut.ensures.value)) (λ k is. c.in_ok-rewrite.ensures.trail k (ap (λ xs. slice_get xs c.last_of-end.result.0) c.deref_mut.ensures.value ∙ is))).2

pub returns-in_ok-rewrite-2-clause-bound : goal.returns-in_ok-rewrite-2-clause-bound
returns-in_ok-rewrite-2-clause-bound c =
    (binds-to c.args.self.now (seen c.self.inside) c.self.view_is c.args.var.0 c.args.to.0 c.last_of-end.result.0 (subst (λ xs. IsLast xs c.args.to.0 c.last_of-end.result.0) c.deref.ensures.value c.last_of-end.ensures) (with_items c.self.inside.cells c.rewrite-else-is_younger_variable.new.cells).items c.rewrite-else-is_younger_variable.new.trail
    c.requires.heap c.requires.unbound c.requires.sorts c.requires.apart (λ l u. c.is_younger_variable.ensures.no c.if-is_younger_variable.false l (subst (λ xs. IsUnboundAt xs c.last_of-end.result.0) (sym c.deref-2.ensures.value) u)) (written c.self.inside.cells c.args.var.0 (cell.Bound c.last_of-end.result) _ (c.in_ok-rewrite-2.ensures.cells ∙ ap (λ xs. slice_set xs c.args.var.0 (cell.Bound c.last_of-end.result)) c.deref_mut-else-is_younger_variable.ensures.value)) (λ k is. c.in_ok-rewrite-2.ensures.trail k (ap (λ xs. slice_get xs c.args.var.0) c.deref_mut-else-is_younger_variable.ensures.value ∙ is))).0

pub returns-in_ok-rewrite-2-clause-heap : goal.returns-in_ok-rewrite-2-clause-heap
returns-in_ok-rewrite-2-clause-heap c =
    (binds-to c.args.self.now (seen c.self.inside) c.self.view_is c.args.var.0 c.args.to.0 c.last_of-end.result.0 (subst (λ xs. IsLast xs c.args.to.0 c.last_of-end.result.0) c.deref.ensures.value c.last_of-end.ensures) (with_items c.self.inside.cells c.rewrite-else-is_younger_variable.new.cells).items c.rewrite-else-is_younger_variable.new.trail
    c.requires.heap c.requires.unbound c.requires.sorts c.requires.apart (λ l u. c.is_younger_variable.ensures.no c.if-is_younger_variable.false l (subst (λ xs. IsUnboundAt xs c.last_of-end.result.0) (sym c.deref-2.ensures.value) u)) (written c.self.inside.cells c.args.var.0 (cell.Bound c.last_of-end.result) _ (c.in_ok-rewrite-2.ensures.cells ∙ ap (λ xs. slice_set xs c.args.var.0 (cell.Bound c.last_of-end.result)) c.deref_mut-else-is_younger_variable.ensures.value)) (λ k is. c.in_ok-rewrite-2.ensures.trail k (ap (λ xs. slice_get xs c.args.var.0) c.deref_mut-else-is_younger_variable.ensures.value ∙ is))).1

pub returns-in_ok-rewrite-2-clause-moments : goal.returns-in_ok-rewrite-2-clause-moments
returns-in_ok-rewrite-2-clause-moments c =
    (binds-to c.args.self.now (seen c.self.inside) c.self.view_is c.args.var.0 c.args.to.0 c.last_of-end.result.0 (subst (λ xs. IsLast xs c.args.to.0 c.last_of-end.result.0) c.deref.ensures.value c.last_of-end.ensures) (with_items c.self.inside.cells c.rewrite-else-is_younger_variable.new.cells).items c.rewrite-else-is_younger_variable.new.trail
    c.requires.heap c.requires.unbound c.requires.sorts c.requires.apart (λ l u. c.is_younger_variable.ensures.no c.if-is_younger_variable.false l (subst (λ xs. IsUnboundAt xs c.last_of-end.result.0) (sym c.deref-2.ensures.value) u)) (written c.self.inside.cells c.args.var.0 (cell.Bound c.last_of-end.result) _ (c.in_ok-rewrite-2.ensures.cells ∙ ap (λ xs. slice_set xs c.args.var.0 (cell.Bound c.last_of-end.result)) c.deref_mut-else-is_younger_variable.ensures.value)) (λ k is. c.in_ok-rewrite-2.ensures.trail k (ap (λ xs. slice_get xs c.args.var.0) c.deref_mut-else-is_younger_variable.ensures.value ∙ is))).2
