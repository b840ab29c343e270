use Rattle.std.proofs.Common.{ap, ◌∙◌}
use Rattle.std.specs.Prelude.{slice_get, slice_set}
use Rattle.std.specs.Vec.{with_items}
use Rattle.cb_heap.proofs.Binding.{writes, written}
use Rattle.cb_heap.proofs.Inside.{seen}
use Rattle.cb_heap.proofs.Heap.rewrite.Goals as goal

pub returns-clause-rewritten : goal.returns-clause-rewritten
returns-clause-rewritten c =
    (writes c.args.self.now (seen c.self.inside) c.self.view_is c.args.r.0 c.args.new (with_items c.self.inside.cells c.rewrite.new.cells).items c.rewrite.new.trail c.requires.heap c.requires.there c.requires.linked
    (written c.self.inside.cells c.args.r.0 c.args.new _ (c.in_ok-rewrite.ensures.cells ∙ ap (λ xs. slice_set xs c.args.r.0 c.args.new) c.deref_mut.ensures.value))
    (λ k is. c.in_ok-rewrite.ensures.trail k (ap (λ xs. slice_get xs c.args.r.0) c.deref_mut.ensures.value ∙ is))).0

pub returns-clause-heap : goal.returns-clause-heap
returns-clause-heap c =
    (writes c.args.self.now (seen c.self.inside) c.self.view_is c.args.r.0 c.args.new (with_items c.self.inside.cells c.rewrite.new.cells).items c.rewrite.new.trail c.requires.heap c.requires.there c.requires.linked
    (written c.self.inside.cells c.args.r.0 c.args.new _ (c.in_ok-rewrite.ensures.cells ∙ ap (λ xs. slice_set xs c.args.r.0 c.args.new) c.deref_mut.ensures.value))
    (λ k is. c.in_ok-rewrite.ensures.trail k (ap (λ xs. slice_get xs c.args.r.0) c.deref_mut.ensures.value ∙ is))).1

pub returns-clause-moments : goal.returns-clause-moments
returns-clause-moments c =
    (writes c.args.self.now (seen c.self.inside) c.self.view_is c.args.r.0 c.args.new (with_items c.self.inside.cells c.rewrite.new.cells).items c.rewrite.new.trail c.requires.heap c.requires.there c.requires.linked
    (written c.self.inside.cells c.args.r.0 c.args.new _ (c.in_ok-rewrite.ensures.cells ∙ ap (λ xs. slice_set xs c.args.r.0 c.args.new) c.deref_mut.ensures.value))
    (λ k is. c.in_ok-rewrite.ensures.trail k (ap (λ xs. slice_get xs c.args.r.0) c.deref_mut.ensures.value ∙ is))).2
