use Rattle.std.proofs.Common.{subst}
use Rattle.cb_shape.specs.Walk.{IsWork}
use Rattle.cb_shape.proofs.Telling.{on-ok}
use Rattle.cb_shape.proofs.Stepping.{arguments-step, cell-steps, rest-steps, roots-step, tail-steps}
use Rattle.cb_shape.proofs.walk.step.Goals as goal

pub returns-in-Cell : goal.returns-in-Cell
returns-in-Cell c =
    on-ok c.tell_cell.result (λ a w h.
    cell-steps c.args.heap.now.cells c.args.roots.now c.in-Cell.r w c.args.walk.now c.tell_cell.new.walk c.args.pending.now.items c.tell_cell.new.pending.items
    (subst (λ x. IsWork c.args.heap.now.cells c.args.roots.now x w) c.in-Cell.is h) (a c.args.roots.now))
    c.tell_cell.ensures

pub returns-in-Rest : goal.returns-in-Rest
returns-in-Rest c =
    on-ok c.tell_rest.result (λ a w h.
    rest-steps c.args.heap.now.cells c.args.roots.now c.in-Rest.at c.in-Rest.count w c.args.walk.now c.tell_rest.new.walk c.args.pending.now.items c.tell_rest.new.pending.items
    (subst (λ x. IsWork c.args.heap.now.cells c.args.roots.now x w) c.in-Rest.is h) (a c.args.roots.now))
    c.tell_rest.ensures

pub returns-in-Tail : goal.returns-in-Tail
returns-in-Tail c =
    on-ok c.tell_tail.result (λ a w h.
    tail-steps c.args.heap.now.cells c.args.roots.now c.in-Tail.r w c.args.walk.now c.tell_tail.new.walk c.args.pending.now.items c.tell_tail.new.pending.items
    (subst (λ x. IsWork c.args.heap.now.cells c.args.roots.now x w) c.in-Tail.is h) (a c.args.roots.now))
    c.tell_tail.ensures

pub returns-in-Arguments : goal.returns-in-Arguments
returns-in-Arguments c =
    on-ok c.tell_arguments.result (λ a w h.
    arguments-step c.args.heap.now.cells c.args.roots.now c.in-Arguments.args w c.args.walk.now c.tell_arguments.new.walk c.args.pending.now.items c.tell_arguments.new.pending.items
    (subst (λ x. IsWork c.args.heap.now.cells c.args.roots.now x w) c.in-Arguments.is h) (a c.args.roots.now))
    c.tell_arguments.ensures

pub returns-in-Roots : goal.returns-in-Roots
returns-in-Roots c =
    on-ok c.tell_root.result (λ a w h.
    roots-step c.args.heap.now.cells c.args.roots.now c.in-Roots.at w c.args.walk.now c.tell_root.new.walk c.args.pending.now.items c.tell_root.new.pending.items
    (subst (λ x. IsWork c.args.heap.now.cells c.args.roots.now x w) c.in-Roots.is h) a)
    c.tell_root.ensures
