use Rattle.std.proofs.Common.{◌≡◌, take, drop, subst, sym, ◌∙◌, arith}
use Rattle.std.proofs.lemmas.Grind.{common_steps}
use Rattle.cb_heap.specs.Heap.{IsHeap}
use Rattle.cb_heap.specs.Moments.{Moment, undone}
use Rattle.cb_heap.proofs.Inside.{seen}
use Rattle.cb_heap.proofs.Back.{undo-is, back-to, keeps-back}
use Rattle.cb_heap.proofs.Heap.undo.Goals as goal

pub returns-clause-reverted : goal.returns-clause-reverted
returns-clause-reverted c =
    let m : Moment = record { cells = c.to.inside.cells; trail = c.to.inside.trail } in
    let cells : c.truncate.new.self.items ≡ take c.to.inside.cells (undone (drop c.to.inside.trail c.self.inside.trail) c.self.inside.cells.items) = grind (arith, common_steps) in
    undo-is c.args.self.now (seen c.self.inside) c.self.view_is c.args.to m c.to.view_is c.take_back.new.trail c.take_back.ensures.trail c.truncate.new.self.items cells c.truncate-2.new.self.items c.truncate-2.ensures.items

pub returns-clause-heap : goal.returns-clause-heap
returns-clause-heap c = subst IsHeap (sym (returns-clause-reverted c)) c.requires.moment.heap

pub returns-clause-back : goal.returns-clause-back
returns-clause-back c = λ t h e k. returns-clause-reverted c ∙ back-to t c.args.self.now c.args.to h e k

pub returns-clause-moments : goal.returns-clause-moments
returns-clause-moments c = λ t h e k. keeps-back t c.args.self.now _ c.args.to (returns-clause-reverted c) h e k
