use Rattle.std.proofs.Common.{◌<◌, length, refl, sym, arith}
use Rattle.std.proofs.lemmas.Option.{slice_get_within}
use Rattle.std.proofs.lemmas.List.{append-nil}
use Rattle.cb_shape.proofs.Ends.{term-there}
use Rattle.cb_shape.proofs.Telling.{on-ok}
use Rattle.cb_shape.proofs.Resting.{next-argument, rest-ends, rest-goes-on}
use Rattle.cb_shape.proofs.walk.tell_rest.Goals as goal

pub returns-then-count-eq0 : goal.returns-then-count-eq0
returns-then-count-eq0 c = λ roots ps many are.
    rest-ends c.args.heap.now.cells roots c.args.count ps c.args.walk.now _ c.args.pending.now.items c.if-count-eq0.true many
    (record { tokens = c.in_ok-push.ensures.items; slots = sym (append-nil c.args.walk.now.slots.items); opens = refl; places = omega arith })

pub overflow_add-at : goal.overflow_add-at
overflow_add-at c =
    let h = next-argument c.args.heap.now.cells c.args.at c.args.count c.requires.terms.0 c.if-count-eq0.false c.requires.terms.1 c.requires.terms.2 in
    let t = term-there c.args.heap.now.cells c.args.at h.p h.term in
    let w : c.args.at < length c.args.heap.now.cells = slice_get_within c.args.heap.now.cells c.args.at t.0 t.1 in
    omega (arith, w, c.len-cells.ensures.number, c.len-cells.ensures.small)

pub tell_cell-requires-clause-term : goal.tell_cell-requires-clause-term
tell_cell-requires-clause-term c =
    let h = next-argument c.args.heap.now.cells c.args.at c.args.count c.requires.terms.0 c.if-count-eq0.false c.requires.terms.1 c.requires.terms.2 in
    (h.p, h.term)

pub returns : goal.returns
returns c =
    on-ok c.tell_cell.result (λ a roots ps many are.
    rest-goes-on c.args.heap.now.cells roots c.args.at c.args.count ps c.args.walk.now _ c.tell_cell.new.walk c.args.pending.now.items c.push-3.new.self.items c.tell_cell.new.pending.items
    c.if-count-eq0.false many are c.in_ok-push-2.ensures.items refl refl refl c.in_ok-push-3.ensures.items (λ p h. a roots p h))
    c.tell_cell.ensures
