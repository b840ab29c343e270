use Rattle.std.proofs.Common.{rules, ◌≡◌, ◌∷◌, refl, sym, arith}
use Rattle.std.proofs.lemmas.List.{append-nil}
use Rattle.cb_shape.proofs.Telling.{on-ok}
use Rattle.cb_shape.proofs.Resting.{next-cell, cells-end, cells-go-on}
use Rattle.cb_shape.proofs.walk.tell_arguments.Goals as goal

pub returns-in_default : goal.returns-in_default
returns-in_default c = λ roots ps are.
    cells-end c.args.heap.now.cells roots c.args.args.now ps c.args.walk.now _ c.args.pending.now.items c.in_default.ensures.cases are
    (record { tokens = c.in_ok-push.ensures.items; slots = sym (append-nil c.args.walk.now.slots.items); opens = refl; places = omega arith })

pub tell_cell-requires-clause-term : goal.tell_cell-requires-clause-term
tell_cell-requires-clause-term c =
    let e : c.args.args.now ≡ c.in-Some.first.now ∷ c.in-Some.rest.now = search rules in
    let h = next-cell c.args.heap.now.cells c.args.args.now c.in-Some.first.now c.in-Some.rest.now c.requires.terms.0 e c.requires.terms.1 in
    (h.p, h.term)

pub returns : goal.returns
returns c =
    let e : c.args.args.now ≡ c.in-Some.first.now ∷ c.in-Some.rest.now = search rules in
    on-ok c.tell_cell.result (λ a roots ps are.
    cells-go-on c.args.heap.now.cells roots c.args.args.now c.in-Some.first.now c.in-Some.rest ps c.args.walk.now _ c.tell_cell.new.walk c.args.pending.now.items c.push-3.new.self.items c.tell_cell.new.pending.items
    e are c.in_ok-push-2.ensures.items refl refl refl c.in_ok-push-3.ensures.items (λ p h. a roots p h))
    c.tell_cell.ensures
