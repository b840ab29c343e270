use Rattle.std.proofs.Common.{◌∙◌, ◌+◌, ◌++◌, ◌∷◌, ◌≡◌, ◌<◌, [], List, length, sym, refl, subst}
use Rattle.cb_join.specs.declared.cycle.Frame.{Frame}
use Rattle.cb_join.specs.declared.cycle.Mark.{Mark}
use Rattle.cb_join.proofs.Follow.{end-is, follow-within, followed-finite, goes-after}
use Rattle.cb_join.proofs.Ways.{child-within, done-new, exit-cycle, exit-new, exit-next, exit-none, new-mark, no-mark, noted-done, noted-new, open-mark, top-open}
use Rattle.cb_join.proofs.cycle.go_on.Goals as goal

pub returns-in_default-clause-goes : goal.returns-in_default-clause-goes
returns-in_default-clause-goes c _ =
    exit-none c.args.heap.now.cells c.args.work.now.marks.items c.args.work.now.way.items c.args.frame c.requires.search.done c.requires.search.frames c.stored.result c.stored.ensures (sym c.child.ensures ∙ c.in_default.is)

pub returns-in_default-clause-noted : goal.returns-in_default-clause-noted
returns-in_default-clause-noted c =
    noted-done c.args.work.now.marks.items c.args.work.now.met.items c.args.frame.cell c.requires.search.noted (top-open c.args.heap.now.cells c.args.work.now.marks.items c.args.work.now.way.items c.args.frame c.requires.search.done c.requires.search.frames c.stored.result c.stored.ensures)

pub follow-end-requires-clause-from : goal.follow-end-requires-clause-from
follow-end-requires-clause-from c =
    child-within c.args.heap.now.cells c.requires.heap.linked c.args.frame.cell c.stored.result c.stored.ensures c.args.frame.next c.in-Some.to (sym c.child.ensures ∙ c.in-Some.is)

pub mark_of-requires : goal.mark_of-requires
mark_of-requires c =
    record { there = subst (λ (x : List Mark). c.follow-end.result < length x) (sym c.deref-2.ensures.value) (follow-within c.args.heap.now.cells c.deref.result.now c.args.work.now.marks.items c.deref.ensures.value c.args.floor c.follow-end.result c.requires.search.number c.follow-end.ensures.stops) }

pub mark_links-requires-clause-from : goal.mark_links-requires-clause-from
mark_links-requires-clause-from c =
    child-within c.args.heap.now.cells c.requires.heap.linked c.args.frame.cell c.stored.result c.stored.ensures c.args.frame.next c.in-Some.to (sym c.child.ensures ∙ c.in-Some.is)

pub mark_links-requires-clause-finite : goal.mark_links-requires-clause-finite
mark_links-requires-clause-finite c = followed-finite c.args.heap.now.cells c.deref-2.result.now c.args.work.now.marks.items c.deref-2.ensures.value c.args.floor c.in-Some.to c.follow-end.result c.mark_of.result c.follow-end.ensures.leads c.in-Done.is c.mark_of.ensures.done c.requires.search.low c.requires.search.done

pub returns-in-Open-clause-cycle : goal.returns-in-Open-clause-cycle
returns-in-Open-clause-cycle c _ =
    exit-cycle c.args.heap.now.cells c.args.work.now.marks.items c.args.work.now.way.items c.args.frame c.requires.search.done c.requires.search.frames c.stored.result c.stored.ensures c.in-Some.to c.follow-end.result (sym c.child.ensures ∙ c.in-Some.is)
    (end-is c.args.heap.now.cells c.deref.result.now c.deref-2.result.now c.args.work.now.marks.items c.deref.ensures.value c.deref-2.ensures.value c.args.floor c.in-Some.to c.follow-end.result c.mark_of.result c.follow-end.ensures.leads c.follow-end.ensures.stops c.mark_of.ensures.low c.mark_of.ensures.other (λ d. no-mark c.mark_of.result d c.in-Open.is))
    (open-mark c.deref-2.result.now c.args.work.now.marks.items c.deref-2.ensures.value c.follow-end.result c.mark_of.result c.in-Open.is c.mark_of.ensures.other)

pub index_mut-requires-in-New : goal.index_mut-requires-in-New
index_mut-requires-in-New c =
    subst (λ n. c.follow-end.result < n) (sym c.args.work.now.marks.ok.0) (follow-within c.args.heap.now.cells c.deref.result.now c.args.work.now.marks.items c.deref.ensures.value c.args.floor c.follow-end.result c.requires.search.number c.follow-end.ensures.stops)

pub returns-in_err-push-in-New-2-clause-noted : goal.returns-in_err-push-in-New-2-clause-noted
returns-in_err-push-in-New-2-clause-noted c =
    noted-new c.args.work.now.marks.items c.args.work.now.met.items c.push-in-New.new.self.items c.follow-end.result c.requires.search.noted (follow-within c.args.heap.now.cells c.deref.result.now c.args.work.now.marks.items c.deref.ensures.value c.args.floor c.follow-end.result c.requires.search.number c.follow-end.ensures.stops) c.in_ok-push-in-New.ensures.items

pub returns-in_err-push-in-New-3-clause-noted : goal.returns-in_err-push-in-New-3-clause-noted
returns-in_err-push-in-New-3-clause-noted c =
    noted-new c.args.work.now.marks.items c.args.work.now.met.items c.push-in-New.new.self.items c.follow-end.result c.requires.search.noted (follow-within c.args.heap.now.cells c.deref.result.now c.args.work.now.marks.items c.deref.ensures.value c.args.floor c.follow-end.result c.requires.search.number c.follow-end.ensures.stops) c.in_ok-push-in-New.ensures.items

pub returns-in_ok-push-in-New-3-clause-noted : goal.returns-in_ok-push-in-New-3-clause-noted
returns-in_ok-push-in-New-3-clause-noted c =
    noted-new c.args.work.now.marks.items c.args.work.now.met.items c.push-in-New.new.self.items c.follow-end.result c.requires.search.noted (follow-within c.args.heap.now.cells c.deref.result.now c.args.work.now.marks.items c.deref.ensures.value c.args.floor c.follow-end.result c.requires.search.number c.follow-end.ensures.stops) c.in_ok-push-in-New.ensures.items

pub returns-in_ok-push-in-Done-clause-goes : goal.returns-in_ok-push-in-Done-clause-goes
returns-in_ok-push-in-Done-clause-goes c _ =
    let more = c.in_ok-mark_links-in-Done.ensures.done in
    let ms = c.mark_links.new.work.marks.items in
    let fs = c.args.work.now.way.items in
    goes-after c.args.heap.now.cells c.args.work.now.marks.items ms ms fs c.push.new.self.items c.args.frame more
    (exit-next c.args.heap.now.cells ms fs c.args.frame (more.done c.requires.search.done) (more.frames (fs ++ c.args.frame ∷ []) c.requires.search.frames) c.stored.result c.stored.ensures c.in-Some.to (sym c.child.ensures ∙ c.in-Some.is)
    (followed-finite c.args.heap.now.cells c.deref-2.result.now c.args.work.now.marks.items c.deref-2.ensures.value c.args.floor c.in-Some.to c.follow-end.result c.mark_of.result c.follow-end.ensures.leads c.in-Done.is c.mark_of.ensures.done c.requires.search.low c.requires.search.done)
    _ refl refl c.push.new.self.items (subst (λ (x : List Frame). c.push.new.self.items ≡ x ++ record { cell = c.args.frame.cell; next = c.args.frame.next + 1 } ∷ []) c.in_ok-mark_links-in-Done.ensures.way c.in_ok-push-in-Done.ensures.items))

pub returns-in_ok-push-in-New-3-clause-goes : goal.returns-in_ok-push-in-New-3-clause-goes
returns-in_ok-push-in-New-3-clause-goes c _ =
    exit-new c.args.heap.now.cells c.args.work.now.marks.items c.args.work.now.way.items c.args.frame c.requires.search.done c.requires.search.frames c.stored.result c.stored.ensures c.in-Some.to c.follow-end.result (sym c.child.ensures ∙ c.in-Some.is)
    (end-is c.args.heap.now.cells c.deref.result.now c.deref-2.result.now c.args.work.now.marks.items c.deref.ensures.value c.deref-2.ensures.value c.args.floor c.in-Some.to c.follow-end.result c.mark_of.result c.follow-end.ensures.leads c.follow-end.ensures.stops c.mark_of.ensures.low c.mark_of.ensures.other (λ d. done-new c.mark_of.result d c.in-New.is))
    (new-mark c.deref-2.result.now c.args.work.now.marks.items c.deref-2.ensures.value c.follow-end.result c.mark_of.result c.in-New.is c.mark_of.ensures.other)
    _ refl refl c.push-in-New-2.new.self.items c.push-in-New-3.new.self.items c.in_ok-push-in-New-2.ensures.items c.in_ok-push-in-New-3.ensures.items
