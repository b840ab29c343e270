use Rattle.std.proofs.Common.{[], List, refl, sym, subst}
use Rattle.std.proofs.lemmas.List.{length-set}
use Rattle.cb_join.specs.declared.cycle.Mark.TheVariants as mark
use Rattle.cb_join.specs.declared.cycle.Mark.{Mark}
use Rattle.cb_join.specs.Cycle.{AreDone, Frames}
use Rattle.cb_join.proofs.Follow.{ended-is, ended-within, wide}
use Rattle.cb_join.proofs.Ways.{met-finite, new-mark, noted-new, root-done, root-finite, root-frames}
use Rattle.cb_join.proofs.cycle.end_ends.Goals as goal

pub returns-in_err-push-in-New-2-clause-noted : goal.returns-in_err-push-in-New-2-clause-noted
returns-in_err-push-in-New-2-clause-noted c =
    noted-new c.args.work.now.marks.items c.args.work.now.met.items c.push.new.self.items c.args.end c.requires.idle.search.noted (ended-within c.args.heap.now.cells c.args.work.now.marks.items c.args.floor c.args.end c.requires.idle.search.number c.requires.end) c.in_ok-push-in-New.ensures.items

pub descend-requires-clause-search : goal.descend-requires-clause-search
descend-requires-clause-search c =
    let cs = c.args.heap.now.cells in
    let ms = c.args.work.now.marks.items in
    let new = new-mark c.deref.result.now ms c.deref.ensures.value c.args.end c.mark_of.result c.in-New.is c.mark_of.ensures.other in
    record {
      low = c.requires.idle.search.low;
      number = wide cs ms _ c.requires.idle.search.number (length-set ms c.args.end mark.Open);
      noted = noted-new ms c.args.work.now.met.items c.push.new.self.items c.args.end c.requires.idle.search.noted (ended-within cs ms c.args.floor c.args.end c.requires.idle.search.number c.requires.end) c.in_ok-push-in-New.ensures.items;
      done = root-done cs ms c.args.end new c.requires.idle.search.done;
      frames = root-frames cs ms c.args.end c.args.end (ended-is cs ms c.args.floor c.args.end c.mark_of.result c.in-New.is c.mark_of.ensures.low new c.requires.end) c.requires.idle.search.frames new _ refl refl c.push-in-New.new.self.items c.args.work.now.way.items c.requires.idle.empty c.in_ok-push-in-New-2.ensures.items;
    }

pub returns-in_ok-push-in-New-2-clause-finite : goal.returns-in_ok-push-in-New-2-clause-finite
returns-in_ok-push-in-New-2-clause-finite c h =
    let new = new-mark c.deref.result.now c.args.work.now.marks.items c.deref.ensures.value c.args.end c.mark_of.result c.in-New.is c.mark_of.ensures.other in
    root-finite c.args.heap.now.cells c.args.work.now.marks.items c.descend.new.work.marks.items c.args.end c.args.end (ended-is c.args.heap.now.cells c.args.work.now.marks.items c.args.floor c.args.end c.mark_of.result c.in-New.is c.mark_of.ensures.low new c.requires.end) new (c.descend.ensures.stays h) (c.descend.ensures.idle h).search.done (c.descend.ensures.idle h).search.frames

pub returns-in_default-clause-finite : goal.returns-in_default-clause-finite
returns-in_default-clause-finite c _ =
    met-finite c.args.heap.now.cells c.deref.result.now c.args.end c.args.floor c.mark_of.result c.mark_of.ensures.done c.mark_of.ensures.other c.in_default.not-New c.requires.idle.search.low
    (subst (λ (x : List Mark). AreDone c.args.heap.now.cells x) (sym c.deref.ensures.value) c.requires.idle.search.done) (subst (λ (x : List Mark). Frames c.args.heap.now.cells x []) (sym c.deref.ensures.value) c.requires.idle.search.frames)
