use Rattle.std.proofs.Common.{◌≡◌, inl, inr, ◌≤◌, length, get_or, subst, sym, arith}
use Rattle.std.proofs.lemmas.Bool.{cases_lt}
use Rattle.std.proofs.lemmas.List.{get_or_default}
use Rattle.cb_dd.specs.declared.Node.{Node}
use Rattle.cb_elim.specs.Watch.{UsesNew}
use Rattle.cb_elim.proofs.Moved.{there-at}
use Rattle.cb_elim.proofs.Noting.{each-all, each-at, each-map, each-next, each-none, each-past, uses-kept}
use Rattle.cb_elim.proofs.Covering.{covers-anew}
use Rattle.cb_elim.proofs.watch.noted.Goals as goal
use Rattle.cb_elim.proofs.watch.noted.Goals.{in-Some+in_ok-note-2, in_default}

pub note-requires-clause-new : goal.note-requires-clause-new
note-requires-clause-new c = there-at c.args.ops.now.triples c.args.slots.now c.loop-slot.slot _ c.requires.slots c.loop-slot-test.true

pub loop-slot-preserved : goal.loop-slot-preserved
loop-slot-preserved c = λ x d less. elim (cases_lt x c.loop-slot.slot) [
  | inl before ↦ uses-kept c.args.ops.now.triples c.args.constants 0 (get_or c.args.slots.now x d).0 x 0 c.loop-slot.uses c.note.new.uses c.note.ensures.kept (c.loop-slot.invariant x d before)
  | inr from ↦
      let e : x ≡ c.loop-slot.slot = omega arith in
      subst (λ y. UsesNew c.args.ops.now.triples c.args.constants c.note.new.uses 0 (get_or c.args.slots.now y d).0 y 0) (sym e)
      (subst (λ (n : Node). UsesNew c.args.ops.now.triples c.args.constants c.note.new.uses 0 n.0 c.loop-slot.slot 0) (get_or_default c.args.slots.now c.loop-slot.slot (record { 0 = 0 }) d c.loop-slot-test.true) c.in_ok-note.ensures.used)
]

pub loop-k-init : goal.loop-k-init
loop-k-init c = record {
  slots = λ x d less. c.loop-slot.invariant x d (let h : length c.args.slots.now ≤ c.loop-slot.slot = c.loop-slot-test.false in omega arith);
  changes = each-none (λ h. UsesNew c.args.ops.now.triples c.args.constants c.loop-slot.uses 0 h.value.0 h.slot 0) c.args.trail.now;
}

pub note-requires-in-Some-clause-new : goal.note-requires-in-Some-clause-new
note-requires-in-Some-clause-new c = each-at _ c.args.trail.now c.loop-k.k c.in-Some.change.now (sym c.in-Some.ensures) c.requires.changed

pub loop-k-preserved : goal.loop-k-preserved
loop-k-preserved c = elim c.match-get.branch [
  | in-Some+in_ok-note-2 w ↦ rw w.uses-is (record {
    slots = λ x d less. uses-kept c.args.ops.now.triples c.args.constants 0 (get_or c.args.slots.now x d).0 x 0 c.loop-k.uses w.note-in-Some.new.uses w.note-in-Some.ensures.kept (c.loop-k.invariant.slots x d less);
    changes = each-next (λ h. UsesNew c.args.ops.now.triples c.args.constants w.note-in-Some.new.uses 0 h.value.0 h.slot 0) c.args.trail.now c.loop-k.k w.in-Some.change.now (sym w.in-Some.ensures)
        (each-map (λ h. UsesNew c.args.ops.now.triples c.args.constants c.loop-k.uses 0 h.value.0 h.slot 0) (λ h. UsesNew c.args.ops.now.triples c.args.constants w.note-in-Some.new.uses 0 h.value.0 h.slot 0) _
        (λ h. uses-kept c.args.ops.now.triples c.args.constants 0 h.value.0 h.slot 0 c.loop-k.uses w.note-in-Some.new.uses w.note-in-Some.ensures.kept) c.loop-k.invariant.changes)
        w.in_ok-note-2.ensures.used;
  })
  | in_default w ↦ rw w.uses-is (record {
    slots = c.loop-k.invariant.slots;
    changes = each-past (λ h. UsesNew c.args.ops.now.triples c.args.constants c.loop-k.uses 0 h.value.0 h.slot 0) c.args.trail.now c.loop-k.k (sym (rw w.in_default.is at c.get.ensures)) c.loop-k.invariant.changes;
  })
]

pub returns : goal.returns
returns c =
    covers-anew c.args.constants c.args.ops.now.triples c.loop-k.uses c.args.slots.now c.args.trail.now c.loop-k.invariant.slots
    (each-all (λ h. UsesNew c.args.ops.now.triples c.args.constants c.loop-k.uses 0 h.value.0 h.slot 0) c.args.trail.now c.loop-k.k (let h = c.loop-k-test.false in let e = c.mark-k-end.ensures in omega arith) c.loop-k.invariant.changes)
