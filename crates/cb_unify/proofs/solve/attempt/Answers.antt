use Rattle.std.proofs.Common.{ℕ, List, length, ap, sym, subst, Ok}
use Rattle.cb_elim.specs.Pairs.{AreSlots}
use Rattle.cb_elim.specs.Store.{view_of}
use Rattle.cb_unify.specs.Solve.{NoBits, SolvesPairs}
use Rattle.cb_unify.proofs.Solving.{all-solved, bits-none, cause-from, clash-none, cycle-none, none-owed, owed-bound, owed-slots, pending-within, room-from, then-closed, then-ends}
use Rattle.cb_unify.proofs.solve.attempt.Goals as goal

pub join-requires-clause-within : goal.join-requires-clause-within
join-requires-clause-within c =
    pending-within c.args.heap.now c.args.store.now c.args.pairs.now c.in-Ok.owed.pending.items c.in-Ok.ensures.pending c.in-Ok.owed.leaves.items c.in-Ok.ensures.leaves c.requires.there

pub returns-in-Ok-false-clause-none : goal.returns-in-Ok-false-clause-none
returns-in-Ok-false-clause-none c _ =
    clash-none c.args.heap.now c.args.store.now c.args.pairs.now c.in-Ok.owed.pending.items c.in-Ok.ensures.pending c.in-Ok.owed.leaves.items c.in-Ok.ensures.leaves (c.in-Ok-false.ensures.clashes (ap Ok c.in-Ok-false.field-0-test))

pub is_finite-requires-clause-settled : goal.is_finite-requires-clause-settled
is_finite-requires-clause-settled c =
    then-closed c.args.heap.now c.join.new.heap c.requires.state.heap c.in-Ok-true.ensures.moments c.mark-since.result c.mark-since.ensures.moment c.mark-since.ensures.now c.args.settled c.requires.settled

pub is_finite-requires-clause-ends : goal.is_finite-requires-clause-ends
is_finite-requires-clause-ends c =
    then-ends c.args.heap.now c.join.new.heap c.requires.state.heap c.in-Ok-true.ensures.moments c.mark-since.result c.mark-since.ensures.moment c.mark-since.ensures.now
    (c.in-Ok-true.ensures.keeps (ap Ok c.in-Ok-true.field-0-test)).ends

pub returns-in-Ok-false-is_finite-clause-none : goal.returns-in-Ok-false-is_finite-clause-none
returns-in-Ok-false-is_finite-clause-none c _ =
    cycle-none c.args.heap.now c.args.store.now c.args.pairs.now c.in-Ok.owed.pending.items c.in-Ok.ensures.pending c.in-Ok.owed.leaves.items c.in-Ok.ensures.leaves
    c.join.new.heap c.in-Ok-true.ensures.sorts c.join.new.owed.leaves.items (c.in-Ok-true.ensures.joined (ap Ok c.in-Ok-true.field-0-test)) (c.in-Ok-false-is_finite.ensures.cycle (ap Ok c.in-Ok-false-is_finite.field-0-test))

pub unify_slots-requires-clause-slots : goal.unify_slots-requires-clause-slots
unify_slots-requires-clause-slots c =
    subst (λ (x : List (ℕ × ℕ)). AreSlots c.args.store.now x) (sym c.deref.ensures.value)
    (owed-slots c.args.store.now c.args.heap.now.sorts c.args.heap.now.cells c.join.new.heap.cells c.in-Ok.owed.leaves.items c.join.new.owed.leaves.items c.in-Ok.ensures.leaves c.requires.state.rise (c.in-Ok-true.ensures.keeps (ap Ok c.in-Ok-true.field-0-test)))

pub returns-clause-solved : goal.returns-clause-solved
returns-clause-solved c e =
    let keeps = c.in-Ok-true.ensures.keeps (ap Ok c.in-Ok-true.field-0-test) in
    record {
      solved = all-solved c.args.heap.now c.args.store.now c.args.pairs.now c.in-Ok.owed.pending.items c.in-Ok.ensures.pending c.in-Ok.owed.leaves.items c.in-Ok.ensures.leaves
          c.join.new.heap c.in-Ok-true.ensures.sorts c.join.new.owed.leaves.items (c.in-Ok-true.ensures.joined (ap Ok c.in-Ok-true.field-0-test))
          c.unify_slots.new.store (subst (λ (x : List (ℕ × ℕ)). SolvesPairs (view_of c.args.store.now) (view_of c.unify_slots.new.store) x) c.deref.ensures.value (c.unify_slots.ensures.solved e))
          (c.in-Ok-true-is_finite.ensures.finite (ap Ok c.in-Ok-true-is_finite.field-0-test)) keeps.sorted;
      finite = c.in-Ok-true-is_finite.ensures.finite (ap Ok c.in-Ok-true-is_finite.field-0-test);
      leaves = (c.join.new.owed.leaves.items, none-owed c.args.store.now c.args.heap.now.sorts c.args.heap.now.cells c.join.new.heap.cells c.in-Ok.owed.leaves.items c.join.new.owed.leaves.items c.in-Ok.ensures.leaves c.requires.state.rise keeps);
      values = c.unify_slots.ensures.values e;
    }

pub returns-clause-none : goal.returns-clause-none
returns-clause-none c e =
    bits-none c.args.heap.now c.args.store.now c.args.pairs.now c.in-Ok.owed.pending.items c.in-Ok.ensures.pending c.in-Ok.owed.leaves.items c.in-Ok.ensures.leaves
    c.join.new.heap c.in-Ok-true.ensures.sorts c.join.new.owed.leaves.items (c.in-Ok-true.ensures.joined (ap Ok c.in-Ok-true.field-0-test)) (subst (λ (x : List (ℕ × ℕ)). NoBits (view_of c.args.store.now) x) c.deref.ensures.value (c.unify_slots.ensures.none e))

pub returns-clause-spends : goal.returns-clause-spends
returns-clause-spends c =
    let bound = owed-bound c.args.store.now c.args.heap.now.sorts c.args.heap.now.cells c.join.new.heap.cells c.in-Ok.owed.leaves.items c.join.new.owed.leaves.items c.in-Ok.ensures.leaves c.requires.state.rise (c.in-Ok-true.ensures.keeps (ap Ok c.in-Ok-true.field-0-test)) in
    record {
      room = room-from c.args.store.now (length c.unify_slots.new.store.nodes.triples) (length c.args.store.now.nodes.triples) c.deref.result.now c.join.new.owed.leaves.items c.deref.ensures.value bound c.unify_slots.ensures.room;
      cause = λ e. cause-from c.args.store.now c.unify_slots.new.store c.deref.result.now c.join.new.owed.leaves.items c.deref.ensures.value bound (c.unify_slots.ensures.nodes e);
      fulls = c.unify_slots.ensures.fulls;
    }
