use Rattle.std.proofs.Common.{List, length, subst, sym, ap}
use Rattle.std.proofs.lemmas.Result.{err_from_is_err_and}
use Rattle.cb_dd.specs.declared.Node.{Node}
use Rattle.cb_dd.specs.Diagram.{Store}
use Rattle.cb_elim.specs.Store.{Seen}
use Rattle.cb_project.specs.Leaves.{ParametricRoom}
use Rattle.cb_project.specs.Answer.{IsProjected, slot_nodes}
use Rattle.cb_project.proofs.Slots.{lent-nodes, lent-below, drawn-draws, lent-cause, lent-draws, lent-moments, lent-projected, lent-store, some-renaming, room-none}
use Rattle.cb_project.proofs.general.Goals as goal

pub form_nodes-found-requires-clause-nodes : goal.form_nodes-found-requires-clause-nodes
form_nodes-found-requires-clause-nodes c = lent-nodes c.args.store.now c.draw-first.new.self (length c.args.leaves.now) c.draw-first.ensures.drawn c.args.leaves.now c.deref-2.result.now c.in_ok-values.values.items c.deref-2.ensures.value c.in_ok-values.ensures.values c.ops.result.now c.ops.ensures.value c.requires.store c.requires.slots

pub form_nodes-found-requires-clause-below : goal.form_nodes-found-requires-clause-below
form_nodes-found-requires-clause-below c = lent-below c.args.store.now c.draw-first.new.self (length c.args.leaves.now) c.draw-first.ensures.drawn c.args.leaves.now c.deref-2.result.now c.in_ok-values.values.items c.deref-2.ensures.value c.in_ok-values.ensures.values c.ops.result.now c.ops.ensures.value c.requires.store c.requires.slots c.draw-first.result c.draw-first.ensures.first

pub returns-in_err-nodes-clause-draws : goal.returns-in_err-nodes-clause-draws
returns-in_err-nodes-clause-draws c = lent-draws c.args.store.now c.draw-first.new.self (length c.args.leaves.now) c.draw-first.ensures.drawn c.args.leaves.now c.deref-2.result.now c.in_ok-values.values.items c.deref-2.ensures.value c.in_ok-values.ensures.values c.ops.result.now c.ops.ensures.value c.requires.store c.requires.slots c.form_nodes-found.new.ops c.form_nodes-found.ensures.grows

pub returns-in_err-nodes-clause-moments : goal.returns-in_err-nodes-clause-moments
returns-in_err-nodes-clause-moments c = lent-moments c.args.store.now c.draw-first.new.self (length c.args.leaves.now) c.draw-first.ensures.drawn c.args.leaves.now c.deref-2.result.now c.in_ok-values.values.items c.deref-2.ensures.value c.in_ok-values.ensures.values c.ops.result.now c.ops.ensures.value c.requires.store c.requires.slots c.form_nodes-found.new.ops c.form_nodes-found.ensures.grows

pub returns-in_err-nodes-clause-store : goal.returns-in_err-nodes-clause-store
returns-in_err-nodes-clause-store c = lent-store c.args.store.now c.draw-first.new.self (length c.args.leaves.now) c.draw-first.ensures.drawn c.args.leaves.now c.deref-2.result.now c.in_ok-values.values.items c.deref-2.ensures.value c.in_ok-values.ensures.values c.ops.result.now c.ops.ensures.value c.requires.store c.requires.slots c.form_nodes-found.new.ops c.form_nodes-found.ensures.grows

pub returns-clause-draws : goal.returns-clause-draws
returns-clause-draws c = lent-draws c.args.store.now c.draw-first.new.self (length c.args.leaves.now) c.draw-first.ensures.drawn c.args.leaves.now c.deref-2.result.now c.in_ok-values.values.items c.deref-2.ensures.value c.in_ok-values.ensures.values c.ops.result.now c.ops.ensures.value c.requires.store c.requires.slots c.form_nodes-found.new.ops c.form_nodes-found.ensures.grows

pub returns-clause-moments : goal.returns-clause-moments
returns-clause-moments c = lent-moments c.args.store.now c.draw-first.new.self (length c.args.leaves.now) c.draw-first.ensures.drawn c.args.leaves.now c.deref-2.result.now c.in_ok-values.values.items c.deref-2.ensures.value c.in_ok-values.ensures.values c.ops.result.now c.ops.ensures.value c.requires.store c.requires.slots c.form_nodes-found.new.ops c.form_nodes-found.ensures.grows

pub returns-clause-store : goal.returns-clause-store
returns-clause-store c = lent-store c.args.store.now c.draw-first.new.self (length c.args.leaves.now) c.draw-first.ensures.drawn c.args.leaves.now c.deref-2.result.now c.in_ok-values.values.items c.deref-2.ensures.value c.in_ok-values.ensures.values c.ops.result.now c.ops.ensures.value c.requires.store c.requires.slots c.form_nodes-found.new.ops c.form_nodes-found.ensures.grows

pub returns-clause-projected : goal.returns-clause-projected
returns-clause-projected c =
    subst (λ (ns : List Node). IsProjected c.args.store.now (record c.draw-first.new.self { nodes = c.form_nodes-found.new.ops }) c.args.leaves.now c.draw-first.result ns) (sym c.from_vec.ensures)
    (lent-projected c.args.store.now c.draw-first.new.self (length c.args.leaves.now) c.draw-first.ensures.drawn c.args.leaves.now c.deref-2.result.now c.in_ok-values.values.items c.deref-2.ensures.value c.in_ok-values.ensures.values c.ops.result.now c.ops.ensures.value c.requires.store c.requires.slots c.form_nodes-found.new.ops c.form_nodes-found.ensures.grows c.constants-constants.result c.draw-first.result c.in_ok-nodes.nodes.items c.constants-constants.ensures c.draw-first.ensures.first c.in_ok-nodes.ensures.form)

pub returns-in_err-nodes-clause-cause : goal.returns-in_err-nodes-clause-cause
returns-in_err-nodes-clause-cause c =
    let p = err_from_is_err_and c.from_residual-in_err-nodes.result c.from_residual-in_err-nodes.ensures.1 in
    rw (p.1, p.2) (λ h. lent-cause c.args.store.now c.draw-first.new.self (length c.args.leaves.now) c.draw-first.ensures.drawn c.args.leaves.now c.deref-2.result.now c.in_ok-values.values.items c.deref-2.ensures.value c.in_ok-values.ensures.values c.ops.result.now c.ops.ensures.value c.requires.store c.requires.slots c.form_nodes-found.new.ops c.form_nodes-found.ensures.grows c.form_nodes-found.ensures.room (c.in_err-nodes.ensures.rose (cc)) (c.in_err-nodes.ensures.full (cc)))

pub returns-in_err-values-clause-room : goal.returns-in_err-values-clause-room
returns-in_err-values-clause-room c =
    subst (λ (t : Store). ParametricRoom (slot_nodes c.args.store.now c.args.leaves.now) c.args.store.now.nodes t) (sym (ap (λ (o : Seen). o.nodes) c.draw-first.ensures.drawn))
    (room-none (slot_nodes c.args.store.now c.args.leaves.now) c.args.store.now.nodes)

pub returns-in_default-clause-room : goal.returns-in_default-clause-room
returns-in_default-clause-room c =
    subst (λ (t : Store). ParametricRoom (slot_nodes c.args.store.now c.args.leaves.now) c.args.store.now.nodes t) (sym (ap (λ (o : Seen). o.nodes) c.draw-first.ensures.drawn))
    (room-none (slot_nodes c.args.store.now c.args.leaves.now) c.args.store.now.nodes)

pub form_nodes-found-requires-clause-names : goal.form_nodes-found-requires-clause-names
form_nodes-found-requires-clause-names c =
    some-renaming c.in-Ok.names c.args.store.now c.draw-first.new.self (length c.args.leaves.now) c.draw-first.ensures.drawn c.args.leaves.now c.draw-first.result c.constants-constants.result c.deref-2.result.now c.in_ok-values.values.items c.ops.result.now
    c.draw-first.ensures.store c.requires.slots c.deref-2.ensures.value c.in_ok-values.ensures.values c.ops.ensures.value c.constants-constants.ensures c.in-Ok.ensures

pub returns-in_err-values-clause-draws : goal.returns-in_err-values-clause-draws
returns-in_err-values-clause-draws c = drawn-draws c.args.store.now c.draw-first.new.self (length c.args.leaves.now) c.draw-first.ensures.drawn c.draw-first.ensures.arguments

pub returns-in_default-clause-draws : goal.returns-in_default-clause-draws
returns-in_default-clause-draws c = drawn-draws c.args.store.now c.draw-first.new.self (length c.args.leaves.now) c.draw-first.ensures.drawn c.draw-first.ensures.arguments
