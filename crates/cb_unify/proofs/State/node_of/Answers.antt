use Rattle.std.proofs.Common.{◌≡◌, ◌+◌, ◌*◌, ◌≤◌, true, length, sym, subst}
use Rattle.cb_model.specs.Room.{expr_size}
use Rattle.cb_model.specs.Values.{in_scope}
use Rattle.cb_elim.specs.Unified.{HasCause}
use Rattle.cb_unify.specs.State.{Seen, IsState}
use Rattle.cb_unify.specs.Trees.{nodes_most}
use Rattle.cb_unify.proofs.Bounds.{expr-cause, expr-room}
use Rattle.cb_unify.proofs.Inside.{seen}
use Rattle.cb_unify.proofs.Written.{node-moments, node-ok, node-state}
use Rattle.cb_unify.proofs.State.node_of.Goals as goal

pub returns-clause-cause : goal.returns-clause-cause
returns-clause-cause c h =
    let s : Seen = seen c.self.inside in
    let is : IsState s = subst IsState (sym c.self.view_is) c.requires.state in
    subst (λ (o : Seen). HasCause o.store c.expr.new.self (nodes_most o.store (2 * expr_size c.args.e.now))) c.self.view_is
    (expr-cause s.store c.expr.new.self c.args.e.now (c.values_depend_on_live_levels.ensures s.store is.store) (c.expr.ensures.cause h))

pub returns-clause-moments : goal.returns-clause-moments
returns-clause-moments c =
    node-moments c.args.self.now (seen c.self.inside) c.self.view_is c.requires.state c.expr.new.self c.expr.ensures.only_nodes c.expr.ensures.store c.expr.ensures.moments

pub returns-clause-node : goal.returns-clause-node
returns-clause-node c =
    node-ok c.args.self.now (seen c.self.inside) c.self.view_is c.requires.state c.expr.new.self c.expr.ensures.only_nodes c.expr.ensures.store c.args.slots.now c.args.e.now c.expr.result c.expr.ensures.argument c.expr.ensures.function

pub returns-clause-room : goal.returns-clause-room
returns-clause-room c =
    let s : Seen = seen c.self.inside in
    let is : IsState s = subst IsState (sym c.self.view_is) c.requires.state in
    subst (λ (o : Seen). length c.expr.new.self.nodes.triples ≤ length o.store.nodes.triples + nodes_most o.store (expr_size c.args.e.now)) c.self.view_is
    (expr-room s.store c.args.e.now (length c.args.slots.now) c.expr.new.self.nodes (subst (λ (o : Seen). in_scope o.store.constants (length c.args.slots.now) c.args.e.now ≡ true) (sym c.self.view_is) c.requires.scope)
    (c.values_depend_on_live_levels.ensures s.store is.store) c.expr.ensures.room)

pub returns-clause-state : goal.returns-clause-state
returns-clause-state c = node-state c.args.self.now (seen c.self.inside) c.self.view_is c.requires.state c.expr.new.self c.expr.ensures.only_nodes c.expr.ensures.store
