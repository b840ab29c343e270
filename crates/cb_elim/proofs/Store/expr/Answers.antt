use Rattle.std.proofs.Common.{length}
use Rattle.cb_elim.proofs.Sizes.{expr-room, cut-cause, room-as-before, stopped}
use Rattle.cb_elim.proofs.Inside.{seen}
use Rattle.cb_elim.proofs.Kept.{watched-grown}
use Rattle.cb_elim.proofs.Views.{only-nodes, store-grown}
use Rattle.cb_elim.proofs.Back.{keeps-nodes}
use Rattle.cb_elim.proofs.Equations.{keeps-before, nodes-cut, only-before, store-before}
use Rattle.cb_elim.proofs.Expressions.{expression-argument}
use Rattle.cb_elim.proofs.Store.expr.Goals as goal

pub returns-in-Ok-clause-argument : goal.returns-in-Ok-clause-argument
returns-in-Ok-clause-argument c =
    expression-argument c.args.self.now (seen c.self.inside) c.self.view_is c.requires.store c.expression.new.ops c.expression.ensures.grows c.args.vars.now c.args.e.now c.in-Ok.n.0 c.requires.scope c.in-Ok.ensures.is_node (rw c.deref.ensures.value at c.in-Ok.ensures.function)

pub returns-in-Ok-clause-only_nodes : goal.returns-in-Ok-clause-only_nodes
returns-in-Ok-clause-only_nodes c = only-nodes c.args.self.now (seen c.self.inside) c.self.view_is c.requires.store c.expression.new.ops c.expression.ensures.grows

pub returns-in-Ok-clause-moments : goal.returns-in-Ok-clause-moments
returns-in-Ok-clause-moments c = keeps-nodes c.args.self.now (seen c.self.inside) c.expression.new.ops c.self.view_is c.expression.ensures.grows

pub returns-in-Ok-clause-store : goal.returns-in-Ok-clause-store
returns-in-Ok-clause-store c = store-grown c.args.self.now (seen c.self.inside) c.self.view_is c.requires.store c.expression.new.ops c.expression.ensures.grows

pub returns-in-Ok-clause-room : goal.returns-in-Ok-clause-room
returns-in-Ok-clause-room c = expr-room c.args.self.now (seen c.self.inside) c.self.view_is c.expression.new.ops (length c.args.vars.now) c.args.e.now (rw c.deref.ensures.value at c.expression.ensures.room)

pub returns-in-Err-clause-as_before : goal.returns-in-Err-clause-as_before
returns-in-Err-clause-as_before c =
    nodes-cut c.args.self.now (seen c.self.inside) c.self.view_is c.requires.store c.expression.new.ops c.cut.new.self c.expression.ensures.grows c.mark-before.result c.mark-before.ensures c.cut.ensures.triples c.cut.ensures.budget c.cut.ensures.fulls

pub returns-in-Err-clause-only_nodes : goal.returns-in-Err-clause-only_nodes
returns-in-Err-clause-only_nodes c = only-before c.args.self.now _ (returns-in-Err-clause-as_before c)

pub returns-in-Err-clause-moments : goal.returns-in-Err-clause-moments
returns-in-Err-clause-moments c = keeps-before c.args.self.now _ (returns-in-Err-clause-as_before c)

pub returns-in-Err-clause-store : goal.returns-in-Err-clause-store
returns-in-Err-clause-store c = store-before c.args.self.now _ c.requires.store (returns-in-Err-clause-as_before c)

pub returns-in-Err-clause-room : goal.returns-in-Err-clause-room
returns-in-Err-clause-room c = room-as-before c.args.self.now _ (length c.args.vars.now) c.args.e.now (returns-in-Err-clause-as_before c)

pub returns-in-Err-clause-cause : goal.returns-in-Err-clause-cause
returns-in-Err-clause-cause c = λ e.
    cut-cause c.args.self.now (seen c.self.inside) c.self.view_is c.expression.new.ops (length c.args.vars.now) c.args.e.now c.cut.new.self c.expression.ensures.grows c.requires.scope
    (rw c.deref.ensures.value at c.expression.ensures.room) c.in-Err.ensures.some (c.in-Err.ensures.full e) (stopped _ c.self.inside.ops.fulls c.in-Err.stop c.in-Err.ensures.fulls e) c.cut.ensures.fulls

pub invariant_of-self : goal.invariant_of-self
invariant_of-self c = watched-grown c.args.self.now (seen c.self.inside) c.self.view_is c.requires.store c.self.inside.lent c.self.inside.uses c.expression.new.ops c.expression.ensures.grows c.self.invariant
