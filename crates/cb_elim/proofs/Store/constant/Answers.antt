use Rattle.std.proofs.Common.{◌∙◌, arith}
use Rattle.std.proofs.lemmas.Result.{err_from_is_err_and}
use Rattle.cb_elim.proofs.Sizes.{one-cause, stopped}
use Rattle.cb_dd.proofs.Children.{bottom_child, top_child}
use Rattle.cb_ops.proofs.Ite.{literal-is}
use Rattle.cb_elim.proofs.Inside.{seen}
use Rattle.cb_elim.proofs.Kept.{watched-grown}
use Rattle.cb_elim.proofs.Views.{only-nodes, store-grown, constant-argument}
use Rattle.cb_elim.proofs.Back.{keeps-nodes}
use Rattle.cb_elim.proofs.Store.constant.Goals as goal

pub node-requires-clause-lo_child : goal.node-requires-clause-lo_child
node-requires-clause-lo_child c = bottom_child _ _ (omega (arith, c.ranges.k.fits))

pub node-requires-clause-hi_child : goal.node-requires-clause-hi_child
node-requires-clause-hi_child c = top_child _ _ (omega (arith, c.ranges.k.fits))

pub returns-in_err-n-clause-only_nodes : goal.returns-in_err-n-clause-only_nodes
returns-in_err-n-clause-only_nodes c = only-nodes c.args.self.now (seen c.self.inside) c.self.view_is c.requires.store c.node.new.self c.node.ensures.grows

pub returns-in_err-n-clause-moments : goal.returns-in_err-n-clause-moments
returns-in_err-n-clause-moments c = keeps-nodes c.args.self.now (seen c.self.inside) c.node.new.self c.self.view_is c.node.ensures.grows

pub returns-in_err-n-clause-store : goal.returns-in_err-n-clause-store
returns-in_err-n-clause-store c = store-grown c.args.self.now (seen c.self.inside) c.self.view_is c.requires.store c.node.new.self c.node.ensures.grows

pub returns-clause-function : goal.returns-clause-function
returns-clause-function c = record { at = λ p. c.in_ok-n.ensures.function p ∙ literal-is c.self.inside.ops.triples (p c.args.k) p }

pub returns-clause-argument : goal.returns-clause-argument
returns-clause-argument c =
    constant-argument c.args.self.now (seen c.self.inside) c.self.view_is c.requires.store c.node.new.self c.node.ensures.grows c.args.k c.in_ok-n.n.0 c.requires.constant c.in_ok-n.ensures.is_node
    (record { at = λ p. c.in_ok-n.ensures.function p ∙ literal-is c.self.inside.ops.triples (p c.args.k) p })

pub returns-clause-only_nodes : goal.returns-clause-only_nodes
returns-clause-only_nodes c = only-nodes c.args.self.now (seen c.self.inside) c.self.view_is c.requires.store c.node.new.self c.node.ensures.grows

pub returns-clause-moments : goal.returns-clause-moments
returns-clause-moments c = keeps-nodes c.args.self.now (seen c.self.inside) c.node.new.self c.self.view_is c.node.ensures.grows

pub returns-clause-store : goal.returns-clause-store
returns-clause-store c = store-grown c.args.self.now (seen c.self.inside) c.self.view_is c.requires.store c.node.new.self c.node.ensures.grows

pub returns-in_err-n-clause-cause : goal.returns-in_err-n-clause-cause
returns-in_err-n-clause-cause c =
    let p = err_from_is_err_and c.from_residual.result c.from_residual.ensures.1 in
    rw (p.1, p.2) (λ e. one-cause c.args.self.now (seen c.self.inside) c.self.view_is c.node.new.self (c.in_err-n.ensures.nodes (cc e)).full (stopped _ c.self.inside.ops.fulls c.in_err-n.field-0.0 c.in_err-n.ensures.fulls (cc e)))

pub invariant_of-self-2 : goal.invariant_of-self-2
invariant_of-self-2 c = watched-grown c.args.self.now (seen c.self.inside) c.self.view_is c.requires.store c.self.inside.lent c.self.inside.uses c.node.new.self c.node.ensures.grows c.self.invariant
