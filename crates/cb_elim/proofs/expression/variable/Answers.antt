use Rattle.std.proofs.Common.{Some, None, sym}
use Rattle.cb_elim.proofs.Expressions.{past, within, variable-none, variable-some, value-index, value-past}
use Rattle.cb_elim.proofs.expression.variable.Goals as goal

pub returns-then-vars-at-clause-function : goal.returns-then-vars-at-clause-function
returns-then-vars-at-clause-function c = variable-none c.args.ops.now.triples c.args.slots.now c.args.vars.now c.args.n (past c.args.vars.now c.args.n c.if-vars-at.true)

pub returns-in_default-clause-function : goal.returns-in_default-clause-function
returns-in_default-clause-function c = variable-none c.args.ops.now.triples c.args.slots.now c.args.vars.now c.args.n (within c.args.vars.now c.args.n _ None c.if-vars-at.false (sym c.in_default.is))

pub returns-then-slots-slot-clause-function : goal.returns-then-slots-slot-clause-function
returns-then-slots-slot-clause-function c =
    variable-some c.args.ops.now.triples c.args.slots.now c.args.vars.now c.args.n c.in-Some.slot 0 (within c.args.vars.now c.args.n _ (Some c.in-Some.slot) c.if-vars-at.false (sym c.in-Some.is))
    (value-past c.args.ops.now.triples c.args.slots.now c.in-Some.slot.0 c.if-slots-slot.true)

pub returns-clause-function : goal.returns-clause-function
returns-clause-function c =
    variable-some c.args.ops.now.triples c.args.slots.now c.args.vars.now c.args.n c.in-Some.slot _ (within c.args.vars.now c.args.n _ (Some c.in-Some.slot) c.if-vars-at.false (sym c.in-Some.is))
    (value-index c.args.ops.now.triples c.args.slots.now c.in-Some.slot.0 _ c.if-slots-slot.false)
