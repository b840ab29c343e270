use Rattle.std.proofs.Common.{◌-◌, ◌/◌, ◌∙◌, ap, length, take, drop, arith}
use Rattle.std.proofs.lemmas.Result.{IfOk-weaker}
use Rattle.cb_model.specs.Bits.{bits_of}
use Rattle.cb_model.specs.Room.{expr_size}
use Rattle.cb_model.specs.Values.{in_scope}
use Rattle.cb_verify.specs.Nodes.{node_bits}
use Rattle.cb_verify.proofs.Kept.{AreNodes-kept, one-room}
use Rattle.cb_verify.proofs.Operands.{zero-function, one-function, var-function, var-within, not-room, size-and, size-xor, size-or, chain-size, weight-not, weight-and, weight-xor, weight-or, not-scope, and-scope, xor-scope, or-scope}
use Rattle.cb_verify.proofs.Halves as halves
use Rattle.cb_verify.proofs.expressions.+halves.Goals as goal

pub expression-returns-in-Zero-clause-function : goal.expression-returns-in-Zero-clause-function
expression-returns-in-Zero-clause-function t c = zero-function c.args.ops.now.triples (λ a. bits_of (node_bits c.args.ops.now.triples c.args.inputs.now a)) c.args.e.now c.in-Zero.is

pub expression-returns-in-One-clause-function : goal.expression-returns-in-One-clause-function
expression-returns-in-One-clause-function t c = one-function c.args.ops.now.triples (λ a. bits_of (node_bits c.args.ops.now.triples c.args.inputs.now a)) c.args.e.now c.in-One.is

pub expression-returns-in-Var-clause-function : goal.expression-returns-in-Var-clause-function
expression-returns-in-Var-clause-function t c =
    var-function c.args.ops.now.triples c.args.inputs.now c.in-Var.n c.args.e.now c.in-Var.is (var-within (length c.args.inputs.now) c.in-Var.n c.args.e.now c.in-Var.is c.requires.scope)

pub expression-returns-in_ok-node-in-Not-clause-room : goal.expression-returns-in_ok-node-in-Not-clause-room
expression-returns-in_ok-node-in-Not-clause-room t c =
    not-room c.args.ops.now c.expression.new.ops c.not.new.self c.args.inputs.now c.in-Not.x c.args.e.now c.get.result.now c.in_ok-node-in-Not.node c.in-Not.is c.get.ensures c.in_ok-node-in-Not.ensures.function c.expression.ensures.room (one-room c.expression.new.ops c.not.new.self c.in_ok-node-in-Not.node c.not.ensures.made.room)

pub expression-expression-requires : goal.expression-expression-requires
expression-expression-requires t c =
    (omega (arith, weight-not c.in-Not.x c.args.e.now c.get.result.now c.in-Not.is c.get.ensures), (c.requires.inputs, not-scope (length c.args.inputs.now) c.in-Not.x c.args.e.now c.get.result.now c.in-Not.is c.get.ensures c.requires.scope))

pub expression-operands-requires : goal.expression-operands-requires
expression-operands-requires t c =
    (omega (arith, weight-and c.in-And.xs c.as_slice.result.now c.args.e.now c.in-And.is c.as_slice.ensures), (c.requires.inputs, and-scope (length c.args.inputs.now) c.in-And.xs c.as_slice.result.now c.args.e.now c.in-And.is c.as_slice.ensures c.requires.scope))

pub expression-operands-requires-in-Xor : goal.expression-operands-requires-in-Xor
expression-operands-requires-in-Xor t c =
    (omega (arith, weight-xor c.in-Xor.xs c.as_slice-in-Xor.result.now c.args.e.now c.in-Xor.is c.as_slice-in-Xor.ensures), (c.requires.inputs, xor-scope (length c.args.inputs.now) c.in-Xor.xs c.as_slice-in-Xor.result.now c.args.e.now c.in-Xor.is c.as_slice-in-Xor.ensures c.requires.scope))

pub expression-operands-requires-in-Or : goal.expression-operands-requires-in-Or
expression-operands-requires-in-Or t c =
    (omega (arith, weight-or c.in-Or.xs c.as_slice-in-Or.result.now c.args.e.now c.in-Or.is c.as_slice-in-Or.ensures), (c.requires.inputs, or-scope (length c.args.inputs.now) c.in-Or.xs c.as_slice-in-Or.result.now c.args.e.now c.in-Or.is c.as_slice-in-Or.ensures c.requires.scope))

pub expression-returns-in-And-clause-room : goal.expression-returns-in-And-clause-room
expression-returns-in-And-clause-room t c = chain-size c.args.ops.now c.operands.new.ops c.args.inputs.now c.in-And.xs c.as_slice.result.now (expr_size c.args.e.now) c.as_slice.ensures (ap expr_size c.in-And.is ∙ size-and c.in-And.xs) c.operands.ensures.room

pub expression-returns-in-Xor-clause-room : goal.expression-returns-in-Xor-clause-room
expression-returns-in-Xor-clause-room t c = chain-size c.args.ops.now c.operands-in-Xor.new.ops c.args.inputs.now c.in-Xor.xs c.as_slice-in-Xor.result.now (expr_size c.args.e.now) c.as_slice-in-Xor.ensures (ap expr_size c.in-Xor.is ∙ size-xor c.in-Xor.xs) c.operands-in-Xor.ensures.room

pub expression-returns-in-Or-clause-room : goal.expression-returns-in-Or-clause-room
expression-returns-in-Or-clause-room t c = chain-size c.args.ops.now c.operands-in-Or.new.ops c.args.inputs.now c.in-Or.xs c.as_slice-in-Or.result.now (expr_size c.args.e.now) c.as_slice-in-Or.ensures (ap expr_size c.in-Or.is ∙ size-or c.in-Or.xs) c.operands-in-Or.ensures.room

pub operands-operands-requires : goal.operands-operands-requires
operands-operands-requires t c =
    (omega (arith, halves.weight-low c.args.xs.now c.in_default.len_at_least), (c.requires.inputs, halves.low-scope (in_scope 0 (length c.args.inputs.now)) c.args.xs.now (length c.args.xs.now / 2) c.requires.scope))

pub operands-operands-requires-in_default : goal.operands-operands-requires-in_default
operands-operands-requires-in_default t c = (
  omega (arith, halves.weight-high c.args.xs.now c.in_default.len_at_least),
  (
    AreNodes-kept c.args.ops.now c.operands.new.ops c.operands.ensures.grows c.args.inputs.now c.requires.inputs,
    halves.high-scope (in_scope 0 (length c.args.inputs.now)) c.args.xs.now (length c.args.xs.now / 2) c.requires.scope,
  ),
)

pub operands-returns-in-len1-clause-room : goal.operands-returns-in-len1-clause-room
operands-returns-in-len1-clause-room t c = halves.one-room c.args.ops.now c.expression.new.ops c.args.inputs.now c.args.xs.now c.x-item.result (halves.single c.args.xs.now c.x-item.result c.in-len1.len_at_least c.in-len1.len_below c.x-item.is) c.expression.ensures.room

pub operands-returns-in_err-left-in_default-clause-room : goal.operands-returns-in_err-left-in_default-clause-room
operands-returns-in_err-left-in_default-clause-room t c =
    let xs = c.args.xs.now in
    halves.low-room c.args.ops.now c.operands.new.ops c.operands.new.ops c.operands.ensures.grows c.args.inputs.now c.requires.inputs xs (take (length xs / 2) xs) (take (length xs - length xs / 2) (drop (length xs / 2) xs)) (halves.parts-are xs (length xs / 2))
    (halves.low-some xs c.in_default.len_at_least) (halves.high-some xs c.in_default.len_at_least) c.operands.ensures.room

pub operands-returns-in_err-right-in_default-clause-room : goal.operands-returns-in_err-right-in_default-clause-room
operands-returns-in_err-right-in_default-clause-room t c =
    let xs = c.args.xs.now in
    halves.both-room c.args.ops.now c.operands.new.ops c.operands-in_default.new.ops c.operands.ensures.grows c.args.inputs.now c.requires.inputs xs (take (length xs / 2) xs) (take (length xs - length xs / 2) (drop (length xs / 2) xs)) (halves.parts-are xs (length xs / 2))
    (halves.low-some xs c.in_default.len_at_least) (halves.high-some xs c.in_default.len_at_least) c.operands.ensures.room c.operands-in_default.ensures.room

pub operands-returns-in_ok-right-in_default-clause-room : goal.operands-returns-in_ok-right-in_default-clause-room
operands-returns-in_ok-right-in_default-clause-room t c =
    let xs = c.args.xs.now in
    halves.halves-room c.args.ops.now c.operands.new.ops c.operands-in_default.new.ops c.operands.ensures.grows c.args.inputs.now c.requires.inputs xs (take (length xs / 2) xs) (take (length xs - length xs / 2) (drop (length xs / 2) xs)) (halves.parts-are xs (length xs / 2))
    (halves.low-some xs c.in_default.len_at_least) (halves.high-some xs c.in_default.len_at_least) c.apply.new.ops c.operands-in_default.ensures.grows c.args.operator c.in_ok-left-in_default.left c.in_ok-right-in_default.right
    c.in_ok-left-in_default.ensures.is_node c.in_ok-left-in_default.ensures.function c.in_ok-right-in_default.ensures.function c.operands.ensures.room c.operands-in_default.ensures.room c.apply.ensures.room

pub operands-returns-in_ok-right-in_default-clause-function : goal.operands-returns-in_ok-right-in_default-clause-function
operands-returns-in_ok-right-in_default-clause-function t c = IfOk-weaker c.apply.result _ _ (λ n applied.
    let xs = c.args.xs.now in
    halves.halves-function c.args.ops.now c.operands.new.ops c.operands-in_default.new.ops c.operands.ensures.grows c.args.inputs.now c.requires.inputs xs (take (length xs / 2) xs) (take (length xs - length xs / 2) (drop (length xs / 2) xs)) (halves.parts-are xs (length xs / 2))
    (halves.low-some xs c.in_default.len_at_least) (halves.high-some xs c.in_default.len_at_least) c.apply.new.ops c.operands-in_default.ensures.grows c.args.operator c.in_ok-left-in_default.left c.in_ok-right-in_default.right
    c.in_ok-left-in_default.ensures.is_node c.in_ok-left-in_default.ensures.function c.in_ok-right-in_default.ensures.function n.0 applied) c.apply.ensures.function
