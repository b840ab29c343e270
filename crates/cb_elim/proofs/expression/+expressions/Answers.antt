use Rattle.std.proofs.Common.{ℕ, ◌-◌, ◌/◌, ◌<◌, length, map, sum, take, drop, subst, sym, ap, arith}
use Rattle.std.specs.Prelude.{OnErr}
use Rattle.std.proofs.lemmas.Result.{IfOk-weaker}
use Rattle.std.proofs.lemmas.List.{length-drop, length-take-le}
use Rattle.cb_elim.proofs.Sizes.{both-room, chain-one, halves-room, low-room, not-first, not-room, and-room, xor-room, or-room, size-and, size-xor, size-or}
use Rattle.cb_elim.specs.Expression.{variable_bits}
use Rattle.cb_elim.proofs.Views.{there-still}
use Rattle.cb_elim.proofs.Expressions.{weight, half-less, half-some, high-is, parts-are, single, zero-is, one-is, operands-both, weight-high, weight-low, weight-not, weight-and, weight-xor, weight-or}
use Rattle.cb_elim.proofs.expression.+expressions.Goals as goal

pub expression-expression-requires : goal.expression-expression-requires
expression-expression-requires t c = (omega (arith, weight-not c.in-Not.x c.args.e.now c.get.result.now c.in-Not.is c.get.ensures), c.requires)

pub expression-operands-requires : goal.expression-operands-requires
expression-operands-requires t c = (omega (arith, weight-and c.in-And.xs c.as_slice.result.now c.args.e.now c.in-And.is c.as_slice.ensures), c.requires)

pub expression-operands-requires-in-Xor : goal.expression-operands-requires-in-Xor
expression-operands-requires-in-Xor t c = (omega (arith, weight-xor c.in-Xor.xs c.as_slice-in-Xor.result.now c.args.e.now c.in-Xor.is c.as_slice-in-Xor.ensures), c.requires)

pub expression-operands-requires-in-Or : goal.expression-operands-requires-in-Or
expression-operands-requires-in-Or t c = (omega (arith, weight-or c.in-Or.xs c.as_slice-in-Or.result.now c.args.e.now c.in-Or.is c.as_slice-in-Or.ensures), c.requires)

pub expression-returns-in-Zero-clause-function : goal.expression-returns-in-Zero-clause-function
expression-returns-in-Zero-clause-function t c = zero-is c.args.ops.now.triples (λ a. variable_bits c.args.ops.now.triples c.args.slots.now c.args.vars.now a) c.args.e.now c.in-Zero.is

pub expression-returns-in-One-clause-function : goal.expression-returns-in-One-clause-function
expression-returns-in-One-clause-function t c = one-is c.args.ops.now.triples (λ a. variable_bits c.args.ops.now.triples c.args.slots.now c.args.vars.now a) c.args.e.now c.in-One.is

pub expression-returns-in_err-node-in-Not-clause-room : goal.expression-returns-in_err-node-in-Not-clause-room
expression-returns-in_err-node-in-Not-clause-room t c = not-first c.args.slots.now c.args.vars.now c.args.e.now c.in-Not.x c.get.result.now c.in-Not.is c.get.ensures c.args.ops.now c.expression.new.ops c.expression.new.ops c.expression.ensures.grows c.requires c.expression.ensures.room

pub expression-returns-in_ok-node-in-Not-clause-room : goal.expression-returns-in_ok-node-in-Not-clause-room
expression-returns-in_ok-node-in-Not-clause-room t c =
    not-room c.args.slots.now c.args.vars.now c.args.e.now c.in-Not.x c.get.result.now c.in-Not.is c.get.ensures c.args.ops.now c.expression.new.ops c.not.new.self c.expression.ensures.grows c.requires c.expression.ensures.room c.in_ok-node-in-Not.node.0 c.in_ok-node-in-Not.ensures.function c.not.ensures.made.room

pub expression-returns-in-And-clause-room : goal.expression-returns-in-And-clause-room
expression-returns-in-And-clause-room t c =
    and-room c.args.slots.now (length c.args.vars.now) c.args.e.now c.in-And.xs c.as_slice.result.now c.as_slice.ensures c.args.ops.now c.operands.new.ops c.operands.ensures.room c.in-And.is

pub expression-returns-in-And-clause-some : goal.expression-returns-in-And-clause-some
expression-returns-in-And-clause-some t c =
    subst (λ (n : ℕ). OnErr c.operands.result (0 < n)) (sym (size-and c.args.e.now c.in-And.xs c.as_slice.result.now c.in-And.is c.as_slice.ensures)) c.operands.ensures.some

pub expression-returns-in-Xor-clause-room : goal.expression-returns-in-Xor-clause-room
expression-returns-in-Xor-clause-room t c =
    xor-room c.args.slots.now (length c.args.vars.now) c.args.e.now c.in-Xor.xs c.as_slice-in-Xor.result.now c.as_slice-in-Xor.ensures c.args.ops.now c.operands-in-Xor.new.ops c.operands-in-Xor.ensures.room c.in-Xor.is

pub expression-returns-in-Xor-clause-some : goal.expression-returns-in-Xor-clause-some
expression-returns-in-Xor-clause-some t c =
    subst (λ (n : ℕ). OnErr c.operands-in-Xor.result (0 < n)) (sym (size-xor c.args.e.now c.in-Xor.xs c.as_slice-in-Xor.result.now c.in-Xor.is c.as_slice-in-Xor.ensures)) c.operands-in-Xor.ensures.some

pub expression-returns-in-Or-clause-room : goal.expression-returns-in-Or-clause-room
expression-returns-in-Or-clause-room t c =
    or-room c.args.slots.now (length c.args.vars.now) c.args.e.now c.in-Or.xs c.as_slice-in-Or.result.now c.as_slice-in-Or.ensures c.args.ops.now c.operands-in-Or.new.ops c.operands-in-Or.ensures.room c.in-Or.is

pub expression-returns-in-Or-clause-some : goal.expression-returns-in-Or-clause-some
expression-returns-in-Or-clause-some t c =
    subst (λ (n : ℕ). OnErr c.operands-in-Or.result (0 < n)) (sym (size-or c.args.e.now c.in-Or.xs c.as_slice-in-Or.result.now c.in-Or.is c.as_slice-in-Or.ensures)) c.operands-in-Or.ensures.some

pub operands-operands-requires : goal.operands-operands-requires
operands-operands-requires t c = (omega (arith, weight-low c.args.xs.now (length c.args.xs.now / 2) (half-less (length c.args.xs.now) c.in_default.len_at_least)), c.requires)

pub operands-operands-requires-in_default : goal.operands-operands-requires-in_default
operands-operands-requires-in_default t c = (
  (let q = half-less (length c.args.xs.now) c.in_default.len_at_least in
      let w = weight-high c.args.xs.now (length c.args.xs.now / 2) (half-some (length c.args.xs.now) c.in_default.len_at_least) (omega arith) in
      omega (arith, w, ap length (high-is c.args.xs.now (length c.args.xs.now / 2)), ap (λ ys. sum (map weight ys)) (high-is c.args.xs.now (length c.args.xs.now / 2)))),
  there-still c.args.ops.now c.operands.new.ops c.operands.ensures.grows c.args.slots.now c.requires,
)

pub operands-returns-in-len1-clause-room : goal.operands-returns-in-len1-clause-room
operands-returns-in-len1-clause-room t c =
    chain-one c.args.slots.now (length c.args.vars.now) c.args.xs.now c.x-item.result c.args.ops.now c.expression.new.ops (single c.args.xs.now c.x-item.result c.in-len1.len_at_least c.in-len1.len_below c.x-item.is) c.expression.ensures.room

pub operands-returns-in_err-left-in_default-clause-room : goal.operands-returns-in_err-left-in_default-clause-room
operands-returns-in_err-left-in_default-clause-room t c =
    low-room c.args.slots.now c.args.vars.now c.args.xs.now (take (length c.args.xs.now / 2) c.args.xs.now) (take (length c.args.xs.now - length c.args.xs.now / 2) (drop (length c.args.xs.now / 2) c.args.xs.now)) (parts-are c.args.xs.now (length c.args.xs.now / 2))
    (let p = half-some (length c.args.xs.now) c.in_default.len_at_least in let q = half-less (length c.args.xs.now) c.in_default.len_at_least in omega (arith, length-take-le (length c.args.xs.now / 2) c.args.xs.now (omega arith)))
    (let q = half-less (length c.args.xs.now) c.in_default.len_at_least in omega (arith, ap length (high-is c.args.xs.now (length c.args.xs.now / 2)), length-drop (length c.args.xs.now / 2) c.args.xs.now))
    c.args.ops.now c.operands.new.ops c.operands.ensures.room

pub operands-returns-in_err-right-in_default-clause-room : goal.operands-returns-in_err-right-in_default-clause-room
operands-returns-in_err-right-in_default-clause-room t c =
    both-room c.args.slots.now c.args.vars.now c.args.xs.now (take (length c.args.xs.now / 2) c.args.xs.now) (take (length c.args.xs.now - length c.args.xs.now / 2) (drop (length c.args.xs.now / 2) c.args.xs.now)) (parts-are c.args.xs.now (length c.args.xs.now / 2))
    (let p = half-some (length c.args.xs.now) c.in_default.len_at_least in let q = half-less (length c.args.xs.now) c.in_default.len_at_least in omega (arith, length-take-le (length c.args.xs.now / 2) c.args.xs.now (omega arith)))
    (let q = half-less (length c.args.xs.now) c.in_default.len_at_least in omega (arith, ap length (high-is c.args.xs.now (length c.args.xs.now / 2)), length-drop (length c.args.xs.now / 2) c.args.xs.now))
    c.args.ops.now c.operands.new.ops c.operands.ensures.room c.operands-in_default.new.ops c.operands.ensures.grows c.requires c.operands-in_default.ensures.room

pub operands-returns-in_ok-right-in_default-clause-room : goal.operands-returns-in_ok-right-in_default-clause-room
operands-returns-in_ok-right-in_default-clause-room t c =
    halves-room c.args.slots.now c.args.vars.now c.args.xs.now (take (length c.args.xs.now / 2) c.args.xs.now) (take (length c.args.xs.now - length c.args.xs.now / 2) (drop (length c.args.xs.now / 2) c.args.xs.now)) (parts-are c.args.xs.now (length c.args.xs.now / 2))
    (let p = half-some (length c.args.xs.now) c.in_default.len_at_least in let q = half-less (length c.args.xs.now) c.in_default.len_at_least in omega (arith, length-take-le (length c.args.xs.now / 2) c.args.xs.now (omega arith)))
    (let q = half-less (length c.args.xs.now) c.in_default.len_at_least in omega (arith, ap length (high-is c.args.xs.now (length c.args.xs.now / 2)), length-drop (length c.args.xs.now / 2) c.args.xs.now))
    c.args.ops.now c.operands.new.ops c.operands.ensures.room c.operands-in_default.new.ops c.operands.ensures.grows c.requires c.operands-in_default.ensures.room c.apply.new.ops c.operands-in_default.ensures.grows c.args.operator
    c.in_ok-left-in_default.left.0 c.in_ok-right-in_default.right.0 c.in_ok-left-in_default.ensures.is_node c.in_ok-left-in_default.ensures.function c.in_ok-right-in_default.ensures.function c.apply.ensures.room

pub operands-returns-in_ok-right-in_default-clause-function : goal.operands-returns-in_ok-right-in_default-clause-function
operands-returns-in_ok-right-in_default-clause-function t c = IfOk-weaker c.apply.result _ _ (λ n applied.
    operands-both c.args.ops.now c.operands.new.ops c.operands-in_default.new.ops c.apply.new.ops c.operands.ensures.grows c.operands-in_default.ensures.grows c.args.slots.now c.requires c.args.vars.now c.args.operator c.args.xs.now
    (take (length c.args.xs.now / 2) c.args.xs.now) (take (length c.args.xs.now - length c.args.xs.now / 2) (drop (length c.args.xs.now / 2) c.args.xs.now)) c.in_ok-left-in_default.left.0 c.in_ok-right-in_default.right.0 n.0
    (parts-are c.args.xs.now (length c.args.xs.now / 2)) c.in_ok-left-in_default.ensures.is_node c.in_ok-left-in_default.ensures.function c.in_ok-right-in_default.ensures.function applied) c.apply.ensures.function
