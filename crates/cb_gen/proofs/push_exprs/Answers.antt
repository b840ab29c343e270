use Rattle.std.proofs.Common.{◌≡◌, suc, ◌+◌, ◌++◌, codes, sym, ap, ◌∙◌, arith}
use Rattle.cb_model.specs.Adder.{carry_text, sum_text}
use Rattle.cb_gen.proofs.Joining.{left-all, left-none, left-more}
use Rattle.cb_gen.proofs.push_exprs.Goals as goal

pub loop-bit-init : goal.loop-bit-init
loop-bit-init c = (c.in_ok-carry.ensures.items, ap (λ t. c.args.text.now.items ++ t) (left-all sum_text (carry_text c.args.n) c.args.n))

pub push_sum-requires : goal.push_sum-requires
push_sum-requires c = c.as_slice.ensures.value ∙ c.loop-bit.invariant.0

pub next_carry-requires : goal.next_carry-requires
next_carry-requires c = c.as_slice-in-loop-bit.ensures.value ∙ c.loop-bit.invariant.0

pub loop-bit-preserved : goal.loop-bit-preserved
loop-bit-preserved c = (
  c.in_ok-carry-2.ensures ∙ ap carry_text (let e : suc c.loop-bit.bit ≡ c.loop-bit.bit + 1 = omega arith in e),
  left-more sum_text (carry_text c.args.n) c.loop-bit.bit (c.loop-bit.bit + 1) c.args.n c.loop-bit.text.items c.push.new.self.items c.loop-bit-test.true (omega arith)
      (c.in_ok-push.ensures.items ∙ ap (λ t. t ++ codes ",") c.in_ok-push_sum.ensures) ∙ c.loop-bit.invariant.1,
)

pub returns : goal.returns
returns c =
    let done : c.loop-bit.bit ≡ c.args.n = (let h = c.loop-bit-test.false in let k = c.loop-bit.auto.bit-end in omega arith) in
    c.in_ok-extend_from_slice.ensures.items
    ∙ ap (λ t. c.loop-bit.text.items ++ t) (c.as_slice-2.ensures.value ∙ c.loop-bit.invariant.0 ∙ ap carry_text done ∙ sym (left-none sum_text (carry_text c.args.n) c.loop-bit.bit c.args.n c.loop-bit-test.false))
    ∙ c.loop-bit.invariant.1
