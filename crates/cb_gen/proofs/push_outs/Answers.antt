use Rattle.std.proofs.Common.{◌+◌, ◌++◌, codes, sym, ap, ◌∙◌, arith}
use Rattle.cb_model.specs.Adder.{named}
use Rattle.cb_gen.proofs.Joining.{on-ok, left-all, left-none, left-more}
use Rattle.cb_gen.proofs.push_outs.Goals as goal

pub loop-bit-init : goal.loop-bit-init
loop-bit-init c = ap (λ t. c.args.text.now.items ++ t) (left-all (named (codes "S")) (named (codes "C") c.args.n) c.args.n)

pub loop-bit-preserved : goal.loop-bit-preserved
loop-bit-preserved c =
    left-more (named (codes "S")) (named (codes "C") c.args.n) c.loop-bit.bit (c.loop-bit.bit + 1) c.args.n c.loop-bit.text.items c.push.new.self.items c.loop-bit-test.true (omega arith)
    (c.in_ok-push.ensures.items ∙ ap (λ t. t ++ codes ",") c.in_ok-push_named.ensures) ∙ c.loop-bit.invariant

pub returns : goal.returns
returns c =
    on-ok c.push_named-2.result (λ e. e ∙ ap (λ t. c.loop-bit.text.items ++ t) (sym (left-none (named (codes "S")) (named (codes "C") c.args.n) c.loop-bit.bit c.args.n c.loop-bit-test.false)) ∙ c.loop-bit.invariant)
    c.push_named-2.ensures
