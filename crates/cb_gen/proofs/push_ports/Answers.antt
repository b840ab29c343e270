use Rattle.std.proofs.Common.{[], ◌∷◌, ◌+◌, ◌++◌, codes, refl, sym, ap, ◌∙◌, arith, append_assoc, append-nil}
use Rattle.cb_model.specs.Bits.{numbers}
use Rattle.cb_model.specs.Adder.{named}
use Rattle.cb_gen.specs.Parts.{pair_text}
use Rattle.cb_gen.proofs.Joining.{pairs, pairs-all, pairs-none, pairs-more, joined-pairs}
use Rattle.cb_gen.proofs.push_ports.Goals as goal

pub loop-bit-init : goal.loop-bit-init
loop-bit-init c = refl

pub loop-bit-preserved : goal.loop-bit-preserved
loop-bit-preserved c =
    pairs-more (λ i. 44 ∷ pair_text i (codes ",")) c.loop-bit.bit (c.loop-bit.bit + 1) c.args.n c.loop-bit.text.items c.push_pair.new.text.items c.loop-bit-test.true (omega arith)
    (c.in_ok-push_pair.ensures ∙ ap (λ t. t ++ pair_text c.loop-bit.bit (codes ",")) c.in_ok-push.ensures.items ∙ append_assoc c.loop-bit.text.items (44 ∷ []) (pair_text c.loop-bit.bit (codes ",")))
    ∙ c.loop-bit.invariant

pub returns : goal.returns
returns c =
    sym (append-nil c.loop-bit.text.items) ∙ ap (λ t. c.loop-bit.text.items ++ t) (sym (pairs-none (λ i. 44 ∷ pair_text i (codes ",")) c.loop-bit.bit c.args.n c.loop-bit-test.false)) ∙ c.loop-bit.invariant
    ∙ ap (λ t. t ++ pairs (λ i. 44 ∷ pair_text i (codes ",")) 0 c.args.n) c.in_ok-extend_from_slice.ensures.items
    ∙ append_assoc c.args.text.now.items (codes "C0") (pairs (λ i. 44 ∷ pair_text i (codes ",")) 0 c.args.n)
    ∙ ap (λ t. c.args.text.now.items ++ (codes "C0" ++ t)) (pairs-all (λ i. 44 ∷ pair_text i (codes ",")) c.args.n)
    ∙ ap (λ t. c.args.text.now.items ++ t) (sym (joined-pairs (codes "C0") (named (codes "A")) (named (codes "B")) (numbers c.args.n)))
