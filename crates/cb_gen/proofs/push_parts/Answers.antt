use Rattle.std.proofs.Common.{◌≡◌, ℕ, ◌≤◌, [], ◌∷◌, ◌+◌, ◌++◌, ◌-◌, suc, map, codes, sym, ap, ◌∙◌, arith}
use Rattle.cb_model.specs.Text.{joined}
use Rattle.cb_model.specs.Bits.{numbers}
use Rattle.cb_model.specs.Adder.{part_text}
use Rattle.cb_gen.proofs.Joining.{on-ok, left-all, left-none, left-more, last-apart}
use Rattle.cb_gen.proofs.push_parts.Goals as goal

all-parts : (n : ℕ) → 1 ≤ n → map part_text (numbers n) ≡ map part_text (numbers (n - 1)) ++ part_text (n - 1) ∷ []
all-parts n h = ap (λ k. map part_text (numbers k)) (let e : n ≡ suc (n - 1) = omega arith in e) ∙ last-apart part_text (n - 1)

pub loop-bit-init : goal.loop-bit-init
loop-bit-init c = ap (λ t. c.args.text.now.items ++ t) (left-all part_text (part_text (c.args.n - 1)) (c.args.n - 1) ∙ ap (joined (codes ",")) (sym (all-parts c.args.n c.requires.0)))

pub loop-bit-preserved : goal.loop-bit-preserved
loop-bit-preserved c =
    left-more part_text (part_text (c.args.n - 1)) c.loop-bit.bit (c.loop-bit.bit + 1) (c.args.n - 1) c.loop-bit.text.items c.push.new.self.items c.loop-bit-test.true (omega arith)
    (c.in_ok-push.ensures.items ∙ ap (λ t. t ++ codes ",") c.in_ok-push_part.ensures) ∙ c.loop-bit.invariant

pub returns : goal.returns
returns c =
    on-ok c.push_part-2.result
    (λ e. e ∙ ap (λ t. c.loop-bit.text.items ++ t) (sym (left-none part_text (part_text (c.args.n - 1)) c.loop-bit.bit (c.args.n - 1) c.loop-bit-test.false)) ∙ c.loop-bit.invariant) c.push_part-2.ensures
