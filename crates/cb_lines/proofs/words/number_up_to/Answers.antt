use Rattle.std.proofs.Common.{◌≡◌, ◌≢◌, ℕ, ◌<◌, length, drop, get_or, None, sym, ◌∙◌, subst, rules, arith}
use Rattle.std.proofs.lemmas.Grind.{common_steps}
use Rattle.cb_model.specs.Text.{Text}
use Rattle.cb_model.specs.Commands.{number_upto}
use Rattle.cb_lines.specs.Words.{digits_upto, digit_upto}
use Rattle.cb_lines.proofs.Numbers.{number_upto-digits, digits_upto-stop, digits_upto-end}
use Rattle.cb_lines.proofs.words.number_up_to.Goals as goal

-- the bytes are those of the word, and what the invariant says of the rest of them
joined : (limit v i : ℕ) (bytes word : Text) → bytes ≡ word → 0 < length bytes → get_or bytes 0 0 ≢ 48 → digits_upto limit v (drop i bytes) ≡ digits_upto limit 0 word →
    digits_upto limit v (drop i bytes) ≡ number_upto limit word
joined limit v i bytes word e l z h =
    h ∙ sym (number_upto-digits limit word (subst (λ (w : Text). 0 < length w) e l) (subst (λ (w : Text). get_or w 0 0 ≢ 48) e z))

pub returns-in_err-value : goal.returns-in_err-value
returns-in_err-value c =
    let some : 0 < length c.as_bytes-bytes.result.now = grind (arith, common_steps) in
    let stop : digit_upto c.args.limit c.loop-byte.value (get_or c.as_bytes-bytes.result.now c.loop-byte.byte-index 0) ≡ None = search rules in
    c.from_residual.ensures
    ∙ sym (digits_upto-stop c.args.limit c.loop-byte.value c.loop-byte.byte-index c.as_bytes-bytes.result.now c.loop-byte-test.true stop)
    ∙ joined c.args.limit c.loop-byte.value c.loop-byte.byte-index c.as_bytes-bytes.result.now c.args.word.now c.as_bytes-bytes.ensures.value some c.if-bytes-eq48.false c.loop-byte.invariant

pub returns : goal.returns
returns c =
    let some : 0 < length c.as_bytes-bytes.result.now = grind (arith, common_steps) in
    sym (digits_upto-end c.args.limit c.loop-byte.value c.loop-byte.byte-index c.as_bytes-bytes.result.now c.loop-byte-test.false)
    ∙ joined c.args.limit c.loop-byte.value c.loop-byte.byte-index c.as_bytes-bytes.result.now c.args.word.now c.as_bytes-bytes.ensures.value some c.if-bytes-eq48.false c.loop-byte.invariant
