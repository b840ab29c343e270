use Rattle.std.proofs.Common.{◌≡◌, ◌-◌, ◌^◌, ◌<◌, length, min, refl, sym, ◌∙◌, arith}
use Rattle.std.proofs.lemmas.Bool.{true≢false}
use Rattle.cb_ready.proofs.Looks.{held-all, held-not, held-step, when-word}
use Rattle.cb_ready.proofs.delayed.all_hold.Goals as goal

pub returns-in-Ok-false : goal.returns-in-Ok-false
returns-in-Ok-false c = λ t fits.
    let word = when-word c.args.program.now c.args.pred c.loop-place.place c.when.result c.requires.name c.when.ensures in
    let before = c.loop-place-test.true in
    let end = c.places-place-end.ensures in
    let few : c.loop-place.place < 2 ^ 32 - 1 = omega (arith, before, end) in
    let less : c.loop-place.place < length c.args.args.now = omega (arith, before, end) in (
      λ e. absurd (true≢false (sym e)),
      λ all. absurd (held-not c.args.state.now c.args.program.now c.args.pred c.args.args.now c.loop-place.place few less _ c.when.result word t
          (λ h. true≢false (sym ((c.in-Ok-false.ensures t fits).1 h) ∙ c.in-Ok-false.field-0-test)) all),
    )

pub loop-place-preserved : goal.loop-place-preserved
loop-place-preserved c =
    let word = when-word c.args.program.now c.args.pred c.loop-place.place c.when.result c.requires.name c.when.ensures in
    let before = c.loop-place-test.true in
    let end = c.places-place-end.ensures in
    let less : c.loop-place.place < length c.args.args.now = omega (arith, before, end) in
    held-step c.args.state.now c.args.program.now c.args.pred c.args.args.now c.loop-place.place c.loop-place.invariant less _ c.when.result word
    (λ t fits. (c.in-Ok-true.ensures t fits).0 c.in-Ok-true.field-0-test)

pub returns : goal.returns
returns c = λ t fits.
    let over = c.loop-place-test.false in
    let within = c.loop-place.auto.place-end in
    let end = c.places-place-end.ensures in
    let at : c.loop-place.place ≡ min (length c.args.args.now) (2 ^ 32 - 1) = omega (arith, over, within, end) in
    (λ e. held-all c.args.state.now c.args.program.now c.args.pred c.args.args.now c.loop-place.place at c.loop-place.invariant t fits, λ all. refl)
