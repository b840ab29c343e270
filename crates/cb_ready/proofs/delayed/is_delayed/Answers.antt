use Rattle.std.proofs.Common.{◌≡◌, ◌-◌, ◌^◌, min, sym, ◌∙◌, arith}
use Rattle.std.proofs.lemmas.Bool.{true≢false}
use Rattle.cb_ready.proofs.Looks.{any-ready, any-step, when-word}
use Rattle.cb_ready.proofs.delayed.is_delayed.Goals as goal

pub returns-in_default : goal.returns-in_default
returns-in_default c =
    let word = when-word c.args.program.now c.args.pred c.loop-place.place c.when.result c.requires.name c.when.ensures in
    let less = c.loop-place-test.true in
    let end = c.places-place-end.ensures in
    record { yes = λ _. (c.loop-place.place, omega (arith, less, end), λ e. c.in_default.not-Any (word ∙ e)); no = λ e. absurd (true≢false e) }

pub loop-place-preserved : goal.loop-place-preserved
loop-place-preserved c =
    let word = when-word c.args.program.now c.args.pred c.loop-place.place c.when.result c.requires.name c.when.ensures in
    any-step c.args.program.now c.args.pred c.loop-place.place c.loop-place.invariant (sym word ∙ c.in-Any.is)

pub returns-clause-no : goal.returns-clause-no
returns-clause-no c = λ _.
    let over = c.loop-place-test.false in
    let within = c.loop-place.auto.place-end in
    let end = c.places-place-end.ensures in
    let at : c.loop-place.place ≡ min c.args.count (2 ^ 32 - 1) = omega (arith, over, within, end) in
    any-ready c.args.program.now c.args.pred c.args.count c.loop-place.place at c.requires.name c.loop-place.invariant
