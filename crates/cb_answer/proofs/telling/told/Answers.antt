use Rattle.std.proofs.Common.{sym, ap, subst, ◌∙◌, arith}
use Rattle.std.proofs.lemmas.Result.{err_from_is_err_and}
use Rattle.cb_elim.specs.Store.{Seen as Booleans}
use Rattle.cb_project.specs.Answer.{AnswerCause, AreSlots, IsProjected}
use Rattle.cb_answer.specs.Lines.{line_names}
use Rattle.cb_answer.specs.Writing.{slots_of}
use Rattle.cb_answer.proofs.Forms.{terms, slots-there, levels-there, are-told, line-told, wants}
use Rattle.cb_answer.proofs.telling.told.Goals as goal

pub general-requires-clause-slots : goal.general-requires-clause-slots
general-requires-clause-slots g c =
    let e = c.deref-2.ensures.value ∙ c.in-Ok.ensures ∙ ap slots_of c.deref.ensures.value in
    subst (λ b. AreSlots b c.deref-2.result.now) (sym c.store.ensures.value)
    (slots-there c.args.state.now c.args.items.now c.requires.tellable c.args.printed.now c.requires.shown c.deref-2.result.now e)

pub general-requires-clause-levels : goal.general-requires-clause-levels
general-requires-clause-levels g c =
    let e = c.deref-2.ensures.value ∙ c.in-Ok.ensures ∙ ap slots_of c.deref.ensures.value in
    let a = levels-there c.args.state.now c.args.items.now c.requires.tellable c.args.printed.now c.requires.shown c.deref-2.result.now e in
    let b = ap (λ (x : Booleans). x.drawn) c.store.ensures.value in
    omega (arith, a, b)

pub returns-in_err-form-clause-nodes : goal.returns-in_err-form-clause-nodes
returns-in_err-form-clause-nodes g c =
    let e = c.deref-2.ensures.value ∙ c.in-Ok.ensures ∙ ap slots_of c.deref.ensures.value in
    let p = err_from_is_err_and c.from_residual.result c.from_residual.ensures.1 in
    rw (p.1, p.2) (λ q. wants c.args.state.now c.args.items.now c.requires.tellable c.args.printed.now c.requires.shown c.deref-2.result.now e _
    (λ b. c.in_err-form.ensures.unbounded (ap (λ (x : Booleans). x.nodes.budget) c.store.ensures.value ∙ b) (cc q))
    (subst (λ (b : Booleans). AnswerCause b c.general.new.store c.deref-2.result.now) c.store.ensures.value (c.in_err-form.ensures.cause (cc q))))

pub line-requires-clause-terms : goal.line-requires-clause-terms
line-requires-clause-terms g c =
    let e = c.deref-2.ensures.value ∙ c.in-Ok.ensures ∙ ap slots_of c.deref.ensures.value in
    let ps = terms c.args.state.now c.args.items.now c.requires.tellable in
    let projected = subst (λ (b : Booleans). IsProjected b c.general.new.store c.deref-2.result.now c.in_ok-form.form.first c.in_ok-form.form.nodes) c.store.ensures.value c.in_ok-form.ensures.projected in (
      ps.0,
      are-told c.args.state.now c.args.items.now c.requires.tellable c.args.printed.now c.requires.shown c.deref-2.result.now e c.general.new.store c.in_ok-form.form.first c.in_ok-form.form.nodes
          projected ps.0 ps.1,
    )

pub returns-in-Ok-line-clause-text : goal.returns-in-Ok-line-clause-text
returns-in-Ok-line-clause-text g c = λ ps r.
    let e = c.deref-2.ensures.value ∙ c.in-Ok.ensures ∙ ap slots_of c.deref.ensures.value in
    let projected = subst (λ (b : Booleans). IsProjected b c.general.new.store c.deref-2.result.now c.in_ok-form.form.first c.in_ok-form.form.nodes) c.store.ensures.value c.in_ok-form.ensures.projected in
    let names = line_names (g.N.Names.names c.args.names.now) (g.N.Names.constants c.args.names.now) c.args.items.now in
    let told = are-told c.args.state.now c.args.items.now c.requires.tellable c.args.printed.now c.requires.shown c.deref-2.result.now e c.general.new.store c.in_ok-form.form.first c.in_ok-form.form.nodes projected ps r in
    let constants = c.constants.ensures ∙ ap (λ (x : Booleans). x.constants) (c.store_ref-store.ensures ∙ c.in_ok-form.ensures.draws.same) ∙ ap (λ (x : Booleans). x.constants) c.store.ensures.value in
    line-told c.args.state.now c.args.items.now c.requires.tellable c.args.printed.now c.requires.shown c.deref-2.result.now e c.general.new.store c.in_ok-form.form.first c.in_ok-form.form.nodes projected
    c.constants.result c.read.result.now names c.in-Ok-line.text.items ps r constants (c.read.ensures ∙ ap (λ (x : Booleans). x.nodes) c.store_ref-store.ensures) (c.in-Ok-line.ensures.pieces ps told)
