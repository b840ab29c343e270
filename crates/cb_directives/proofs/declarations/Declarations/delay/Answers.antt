use Rattle.std.proofs.Common.{◌≡◌, ◌++◌, [], ◌∷◌, List, true, false, length, map, sym, ◌∙◌, ap, subst}
use Rattle.std.proofs.lemmas.Result.{err_from_is_err_and}
use Rattle.cb_model.specs.declared.When.{When}
use Rattle.cb_model.specs.Forms.{form_of}
use Rattle.cb_model.specs.Directives.{Declared, has_sign, accept}
use Rattle.cb_directives.specs.Checks.{never_waits}
use Rattle.cb_directives.proofs.Arguments.{delay_other, delay_none, delay_never, delay_twice, delay_unknown, delay_new}
use Rattle.cb_directives.proofs.declarations.Declarations.delay.Goals as goal

pub returns-in_default : goal.returns-in_default
returns-in_default c = delay_other c.args.self.now c.args.heads.now (form_of c.args.term.now) c.in_default.ensures

pub returns-in_err-words : goal.returns-in_err-words
returns-in_err-words c =
    let p = err_from_is_err_and c.from_residual.result c.from_residual.ensures.1 in
    rw (p.1, p.2) (delay_none c.args.self.now c.args.heads.now (form_of c.args.term.now) c.in-Some.name.now c.in-Some.args.now c.in_err-words.field-0.0 c.in-Some.ensures c.in_err-words.ensures)

pub returns-then-never_waits : goal.returns-then-never_waits
returns-then-never_waits c =
    delay_never c.args.self.now c.args.heads.now (form_of c.args.term.now) c.in-Some.name.now c.in-Some.args.now c.in_ok-words.words c.in-Some.ensures c.in_ok-words.ensures
    (c.if-never_waits.ensures ∙ ap (λ (ws : List When). never_waits c.args.self.now (c.in-Some.name.now, length c.in-Some.args.now) ws) c.as_slice.ensures)

pub returns-then-is_delayed : goal.returns-then-is_delayed
returns-then-is_delayed c =
    delay_twice c.args.self.now c.args.heads.now (form_of c.args.term.now) c.in-Some.name.now c.in-Some.args.now c.in_ok-words.words c.in-Some.ensures c.in_ok-words.ensures
    (c.if-never_waits.ensures ∙ ap (λ (ws : List When). never_waits c.args.self.now (c.in-Some.name.now, length c.in-Some.args.now) ws) c.as_slice.ensures) c.if-is_delayed.ensures

pub returns-then-is_unknown : goal.returns-then-is_unknown
returns-then-is_unknown c =
    delay_unknown c.args.self.now c.args.heads.now (form_of c.args.term.now) c.in-Some.name.now c.in-Some.args.now c.in_ok-words.words c.in-Some.ensures c.in_ok-words.ensures
    (c.if-never_waits.ensures ∙ ap (λ (ws : List When). never_waits c.args.self.now (c.in-Some.name.now, length c.in-Some.args.now) ws) c.as_slice.ensures) c.if-is_delayed.ensures c.if-is_unknown.ensures

pub insert-requires : goal.insert-requires
insert-requires c =
    subst (λ (d : Declared). has_sign (map (λ e. e.0) d.delays) (c.in-Some.name.now, length c.in-Some.args.now) ≡ false) (sym c.self.view_is) (sym c.if-is_delayed.ensures)

pub returns : goal.returns
returns c =
    delay_new c.args.self.now c.args.heads.now (form_of c.args.term.now) c.in-Some.name.now c.in-Some.args.now c.in_ok-words.words c.in-Some.ensures c.in_ok-words.ensures c.insert.new.self
    (c.if-never_waits.ensures ∙ ap (λ (ws : List When). never_waits c.args.self.now (c.in-Some.name.now, length c.in-Some.args.now) ws) c.as_slice.ensures) c.if-is_delayed.ensures c.if-is_unknown.ensures
    (c.in-Ok.ensures.added ∙ ap (λ (d : Declared). d.delays ++ ((c.in-Some.name.now, length c.in-Some.args.now), c.in_ok-words.words) ∷ []) c.self.view_is)
    ∙ ap (λ (d : Declared). accept (record d { delays = c.insert.new.self })) (sym c.self.view_is)
