use Rattle.std.proofs.Common.{◌∙◌, ap}
use Rattle.cb_model.specs.Directives.{Declared, looked_up, nonvar_at_bool}
use Rattle.cb_directives.proofs.Arguments.{nonvar_some, nonvar_none}
use Rattle.cb_directives.proofs.declarations.Declarations.nonvar_at_bool.Goals as goal

pub returns-in-Some : goal.returns-in-Some
returns-in-Some c =
    c.has_nonvar.ensures ∙ ap (nonvar_at_bool c.args.words.now) c.as_slice.ensures
    ∙ nonvar_some c.args.self.now (c.args.name.now, c.args.count) c.args.words.now c.in-Some.sorts.now (c.in-Some.ensures ∙ ap (λ (d : Declared). looked_up d.sorts (c.args.name.now, c.args.count)) c.self.view_is)

pub returns-in-None : goal.returns-in-None
returns-in-None c =
    nonvar_none c.args.self.now c.args.name.now c.args.count c.args.words.now (c.in-None.ensures ∙ ap (λ (d : Declared). looked_up d.sorts (c.args.name.now, c.args.count)) c.self.view_is)
