use Rattle.std.proofs.Common.{◌∙◌, ap}
use Rattle.cb_model.specs.Directives.{Declared, looked_up}
use Rattle.cb_directives.proofs.Reading.{at_word, past_words, no_words}
use Rattle.cb_directives.proofs.declarations.Declarations.when.Goals as goal

pub returns-in-Some-at : goal.returns-in-Some-at
returns-in-Some-at c =
    at_word _ c.in-Some.words.now c.as_slice.result.now c.args.place c.in-Some-at.word.now (c.in-Some.ensures ∙ ap (λ (d : Declared). looked_up d.delays (c.args.name.now, c.args.count)) c.self.view_is) c.as_slice.ensures c.in-Some-at.ensures

pub returns-in-None-at : goal.returns-in-None-at
returns-in-None-at c =
    past_words _ c.in-Some.words.now c.as_slice.result.now c.args.place (c.in-Some.ensures ∙ ap (λ (d : Declared). looked_up d.delays (c.args.name.now, c.args.count)) c.self.view_is) c.as_slice.ensures c.in-None-at.ensures

pub returns-in-None : goal.returns-in-None
returns-in-None c = no_words _ c.args.place (c.in-None.ensures ∙ ap (λ (d : Declared). looked_up d.delays (c.args.name.now, c.args.count)) c.self.view_is)
