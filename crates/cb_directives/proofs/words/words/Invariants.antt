use Rattle.std.proofs.Common.{◌≡◌, drop, map}
use Rattle.cb_model.specs.Forms.{form_of, forms_of}
use Rattle.cb_model.specs.Directives.{all_words}
use Rattle.cb_directives.proofs.Reading.{prepend}
use Rattle.cb_directives.proofs.words.words.Given as goal

abbrev pub invariant-loop-term : goal.invariant-loop-term
invariant-loop-term g l =
    all_words g.T.Word.words (forms_of (map form_of l.terms)) ≡ prepend l.words (all_words g.T.Word.words (forms_of (map form_of (drop l.term-index l.terms))))
