use Rattle.std.proofs.Common.{sym, ◌∙◌, ap}
use Rattle.cb_model.specs.Forms.{form_of}
use Rattle.cb_model.specs.Directives.{atom_word}
use Rattle.cb_directives.proofs.Reading.{word_of_atom}
use Rattle.cb_directives.proofs.words.read_word.Goals as goal

pub returns-in-Some : goal.returns-in-Some
returns-in-Some g c = c.read.ensures ∙ ap (atom_word g.T.Word.words) (sym c.in-Some.ensures)

pub returns-in-None : goal.returns-in-None
returns-in-None g c = word_of_atom g.T.Word.words (form_of c.args.term.now) c.in-None.ensures
