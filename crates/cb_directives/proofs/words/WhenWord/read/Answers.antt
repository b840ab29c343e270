use Rattle.cb_directives.proofs.Reading.{not_word, none_of}
use Rattle.cb_directives.proofs.words.WhenWord.read.Goals as goal

pub returns-else-eq-4 : goal.returns-else-eq-4
returns-else-eq-4 c =
    none_of _ _ _ _ _ _ _ _ (not_word c.args.name.now c.as_slice.result.now _ c.if-eq.ensures c.as_slice.ensures)
    (not_word c.args.name.now c.as_slice-else-eq.result.now _ c.if-eq-2.ensures c.as_slice-else-eq.ensures)
    (not_word c.args.name.now c.as_slice-else-eq-2.result.now _ c.if-eq-3.ensures c.as_slice-else-eq-2.ensures)
    (not_word c.args.name.now c.as_slice-else-eq-3.result.now _ c.if-eq-4.ensures c.as_slice-else-eq-3.ensures)
