use Rattle.cb_ready.proofs.FewWords.{few-words}
use Rattle.cb_ready.proofs.words_are_few.Goals as goal

pub returns : goal.returns
returns c = few-words
