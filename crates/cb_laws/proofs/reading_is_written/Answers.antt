use Rattle.cb_laws.proofs.WrittenForm.{reading_is_written as law}
use Rattle.cb_laws.proofs.reading_is_written.Goals as goal

pub returns : goal.returns
returns c = law
