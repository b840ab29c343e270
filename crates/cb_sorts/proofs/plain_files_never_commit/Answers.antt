use Rattle.cb_sorts.proofs.Commits.{plain_files_never_commit as law}
use Rattle.cb_sorts.proofs.plain_files_never_commit.Goals as goal

pub returns : goal.returns
returns c = law
