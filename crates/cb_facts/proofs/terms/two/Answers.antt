use Rattle.std.proofs.Common.{arith}
use borrow.Author.Tests.{ltb-true, ltb-false}
use Rattle.cb_facts.proofs.Counts.{not_two-fewer, not_two-more}
use Rattle.cb_facts.proofs.terms.two.Goals as goal
use Rattle.cb_facts.proofs.terms.two.Goals.{in_default-via-then-terms-lt2, in_default-via-else-terms-lt2+else-terms-lt3}

pub returns-in_default : goal.returns-in_default
returns-in_default c = elim c.in_default.branch [ in_default-via-then-terms-lt2 w ↦ not_two-fewer c.args.terms.now (omega (arith, ltb-true)) | in_default-via-else-terms-lt2+else-terms-lt3 w ↦ not_two-more c.args.terms.now (omega (arith, ltb-false)) ]
