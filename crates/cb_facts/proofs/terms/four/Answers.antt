use Rattle.std.proofs.Common.{arith}
use borrow.Author.Tests.{ltb-true, ltb-false}
use Rattle.cb_facts.proofs.Counts.{not_four-fewer, not_four-more}
use Rattle.cb_facts.proofs.terms.four.Goals as goal
use Rattle.cb_facts.proofs.terms.four.Goals.{in_default-via-then-terms-lt4, in_default-via-else-terms-lt4+else-terms-lt5}

pub returns-in_default : goal.returns-in_default
returns-in_default c = elim c.in_default.branch [ in_default-via-then-terms-lt4 w ↦ not_four-fewer c.args.terms.now (omega (arith, ltb-true)) | in_default-via-else-terms-lt4+else-terms-lt5 w ↦ not_four-more c.args.terms.now (omega (arith, ltb-false)) ]
