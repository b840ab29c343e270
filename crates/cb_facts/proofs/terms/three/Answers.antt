use Rattle.std.proofs.Common.{arith}
use borrow.Author.Tests.{ltb-true, ltb-false}
use Rattle.cb_facts.proofs.Counts.{not_three-fewer, not_three-more}
use Rattle.cb_facts.proofs.terms.three.Goals as goal
use Rattle.cb_facts.proofs.terms.three.Goals.{in_default-via-then-terms-lt3, in_default-via-else-terms-lt3+else-terms-lt4}

pub returns-in_default : goal.returns-in_default
returns-in_default c = elim c.in_default.branch [ in_default-via-then-terms-lt3 w ↦ not_three-fewer c.args.terms.now (omega (arith, ltb-true)) | in_default-via-else-terms-lt3+else-terms-lt4 w ↦ not_three-more c.args.terms.now (omega (arith, ltb-false)) ]
