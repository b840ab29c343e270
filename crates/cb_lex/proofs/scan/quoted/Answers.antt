use Rattle.std.proofs.Common.{arith}
use Rattle.cb_lex.proofs.Front.{quoted_longest, open_quote}
use Rattle.cb_lex.proofs.scan.quoted.Goals as goal
use Rattle.cb_lex.proofs.scan.quoted.Goals.{else-count-tail-via-then-count-tail+else-tail-count-eq39, else-count-tail-via-else-count-tail}

pub returns-then-tail-count-eq39 : goal.returns-then-tail-count-eq39
returns-then-tail-count-eq39 c = (quoted_longest c.args.tail.now c.quotable_run-count.result c.quotable_run-count.ensures.count c.if-count-tail.true c.if-tail-count-eq39.true, tt)

pub returns-else-count-tail : goal.returns-else-count-tail
returns-else-count-tail c line =
    open_quote c.args.at line c.args.tail.now c.quotable_run-count.result c.quotable_run-count.ensures.count
    (elim c.else-count-tail.branch [
      | else-count-tail-via-then-count-tail+else-tail-count-eq39 w ↦ λ lt. w.if-tail-count-eq39.false
      | else-count-tail-via-else-count-tail w ↦ λ lt. absurd (omega arith)
    ])
