use Rattle.std.proofs.Common.{arith}
use Rattle.std.proofs.lemmas.Bool.Decides.{nat_tests}
use Rattle.cb_lex.proofs.Front.{neck_longest, lone_colon}
use Rattle.cb_lex.proofs.scan.neck.Goals as goal
use Rattle.cb_lex.proofs.scan.neck.Goals.{else-not-is_empty-via-then-not-is_empty+else-tail-eq45, else-not-is_empty-via-else-not-is_empty}

pub returns-then-tail-eq45 : goal.returns-then-tail-eq45
returns-then-tail-eq45 c = (neck_longest c.args.tail.now (grind (arith, nat_tests)) c.if-tail-eq45.true, tt)

pub returns-else-not-is_empty : goal.returns-else-not-is_empty
returns-else-not-is_empty c line =
    lone_colon c.args.at line c.args.tail.now
    (elim c.else-not-is_empty.branch [
      | else-not-is_empty-via-then-not-is_empty+else-tail-eq45 w ↦ λ lt. w.if-tail-eq45.false
      | else-not-is_empty-via-else-not-is_empty w ↦ λ lt. absurd (grind (arith, nat_tests))
    ])
