use Rattle.std.proofs.Common.{arith}
use Rattle.std.proofs.lemmas.Bool.Decides.{nat_tests}
use Rattle.cb_lex.proofs.Skips.{more_layout, more_comment}
use Rattle.cb_lex.proofs.bytes.skip.Goals as goal
use Rattle.cb_lex.proofs.bytes.skip.Goals.{then-byte-eq10, else-byte-eq10}

pub loop-at-preserved-then-is_layout : goal.loop-at-preserved-then-is_layout
loop-at-preserved-then-is_layout c =
    record {
      within = omega arith;
      forward = omega arith;
      line_within = elim c.if-byte-eq10.branch [ then-byte-eq10 w ↦ omega arith | else-byte-eq10 w ↦ omega arith ];
      same = more_layout c.args.source.now c.loop-at.at c.loop-at.line c.if-byte-eq10.line c.loop-at-test.true (cc)
          (elim c.if-byte-eq10.branch [ then-byte-eq10 w ↦ grind (arith, nat_tests) | else-byte-eq10 w ↦ grind (arith, nat_tests) ]) c.loop-at.invariant.same;
    }

pub loop-at-preserved : goal.loop-at-preserved
loop-at-preserved c =
    record {
      within = omega arith;
      forward = omega arith;
      line_within = omega arith;
      same = more_comment c.args.source.now c.loop-at.at c.loop-at.line c.line_run.result c.loop-at-test.true c.if-byte-eq37.true c.line_run.ensures.count c.line_run.ensures.within c.loop-at.invariant.same;
    }
