use Rattle.std.proofs.Common.{rules, arith}
use Rattle.std.proofs.lemmas.Grind.{common_steps}
use Rattle.cb_lex.proofs.Digits.{writes_more}
use Rattle.cb_lex.proofs.bytes.digits.Goals as goal

pub loop-n-preserved : goal.loop-n-preserved
loop-n-preserved c = record {
  within = search rules;
  so_far = grind (arith, common_steps);
  writes = writes_more c.args.bytes.now c.loop-n.n c.loop-n.value c.with_digit-value.result c.loop-n-test.true c.loop-n.invariant.writes c.with_digit-value.ensures;
}
