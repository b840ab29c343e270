use Rattle.std.specs.Int.{w64}
use Rattle.std.proofs.lemmas.Int.{to_z-of_z}
use Rattle.cb_lex.proofs.Front.{negative_found, negative_past, lone_minus}
use Rattle.cb_lex.proofs.scan.negative.Goals as goal

pub returns-then-count-eq0 : goal.returns-then-count-eq0
returns-then-count-eq0 c line = lone_minus c.args.at line c.args.tail.now c.digits-count.result.0 c.if-count-eq0.true c.digits-count.ensures.count

pub returns-in-Some : goal.returns-in-Some
returns-in-Some c =
    negative_found c.args.tail.now c.digits-count.result.0 c.digits-count.result.1 c.in-Some.value _ c.if-count-eq0.false c.digits-count.ensures.count c.digits-count.ensures.value
    c.in-Some.ensures (to_z-of_z w64 c.in-Some.value)

pub returns-in-None : goal.returns-in-None
returns-in-None c line =
    negative_past c.args.at line c.args.tail.now c.digits-count.result.0 c.digits-count.result.1 c.if-count-eq0.false c.digits-count.ensures.count c.digits-count.ensures.value
    c.in-None.ensures
