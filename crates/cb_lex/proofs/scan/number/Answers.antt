use Rattle.std.specs.Int.{w64}
use Rattle.std.proofs.lemmas.Int.{to_z-of_z}
use Rattle.cb_lex.proofs.Front.{number_found, number_past}
use Rattle.cb_lex.proofs.scan.number.Goals as goal

pub returns-in-Some : goal.returns-in-Some
returns-in-Some c =
    number_found c.args.rest.now c.digits-count.result.0 c.digits-count.result.1 c.in-Some.value _ c.requires c.digits-count.ensures.count c.digits-count.ensures.value c.in-Some.ensures
    (to_z-of_z w64 c.in-Some.value)

pub returns-in-None : goal.returns-in-None
returns-in-None c line =
    number_past c.args.at line c.args.rest.now c.digits-count.result.0 c.digits-count.result.1 c.requires c.digits-count.ensures.count c.digits-count.ensures.value c.in-None.ensures
