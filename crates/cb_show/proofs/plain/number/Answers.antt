use Rattle.std.proofs.Common.{◌≡◌, ◌∙◌, ap, rules, w64, to_z, of_z}
use Rattle.std.specs.Fmt.{signed_decimal}
use Rattle.cb_show.proofs.Fronts.{on_err, front_as}
use Rattle.cb_show.proofs.plain.number.Goals as goal

pub returns-clause-front : goal.returns-clause-front
returns-clause-front g c =
    let read_back : to_z w64 (of_z w64 c.args.n) ≡ c.args.n = search (rules, c.ranges.n.sfits) in
    on_err c.write_all.result (front_as c.as_bytes.result.now _ (c.as_bytes.ensures.value ∙ c.format.ensures.text ∙ ap signed_decimal read_back)) c.write_all.ensures.front
