use Rattle.std.proofs.Common.{map, refl, sym}
use Rattle.cb_model.specs.Sorts.{own_name}
use Rattle.cb_sorts.specs.Asked.{numbered_name}
use Rattle.cb_sorts.proofs.Printing.{prints_none, pushes_one}
use Rattle.cb_sorts.proofs.printed.add_printed.Goals as goal

pub returns-in_default : goal.returns-in_default
returns-in_default c =
    prints_none c.args.number c.args.variables.now (own_name c.in_default.ensures.0) c.in_default.ensures.1 refl (map numbered_name c.args.all.now)

pub returns-then-starts_low : goal.returns-then-starts_low
returns-then-starts_low c =
    prints_none c.args.number c.args.variables.now c.in-Some.name.now c.in-Some.ensures (sym c.if-starts_low.ensures) (map numbered_name c.args.all.now)

pub returns-in-Ok : goal.returns-in-Ok
returns-in-Ok c =
    pushes_one c.args.number c.args.variables.now c.in-Some.name.now c.in-Some.ensures c.push.result c.in-Ok.number c.in-Some.name c.args.all.now c.push.new.self
    c.in-Ok.ensures.1 refl (sym c.if-starts_low.ensures) c.push.ensures.ok
