use Rattle.std.proofs.Common.{◌≡◌, reverse, rules}
use Rattle.std.specs.Prelude.{nat_le}
use Rattle.std.specs.List.{filter}
use Rattle.cb_elim.proofs.Levels.{eliminated}
use Rattle.cb_elim.proofs.equation.free_levels.Goals as goal

pub returns : goal.returns
returns c =
    let e : c.in_ok-levels.levels.items ≡ filter (λ l. nat_le c.args.constants l) (reverse c.in_ok-support.support.items) = search rules in
    eliminated c.args.ops.now.triples c.args.f.0 c.args.constants c.in_ok-support.support.items c.in_ok-levels.levels.items e c.in_ok-support.ensures.rise c.in_ok-support.ensures.enough c.in_ok-support.ensures.needed
