use Rattle.std.proofs.Common.{sym, subst}
use Rattle.cb_levels.specs.Inverse.{IsInverse}
use Rattle.cb_verify.proofs.Rows.{least-found}
use Rattle.cb_verify.proofs.least.least_row.Goals as goal

pub returns : goal.returns
returns c =
    least-found c.as_slice.result.now c.args.places.now.levels.items c.args.ops.now.triples c.args.node.0 c.in_ok-row.row c.in_ok-row.ensures.none c.in_ok-row.ensures.least
    (subst (λ order. IsInverse order c.args.places.now.levels.items) (sym c.as_slice.ensures.value) c.requires.places) c.requires.support
