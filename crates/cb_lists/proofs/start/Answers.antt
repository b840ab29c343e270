use Rattle.std.proofs.Common.{◌≡◌, ◌-◌, suc, ap, sym, ◌∙◌, arith}
use Rattle.cb_lists.specs.Slices.{start_of}
use Rattle.cb_lists.proofs.Parts.{start-zero, start-suc}
use Rattle.cb_lists.proofs.start.Goals as goal

pub returns-then-at-eq0 : goal.returns-then-at-eq0
returns-then-at-eq0 c = start-zero 0 c.args.ends.now ∙ ap (start_of 0 c.args.ends.now) (sym c.if-at-eq0.true)

pub returns-else-at-eq0 : goal.returns-else-at-eq0
returns-else-at-eq0 c =
    let e : suc (c.args.at - 1) ≡ c.args.at = omega arith in
    sym (start-suc 0 c.args.ends.now (c.args.at - 1) (omega arith)) ∙ ap (start_of 0 c.args.ends.now) e
