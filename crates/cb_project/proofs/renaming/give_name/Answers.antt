use Rattle.std.proofs.Common.{◌+◌, ◌≤◌, nat_eq, ap, inr, arith, ◌∙◌}
use Rattle.indexmap.proofs.CallerLemmas.{insert_entry-new}
use Rattle.cb_project.proofs.renaming.give_name.Goals as goal

pub returns : goal.returns
returns c =
    let above : c.args.next ≤ c.in-Some.level = omega (arith, c.if-from-next.false, c.from.ensures) in
    inr (
      c.in-Some.level,
      c.in-Some.is,
      above,
      ap (λ n. n + 1) c.from-2.ensures,
      c.in_ok-insert.ensures.entries ∙ insert_entry-new nat_eq c.args.names.now c.in-Some.level c.args.parameter (c.requires.absent c.in-Some.level above),
    )
