use Rattle.cb_elim.proofs.Moved.{uses-new}
use Rattle.cb_elim.proofs.watch.note.Goals as goal

pub returns-clause-used : goal.returns-clause-used
returns-clause-used c =
    uses-new c.args.ops.now.triples c.args.constants c.args.old.0 c.args.new.0 c.args.slot c.args.since c.in_ok-before.before.items c.in_ok-levels.levels.items c.add_uses.new.uses c.in_ok-before.ensures.needed c.in_ok-levels.ensures.enough
    (rw (c.as_slice.ensures, c.as_slice-2.ensures) at c.in_ok-add_uses.ensures.used)
