use Rattle.cb_join.proofs.Ways.{noted-back}
use Rattle.cb_join.proofs.cycle.clear.Goals as goal

pub met-preserved : goal.met-preserved
met-preserved c =
    noted-back c.met.work.marks.items c.met.work.met.items c.pop.new.self.items c.in-Some.at c.met.invariant c.in-Some.ensures.items
