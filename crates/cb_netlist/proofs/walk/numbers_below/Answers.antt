use Rattle.std.proofs.Common.{sym, add-one}
use Rattle.cb_netlist.proofs.Wholes.{numbers-last}
use Rattle.cb_netlist.proofs.walk.numbers_below.Goals as goal

pub loop-number-preserved : goal.loop-number-preserved
loop-number-preserved c =
    rw (add-one, c.in_ok-push.ensures.items, c.loop-number.invariant) (sym (numbers-last c.loop-number.number))
