-- The loan of the operations.
use Rattle.std.specs.Borrow.{Lends, MutBor, Fml}
use Rattle.cb_dd.specs.Diagram.{Store}
use Rattle.cb_ops.specs.contracts.Ops.{the_row as ops_row}
use Rattle.cb_elim.specs.contracts.Store.{the_row}
use Rattle.cb_elim.specs.Store.{Seen}

-- when the loan is over, the store has the nodes that were left, and all else as before
abbrev pub LendsOps : MutBor Seen → MutBor Store → Fml
LendsOps s r = Lends the_row ops_row s r (λ w. record s.now { nodes = w })
