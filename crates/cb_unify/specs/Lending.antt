-- Loans of the store and of its operations.
use Rattle.std.specs.Prelude.{◌≡◌, ◌≤◌, List, ◌++◌}
use Rattle.std.specs.Borrow.{Lends, MutBor, Fml}
use Rattle.cb_dd.specs.declared.Node.{Node}
use Rattle.cb_dd.specs.Diagram.{Store as Nodes}
use Rattle.cb_ops.specs.Ops.{Grows}
use Rattle.cb_ops.specs.contracts.Ops.{the_row as ops_row}
use Rattle.cb_elim.specs.contracts.Store.{the_row as store_row}
use Rattle.cb_elim.specs.Store.{Seen as Booleans, IsStore}
use Rattle.cb_elim.specs.Moments.{KeepsMoments}
use Rattle.cb_unify.specs.contracts.State.{the_row}
use Rattle.cb_unify.specs.State.{Seen}

-- the state with another store
abbrev pub with_store : Booleans → Seen → Seen
with_store b s = record { heap = s.heap; store = b; made = s.made }

-- when the loan is over, the state has the store that was left, and all else as before
abbrev pub LendsStore : MutBor Seen → MutBor Booleans → Fml
LendsStore s r = Lends the_row store_row s r (λ b. with_store b s.now)

-- the same of the nodes
abbrev pub LendsOps : MutBor Seen → MutBor Nodes → Fml
LendsOps s r = Lends the_row ops_row s r (λ n. with_store (record s.now.store { nodes = n }) s.now)

-- What a borrower of the store owes. The constants, the free levels with their variables, the slots with their values,
-- the budget and the nodes stay, each in its place, and so do the moments. Levels, slots and nodes may be added.
pub record IsLent (old new : Booleans) : Type 0 where
  pub store : IsStore new
  pub moments : KeepsMoments old new
  pub constants : new.constants ≡ old.constants
  pub free : new.free ≡ old.free
  pub drawn : old.drawn ≤ new.drawn
  pub more : List Node
  pub slots : new.slots ≡ old.slots ++ more
  pub nodes : Grows old.nodes new.nodes
