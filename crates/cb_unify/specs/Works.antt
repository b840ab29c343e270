-- Writing trees with a list of what is pending, of which the last comes first.
use Rattle.std.specs.Prelude.{◌≡◌, ℕ, ◌+◌, ◌*◌, ◌<◌, ◌≤◌, true, Result, List, [], ◌∷◌, ◌++◌, length, map, take, drop, sum, sum_by}
use Rattle.cb_model.specs.declared.Tree.{Tree}
use Rattle.cb_model.specs.declared.Tree.TheOpen.{Tree-F}
use Rattle.cb_model.specs.declared.Tree.TheVariants as tree
use Rattle.cb_model.specs.declared.Tree.TheFolds.{fold-Tree}
use Rattle.cb_model.specs.Bits.{Each}
use Rattle.cb_model.specs.Room.{tree_size}
use Rattle.cb_model.specs.Values.{tree_in_scope}
use Rattle.cb_dd.specs.declared.Stop.{Stop}
use Rattle.cb_solution.specs.Solution.{has_refused}
use Rattle.cb_elim.specs.Store.{Seen as Booleans}
use Rattle.cb_heap.specs.declared.Ref.{Ref}
use Rattle.cb_unify.specs.declared.writing.Pending.{Pending}
use Rattle.cb_unify.specs.declared.writing.Pending.TheVariants as pending
use Rattle.cb_unify.specs.State.{Seen}
use Rattle.cb_unify.specs.Trees.{AreTreesOf, IsCompoundOf, StopsAt, WritesAtMost}

-- what is still to be written: a tree, or a compound whose arguments are the trees from a place on
pub data Work : Type 0 where
  Whole : Tree → Work
  Close : ℕ → ℕ → Work

abbrev pub work_of : Pending → Work
work_of (pending.Tree x) = Whole x.now
work_of (pending.Node name start) = Close name start

abbrev pub works : List Pending → List Work
works ps = map work_of ps

-- the trees that have cells once it is written
abbrev pub after : Work → List Tree → List Tree
after (Whole x) xs = xs ++ x ∷ []
after (Close name start) xs = take start xs ++ tree.Node name (drop start xs) ∷ []

-- the trees that have cells once all is written
abbrev pub written : List Work → List Tree → List Tree
written [] xs = xs
written (w ∷ ws) xs = after w (written ws xs)

-- a compound's arguments begin at a place that is there
abbrev pub IsOpen : Work → ℕ → Type 0
IsOpen (Whole x) n = Unit {0}
IsOpen (Close name start) n = start ≤ n

abbrev pub AreOpen : List Work → List Tree → Type 0
AreOpen [] xs = Unit {0}
AreOpen (w ∷ ws) xs = IsOpen w (length (written ws xs)) × AreOpen ws xs

abbrev pub IsInScope : ℕ → ℕ → Work → Type 0
IsInScope c v (Whole x) = tree_in_scope c v x ≡ true
IsInScope c v (Close name start) = Unit {0}

-- the operators and leaves in it
abbrev pub work_size : Work → ℕ
work_size (Whole x) = tree_size x
work_size (Close name start) = 0

-- the steps that a tree takes at most, the first left out
abbrev pub steps_step : Tree-F ℕ → ℕ
steps_step (Tree-F.Node n ns) = sum ns + length ns + 1
steps_step _ = 0

abbrev pub steps : Tree → ℕ
steps = fold-Tree ℕ steps_step

-- the steps that it takes at most
abbrev pub work_steps : Work → ℕ
work_steps (Whole x) = steps x + 1
work_steps (Close name start) = 1

-- the trees of these, the last of which comes last in a list of what is pending
abbrev pub last_first : List Tree → List Work
last_first [] = []
last_first (x ∷ xs) = last_first xs ++ Whole x ∷ []

-- what was spent of the budget, and the count of refusals
pub record Writes {A : Type 0} (r : Result A Stop) (s u : Booleans) (n : ℕ) : Type 0 where
  pub room : WritesAtMost s u n
  pub cause : StopsAt r s u n
  pub fulls : u.nodes.fulls ≡ has_refused s.nodes.fulls r
  pub risen : s.nodes.fulls ≤ u.nodes.fulls

-- Some trees have cells, and with what is pending they come to these. No stop for nodes was met.
pub record IsUnderWay (old now : Seen) (frame : List ℕ) (ws : List Work) (rs : List Ref) (all : List Tree) : Type 0 where
  pub xs : List Tree
  pub trees : AreTreesOf old now frame xs rs
  pub comes : written ws xs ≡ all
  pub starts : AreOpen ws xs
  pub scope : Each (IsInScope old.store.constants (length frame)) ws
  pub room : WritesAtMost old.store now.store (sum_by tree_size xs)
  pub fulls : now.store.nodes.fulls ≡ old.store.nodes.fulls

-- whatever is under way goes on so
abbrev pub GoesOn : Seen → Seen → List ℕ → List Work → List Work → List Ref → List Ref → Type 0
GoesOn now new frame before ws rs qs = (old : Seen) (all : List Tree) → IsUnderWay old now frame before rs all → IsUnderWay old new frame ws qs all

-- the compound of the cells from a place on was added, and its cell takes their place
abbrev pub IsClosedWith : Seen → Seen → ℕ → ℕ → List Ref → List Ref → Type 0
IsClosedWith s u name start rs qs = (r : Ref) × (qs ≡ take start rs ++ r ∷ []) × IsCompoundOf s u name (drop start rs) r.0

-- a tree is no compound
abbrev pub IsSimple : Tree → Type 0
IsSimple x = (name : ℕ) (xs : List Tree) → x ≡ tree.Node name xs → ⊥
