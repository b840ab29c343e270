-- Laws of what a branch keeps of a state: each is the contract of a function that does nothing.
use Rattle.std.specs.Prelude.{◌≡◌, ℕ, List}
use Rattle.cb_model.specs.declared.Sort.{Sort}
use Rattle.cb_model.specs.declared.Tree.{Tree}
use Rattle.cb_model.specs.Program.{shift_tree}
use Rattle.cb_model.specs.Values.{Sorts, World}
use Rattle.cb_model.specs.Equations.{Item}
use Rattle.cb_unify.specs.State.{Seen, FitsTable, IsState, with_fulls}
use Rattle.cb_unify.specs.Growth.{IsBuilt, IsExtended, IsGrown}
use Rattle.cb_items.specs.Shifted.{IsShifted}
use Rattle.cb_items.specs.Standing.{Stands, IsFrame, IsVals}

-- what a cell stands for stays, as the state grows
abbrev pub StandsLater : Type 0
StandsLater = (t : Sorts) (s u : Seen) (r : ℕ) (x : Tree) → IsGrown s u → Stands t s r x → Stands t u r x

-- the variables of a frame stay, as the state grows
abbrev pub FrameLater : Type 0
FrameLater = (s u : Seen) (base : ℕ) (zs : List Sort) (frame : List ℕ) → IsGrown s u → IsFrame s base zs frame → IsFrame u base zs frame

-- a renamed tree is the tree with variables that are higher, by its values
abbrev pub RenamedIsShifted : Type 0
RenamedIsShifted = (k : ℕ) (x : Tree) → IsShifted k x (shift_tree k x)

-- a cell that was built of a tree over a frame stands for the tree with the numbers that its variables have
abbrev pub BuiltStands : Type 0
BuiltStands = (t : Sorts) (s u : Seen) (zs : List Sort) (frame : List ℕ) (x y : Tree) (r base : ℕ) → IsBuilt u zs frame x r → IsGrown s u → IsFrame s base zs frame → IsShifted base x y → Stands t u r y

-- cells that were added change no values
abbrev pub ValuesStay : Type 0
ValuesStay = (w : World) (s u : Seen) (es : List Item) → IsState s → IsExtended s u → FitsTable w.arguments u → IsVals w s es → IsVals w u es

-- nor does the count of refusals for nodes
abbrev pub FullsSayNothing : Type 0
FullsSayNothing = (w : World) (n : ℕ) (s : Seen) (es : List Item) → IsVals w s es → IsVals w (with_fulls n s) es
