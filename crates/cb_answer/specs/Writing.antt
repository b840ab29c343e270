-- What writing an answer asks, and what it says of what was written.
use Rattle.std.specs.Prelude.{◌≡◌, ◌≢◌, ℕ, ◌+◌, ◌-◌, ◌<◌, ◌≤◌, ◌^◌, true, false, List, [], ◌∷◌, map, length, codes, Option}
use Rattle.cb_model.specs.Bits.{Each}
use Rattle.cb_model.specs.Values.{Sorts}
use Rattle.cb_model.specs.Outside.{Rose, Wrote}
use Rattle.cb_model.specs.Text.{Text, lines_text}
use Rattle.cb_model.specs.Line.{Names, is_wide}
use Rattle.cb_laws.proofs.OpenTrees.{Plains, all_leaves}
use Rattle.cb_boole.specs.Elimination.{Function}
use Rattle.cb_elim.specs.declared.Slot.{Slot}
use Rattle.cb_elim.specs.Store.{Seen as Booleans}
use Rattle.cb_project.specs.Answer.{AnswerCause, IsAnswer}
use Rattle.cb_shape.specs.Shapes.{shape_of}
use Rattle.cb_shape.specs.Terms.{AreRoots}
use Rattle.cb_shape.specs.Tokens.{IsShown, told_tokens}
use Rattle.cb_shape.specs.declared.Printed.{Printed}
use Rattle.cb_show.specs.Front.{Front}
use Rattle.cb_unify.specs.State.{Seen, FitsTable, IsState}
use Rattle.cb_answer.specs.declared.Item.{Item}
use Rattle.cb_answer.specs.Items.{IsItemThere, roots_of}
use Rattle.cb_answer.specs.Lines.{form_line, form_text, line_names}

-- What an answer asks: the names of all terms have the arguments of some table, the items' cells are there, and there are
-- levels for the parameters of as many leaves as a line may have.
pub record IsTellable (s : Seen) (items : List Item) : Type 0 where
  pub state : IsState s
  pub table : Sorts
  pub fits : FitsTable table s
  pub there : Each (IsItemThere (length s.heap.cells)) items
  pub room : s.store.drawn + 4096 < 2 ^ 32

-- slots by their numbers
abbrev pub slots_of : List ℕ → List Slot
slots_of numbers = map (λ n. record { 0 = n }) numbers

-- the slots of the leaves
abbrev pub leaf_slots : Plains → List Slot
leaf_slots ps = slots_of (all_leaves ps)

-- The line of items whose terms' leaves are slots: past its limits `(wide)`; else that of the pieces, with functions that are
-- the parametric form of the leaves.
pub data IsLineOf (c : ℕ) (names : Names) (s : Booleans) (items : List Item) (ps : Plains) : Text → Type 0 where
  wide : {line : Text} → is_wide (shape_of ps) ≡ true → line ≡ codes "(wide)" → IsLineOf c names s items ps line
  told : {line : Text} (first : ℕ) (gens : List Function) → is_wide (shape_of ps) ≡ false → c ≤ first → length gens ≡ length (all_leaves ps) →
      IsAnswer s (leaf_slots ps) first gens → line ≡ form_text c names items first gens (told_tokens (roots_of items) ps) → IsLineOf c names s items ps line

-- such a line was written, with its end
pub record WroteLine (Is : Text → Type 0) (before now : Option Text) : Type 0 where
  pub line : Text
  pub is : Is line
  pub wrote : Wrote before now (lines_text (line ∷ []))

-- a front of such a line was written
pub record WroteFront (Is : Text → Type 0) (before now : Option Text) : Type 0 where
  pub line : Text
  pub is : Is line
  pub front : Front before now (lines_text (line ∷ []))

-- A stop for nodes has its cause: the count of refusals rose, the budget isn't the greatest there is, and it is below the
-- nodes at the call and those that the parametric form of the leaves may take.
pub record WantsNodes (old new : Seen) (items : List Item) : Type 0 where
  pub rose : Rose old.store.nodes.fulls new.store.nodes.fulls
  pub bounded : old.store.nodes.budget ≢ 2 ^ 64 - 1
  pub below : (ps : Plains) → AreRoots old.heap.cells (roots_of items) ps → AnswerCause old.store new.store (leaf_slots ps)

-- ---- parts

-- the text is such a line with its end
pub record IsText (Is : Text → Type 0) (text : Text) : Type 0 where
  pub line : Text
  pub is : Is line
  pub whole : text ≡ lines_text (line ∷ [])

-- the line of the items, whatever terms their cells are
abbrev pub IsLineOfItems : List Text → List Text → Seen → List Item → Text → Type 0
IsLineOfItems names constants s items line =
    (ps : Plains) → AreRoots s.heap.cells (roots_of items) ps → IsLineOf s.store.constants (line_names names constants items) s.store items ps line

-- of the terms of the items' cells an answer shows this
abbrev pub IsShownFor : Seen → List Item → Printed → Type 0
IsShownFor s items printed = (ps : Plains) → AreRoots s.heap.cells (roots_of items) ps → IsShown (roots_of items) ps printed

-- the text is the line of the terms with a parametric form of their leaves, and its end
pub record IsToldLine (c : ℕ) (names : Names) (s : Booleans) (items : List Item) (ps : Plains) (text : Text) : Type 0 where
  pub first : ℕ
  pub gens : List Function
  pub order : c ≤ first
  pub many : length gens ≡ length (all_leaves ps)
  pub answer : IsAnswer s (leaf_slots ps) first gens
  pub whole : text ≡ form_line c names items ps first gens

-- the same of the items, whatever terms their cells are
abbrev pub IsToldFor : List Text → List Text → Seen → List Item → Text → Type 0
IsToldFor names constants s items text =
    (ps : Plains) → AreRoots s.heap.cells (roots_of items) ps → IsToldLine s.store.constants (line_names names constants items) s.store items ps text
