-- What the line of an answer tells: the printed variables, and the goals that wait.
use Rattle.std.specs.Prelude.{◌≡◌, ℕ, List, [], map, Some, slice_get}
use Rattle.cb_model.specs.Text.{Text}
use Rattle.cb_model.specs.Output.{printed_from}
use Rattle.cb_heap.specs.declared.Ref.{Ref}
use Rattle.cb_answer.specs.declared.Item.{Item}
use Rattle.cb_answer.specs.declared.Item.TheVariants as item
use Rattle.cb_answer.specs.Items.{AreItems}
use Rattle.cb_tell.specs.declared.answers.WaitingCall.{WaitingCall}

-- the call that waits: its predicate, and the cells of its arguments
abbrev pub call_of : WaitingCall → ℕ × List Ref
call_of c = (c.pred, c.args.items)

-- the item is that of a printed variable: it has its name, and its cell
abbrev pub IsItemOf : List ℕ → ℕ × Text → Item → Type 0
IsItemOf made v (item.Var name cell) = (name.now ≡ v.1) × (slice_get made v.0 ≡ Some cell.0)
IsItemOf made v (item.Waiting name args) = ⊥

-- the item is that of the printed variable in this place
pub record IsItemAt (made : List ℕ) (variables : List Text) (place : ℕ) (x : Item) : Type 0 where
  pub variable : ℕ × Text
  pub at : slice_get (printed_from 0 variables) place ≡ Some variable
  pub is : IsItemOf made variable x

-- the items are those of these printed variables, whatever names there are for goals
abbrev pub AreVariables : List ℕ → List (ℕ × Text) → List Item → Type 0
AreVariables made printed items = (names : List Text) → AreItems made names printed [] items

-- behind items of printed variables, whichever those are, these calls are told
abbrev pub AddsCalls : List Text → List WaitingCall → List Item → List Item → Type 0
AddsCalls names calls before after =
    (made : List ℕ) (printed : List (ℕ × Text)) → AreVariables made printed before → AreItems made names printed (map call_of calls) after
