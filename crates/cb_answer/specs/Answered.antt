-- The line of items is that of the branch that they tell.
use Rattle.std.specs.Prelude.{◌≡◌, List}
use Rattle.cb_model.specs.Text.{Text}
use Rattle.cb_model.specs.Program.{Program}
use Rattle.cb_model.specs.Derivation.{Branch}
use Rattle.cb_model.specs.Line.{Names, IsLine}
use Rattle.cb_unify.specs.State.{Seen}
use Rattle.cb_answer.specs.declared.Item.{Item}
use Rattle.cb_answer.specs.Answering.{Tells}

-- The line of the items, by these names of terms and constants: of whatever program and branch the state and the items
-- tell, it is the line.
abbrev pub IsLineFor : List Text → List Text → Seen → List Item → Text → Type 0
IsLineFor ns cs s items line =
    (p : Program) (names : Names) (b : Branch) → Tells p names b s items → names.names ≡ ns → names.constants ≡ cs → IsLine p names b line
