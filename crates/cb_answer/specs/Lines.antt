-- The text of an answer from the pieces of its terms.
use Rattle.std.specs.Prelude.{◌≡◌, ℕ, ◌<◌, ◌≤◌, Bool, List, [], ◌∷◌, ◌++◌, map, length}
use Rattle.cb_model.specs.Bits.{Bits}
use Rattle.cb_model.specs.Text.{Text, lines_text}
use Rattle.cb_model.specs.Line.{Names, leaf_text, line_text}
use Rattle.cb_dd.specs.declared.Triple.{Triple}
use Rattle.cb_dd.specs.declared.Node.{Node}
use Rattle.cb_boole.specs.Elimination.{Function}
use Rattle.cb_boole.specs.Stages.{AreOwn}
use Rattle.cb_project.specs.Leaves.{functions_of, AllNodes}
use Rattle.cb_show.specs.Levels.{spread}
use Rattle.cb_laws.proofs.OpenTrees.{Plains, all_leaves}
use Rattle.cb_shape.specs.declared.Printed.{Printed}
use Rattle.cb_shape.specs.Shapes.{shape_of}
use Rattle.cb_shape.specs.Tokens.{IsShown, told_tokens}
use Rattle.cb_shape.specs.declared.Token.{Token}
use Rattle.cb_shape.specs.declared.Token.TheVariants as token
use Rattle.cb_shape.specs.Text.{AreOfLine, token_text, tokens_text}
use Rattle.cb_answer.specs.declared.Item.{Item}
use Rattle.cb_answer.specs.declared.pieces.Told.{Told}
use Rattle.cb_answer.specs.Items.{begins, item_starts, printed_of, roots_of, waiting_of}

-- the names that a line reads
abbrev pub line_names : List Text → List Text → List Item → Names
line_names names constants items = record { names = names; constants = constants; printed = printed_of items }

-- the functions over the constants and, directly behind them, the parameters
abbrev pub spread_all : ℕ → ℕ → List Function → List (Bits → Bool)
spread_all c first gens = map (λ g env. g (spread c first env)) gens

-- the texts of the leaves of a parametric form, whose parameters have the levels from the first on
abbrev pub form_leaf : ℕ → Names → ℕ → List Function → ℕ → Text
form_leaf c names first gens = leaf_text c names (spread_all c first gens)

-- the text of an answer's pieces
abbrev pub form_text : ℕ → Names → List Item → ℕ → List Function → List Token → Text
form_text c names items first gens ts = begins items ++ tokens_text names (item_starts items) (form_leaf c names first gens) ts

-- the piece has a number that is there: of so many terms and leaves
abbrev pub IsNumbered : ℕ → ℕ → Token → Type 0
IsNumbered terms leaves (token.Term i) = i < terms
IsNumbered terms leaves (token.Leaf j) = j < leaves
IsNumbered terms leaves _ = Unit {0}

-- the nodes of a parametric form, each over the constants and the parameters up to its own
pub record IsForm (ts : List Triple) (c first : ℕ) (ns : List Node) : Type 0 where
  pub nodes : AllNodes ts ns
  pub order : c ≤ first
  pub own : AreOwn c first 0 (functions_of ts ns)

-- what was told is of these items and terms, with so many leaves
pub record AreTold (items : List Item) (leaves : ℕ) (ps : Plains) (s : Printed) : Type 0 where
  pub shown : IsShown (roots_of items) ps s
  pub leaves_are : length (all_leaves ps) ≡ leaves

-- the line of the pieces of terms, with a parametric form for their leaves
abbrev pub form_line : ℕ → Names → List Item → Plains → ℕ → List Function → Text
form_line c names items ps first gens = lines_text (form_text c names items first gens (told_tokens (roots_of items) ps) ∷ [])

-- the line of their shape
abbrev pub shape_line : ℕ → Names → Plains → ℕ → List Function → Text
shape_line c names ps first gens = lines_text (line_text c names (shape_of ps) (spread_all c first gens) ∷ [])

-- ---- what a line is told from, with what its names say by number

-- the names that it reads
abbrev pub told_names : {N : Type 0} → (N → List Text) → (N → List Text) → Told N → Names
told_names names constants t = line_names (names t.names.now) (constants t.names.now) t.items.now

-- the functions of its leaves
abbrev pub told_gens : {N : Type 0} → Told N → List Function
told_gens t = functions_of t.ops.now.triples t.form.now.nodes

-- its nodes are those of a parametric form
abbrev pub HasForm : {N : Type 0} → Told N → Type 0
HasForm t = IsForm t.ops.now.triples t.constants t.form.now.first t.form.now.nodes

-- it has the items and the leaves of these terms
abbrev pub TellsOf : {N : Type 0} → Told N → Plains → Printed → Type 0
TellsOf t ps printed = AreTold t.items.now (length t.form.now.nodes) ps printed

-- the variables stand before the goals, and the goals' names are those of their numbers
abbrev pub IsNamed : {N : Type 0} → (N → List Text) → Told N → Plains → Type 0
IsNamed names t ps = AreOfLine (names t.names.now) (printed_of t.items.now) (waiting_of t.items.now) (roots_of t.items.now) ps

-- it has the items and the leaves of the piece
abbrev pub HasToken : {N : Type 0} → Told N → Token → Type 0
HasToken t x = IsNumbered (length t.items.now) (length t.form.now.nodes) x

-- the text of a leaf, of a piece, and of pieces
abbrev pub told_leaf : {N : Type 0} → (N → List Text) → (N → List Text) → Told N → ℕ → Text
told_leaf names constants t = form_leaf t.constants (told_names names constants t) t.form.now.first (told_gens t)

abbrev pub told_token : {N : Type 0} → (N → List Text) → (N → List Text) → Told N → Token → Text
told_token names constants t = token_text (told_names names constants t) (item_starts t.items.now) (told_leaf names constants t)

abbrev pub told_text : {N : Type 0} → (N → List Text) → (N → List Text) → Told N → List Token → Text
told_text names constants t = form_text t.constants (told_names names constants t) t.items.now t.form.now.first (told_gens t)

-- the line of the pieces of terms, and of their shape
abbrev pub told_pieces : {N : Type 0} → (N → List Text) → (N → List Text) → Told N → Plains → Text
told_pieces names constants t ps = form_line t.constants (told_names names constants t) t.items.now ps t.form.now.first (told_gens t)

abbrev pub told_line : {N : Type 0} → (N → List Text) → (N → List Text) → Told N → Plains → Text
told_line names constants t ps = shape_line t.constants (told_names names constants t) ps t.form.now.first (told_gens t)
