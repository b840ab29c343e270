-- The text of an answer's pieces.
use Rattle.std.specs.Prelude.{◌≡◌, ℕ, List, [], ◌∷◌, ◌++◌, map, get_or, codes, flat_map}
use Rattle.std.specs.Fmt.{signed_decimal}
use Rattle.cb_model.specs.Text.{Text, joined, name_text}
use Rattle.cb_model.specs.Line.{Names, open_text, tree_text, line_items}
use Rattle.cb_laws.proofs.OpenTrees.{Plains, ANode, Nil, Cons}
use Rattle.cb_shape.specs.declared.Root.{Root}
use Rattle.cb_shape.specs.declared.Root.TheVariants as root
use Rattle.cb_shape.specs.declared.Token.{Token}
use Rattle.cb_shape.specs.declared.Token.TheVariants as token
use Rattle.cb_shape.specs.Shapes.{shape_of}
use Rattle.cb_shape.specs.Tokens.{told_tokens}

-- what stands before the terms: of each its variable, or that the goal of this name waits
abbrev pub starts : List (ℕ × Text) → List Text → List Text
starts vs ws = map (λ v. v.1 ++ codes " = ") vs ++ map (λ w. codes "waiting " ++ name_text w) ws

-- the same with what stands between; `yes` stands where no variable is printed
abbrev pub term_starts : List (ℕ × Text) → List Text → List Text
term_starts [] ws = map (λ t. codes ", " ++ t) (starts [] ws)
term_starts (v ∷ vs) ws = (v.1 ++ codes " = ") ∷ map (λ t. codes ", " ++ t) (starts vs ws)

abbrev pub line_start : List (ℕ × Text) → Text
line_start [] = codes "yes"
line_start (v ∷ vs) = []

-- the text of a piece, with what stands before the terms and the texts of the leaves
abbrev pub token_text : Names → List Text → (ℕ → Text) → Token → Text
token_text names before leaf (token.Term i) = get_or before i []
token_text names before leaf (token.Leaf j) = leaf j
token_text names before leaf (token.Open k) = open_text k
token_text names before leaf (token.Int z) = signed_decimal z
token_text names before leaf (token.Name n) = name_text (get_or names.names n [])
token_text names before leaf token.LeftParen = codes "("
token_text names before leaf token.RightParen = codes ")"
token_text names before leaf token.LeftBracket = codes "["
token_text names before leaf token.RightBracket = codes "]"
token_text names before leaf token.Bar = codes "|"
token_text names before leaf token.Comma = codes ", "

-- the text of pieces
abbrev pub tokens_text : Names → List Text → (ℕ → Text) → List Token → Text
tokens_text names before leaf ts = flat_map (token_text names before leaf) ts

-- The roots are those of a line: the terms of the printed variables, and behind them goals whose predicates have these names.
abbrev pub AreOfLine : List Text → List (ℕ × Text) → List Text → List Root → Plains → Type 0
AreOfLine ns (v ∷ vs) ws (root.Term r ∷ rs) (Cons p ps) = AreOfLine ns vs ws rs ps
AreOfLine ns [] (w ∷ ws) (root.Goal args ∷ rs) (Cons (ANode n qs) ps) = (get_or ns n [] ≡ w) × AreOfLine ns [] ws rs ps
AreOfLine ns [] [] [] Nil = Unit {0}
AreOfLine ns _ _ _ _ = ⊥

-- The pieces, one after another, are the line of the shape.
abbrev pub PiecesAreTheLine : Type 0
PiecesAreTheLine = (names : Names) (ws : List Text) (leaf : ℕ → Text) (rs : List Root) (ps : Plains) → AreOfLine names.names names.printed ws rs ps →
    line_start names.printed ++ tokens_text names (term_starts names.printed ws) leaf (told_tokens rs ps)
    ≡ joined (codes ", ") (line_items names.printed (map (tree_text names leaf) (shape_of ps)))
