-- The pieces of the text of terms, in order of print.
use Rattle.std.specs.Prelude.{◌≡◌, ℕ, suc, ◌+◌, true, false, List, [], ◌∷◌, ◌++◌, length, Option, Some, None}
use Rattle.cb_model.specs.declared.Sort.TheVariants as sort
use Rattle.cb_model.specs.Line.{is_wide}
use Rattle.cb_laws.proofs.OpenTrees.{Plain, Plains, ALeaf, ABus, AVar, AnInt, ANode, Nil, Cons, Place, plain_leaves, all_leaves, all_opens}
use Rattle.cb_shape.specs.declared.Root.{Root}
use Rattle.cb_shape.specs.declared.Root.TheVariants as root
use Rattle.cb_shape.specs.declared.Token.{Token}
use Rattle.cb_shape.specs.declared.Token.TheVariants as token
use Rattle.cb_shape.specs.declared.Printed.{Printed}
use Rattle.cb_shape.specs.Shapes.{place_from, firsts, shape_of}

-- The leaves are numbered from j on, and each open place by its place in the list.

-- what stands behind the first element of a bus
abbrev pub tail_tokens : List Place → ℕ → List ℕ → Option ℕ → List Token
tail_tokens os j [] None = token.RightBracket ∷ []
tail_tokens os j [] (Some c) = token.Bar ∷ token.Open (place_from 0 os (sort.Bus, c)) ∷ token.RightBracket ∷ []
tail_tokens os j (s ∷ ss) t = token.Comma ∷ token.Leaf j ∷ tail_tokens os (suc j) ss t

-- a bus; one of which nothing is known is its open place alone
abbrev pub bus_tokens : List Place → ℕ → List ℕ → Option ℕ → List Token
bus_tokens os j [] None = token.LeftBracket ∷ token.RightBracket ∷ []
bus_tokens os j [] (Some c) = token.Open (place_from 0 os (sort.Bus, c)) ∷ []
bus_tokens os j (s ∷ ss) t = token.LeftBracket ∷ token.Leaf j ∷ tail_tokens os (suc j) ss t

abbrev mutual
  -- a term
  pub tokens : List Place → ℕ → Plain → List Token
  tokens os j (ALeaf s) = token.Leaf j ∷ []
  tokens os j (ABus ss t) = bus_tokens os j ss t
  tokens os j (AVar c) = token.Open (place_from 0 os (sort.Term, c)) ∷ []
  tokens os j (AnInt z) = token.Int z ∷ []
  tokens os j (ANode n ps) = token.Name n ∷ argument_tokens os j ps

  -- the arguments of a name, if it has any
  pub argument_tokens : List Place → ℕ → Plains → List Token
  argument_tokens os j Nil = []
  argument_tokens os j (Cons p ps) = token.LeftParen ∷ (tokens os j p ++ rest_tokens os (j + length (plain_leaves p)) ps)

  -- what stands behind the first of them
  pub rest_tokens : List Place → ℕ → Plains → List Token
  rest_tokens os j Nil = token.RightParen ∷ []
  rest_tokens os j (Cons p ps) = token.Comma ∷ (tokens os j p ++ rest_tokens os (j + length (plain_leaves p)) ps)

-- a root; the name of a goal is left out
abbrev pub root_tokens : List Place → ℕ → Root → Plain → List Token
root_tokens os j (root.Term r) p = tokens os j p
root_tokens os j (root.Goal args) (ANode n ps) = argument_tokens os j ps
root_tokens os j (root.Goal args) p = []

-- roots from the i-th on, each behind its number
abbrev pub roots_tokens : List Place → ℕ → ℕ → List Root → Plains → List Token
roots_tokens os j i (r ∷ rs) (Cons p ps) = token.Term i ∷ (root_tokens os j r p ++ roots_tokens os (j + length (plain_leaves p)) (suc i) rs ps)
roots_tokens os j i _ _ = []

-- the roots of an answer, with their open places numbered in order of first appearance
abbrev pub told_tokens : List Root → Plains → List Token
told_tokens rs ps = roots_tokens (firsts [] (all_opens ps)) 0 0 rs ps

abbrev mutual
  -- the places of a term
  pub plain_places : Plain → ℕ
  plain_places (ABus ss t) = length ss + 1
  plain_places (ANode n ps) = 1 + all_places ps
  plain_places _ = 1

  pub all_places : Plains → ℕ
  all_places Nil = 0
  all_places (Cons p ps) = plain_places p + all_places ps

-- what an answer shows of roots that are these terms, within its limits
pub record IsShown (rs : List Root) (ps : Plains) (s : Printed) : Type 0 where
  pub narrow : is_wide (shape_of ps) ≡ false
  pub tokens : s.tokens.items ≡ told_tokens rs ps
  pub slots : s.slots.items ≡ all_leaves ps

-- what it shows, or none past its limits
abbrev pub Shows : List Root → Plains → Option Printed → Type 0
Shows rs ps None = is_wide (shape_of ps) ≡ true
Shows rs ps (Some s) = IsShown rs ps s
