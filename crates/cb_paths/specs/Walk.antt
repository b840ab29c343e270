-- How the products of a node are gone through.
use Rattle.std.specs.Prelude.{◌≡◌, ℕ, suc, ◌+◌, ◌≤◌, true, List, [], ◌∷◌, ◌++◌, map, length}
use Rattle.cb_model.specs.Answers.{Product}
use Rattle.cb_dd.specs.declared.Triple.{Triple}
use Rattle.cb_dd.specs.declared.Node.{Node}
use Rattle.cb_dd.specs.Diagram.{IsNode}
use Rattle.cb_paths.specs.Products.{products_of, height_of}

-- the product that was given last, and the products that come after it
pub record Walk : Type 0 where
  pub product : Product
  pub to_come : List Product

-- the products after those that begin with all these literals: the nodes are what is left to do at each literal's other side
abbrev pub after : List Triple → Product → List Node → List Product
after ts [] others = []
after ts (l ∷ ls) [] = []
after ts (l ∷ ls) (n ∷ ns) = map (λ p. l ∷ p) (after ts ls ns) ++ map (λ p. (l.0, true) ∷ p) (products_of ts n.0)

-- the products that begin with the literals and go on below the node, and those after them
abbrev pub to_come : List Triple → Product → List Node → ℕ → List Product
to_come ts literals others n = map (λ p. literals ++ p) (products_of ts n) ++ after ts literals others

-- each node, at its place, has no more literals than there is room
abbrev pub AllFit : List Triple → ℕ → ℕ → List Node → Type 0
AllFit ts room k [] = Unit {0}
AllFit ts room k (n ∷ ns) = (IsNode ts n.0 × (k + 1 + height_of ts n.0 ≤ room)) × AllFit ts room (suc k) ns

-- what is left to do fits into the room
pub record IsWalk (ts : List Triple) (room : ℕ) (literals : Product) (others : List Node) (n : ℕ) : Type 0 where
  pub as_many : length literals ≡ length others
  pub node : IsNode ts n
  pub fits : length literals + height_of ts n ≤ room
  pub others_fit : AllFit ts room 0 others
