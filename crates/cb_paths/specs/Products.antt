-- What the nodes of a diagram give, built up from their children.
use Rattle.std.specs.Prelude.{ℕ, ◌+◌, max, true, false, List, [], ◌∷◌, ◌++◌, map, slice_index_or}
use Rattle.std.specs.List.{fold}
use Rattle.cb_model.specs.Answers.{Product}
use Rattle.cb_dd.specs.declared.Triple.{Triple}

-- the values of the nodes, one after another: a new node has what its level and the values of its `lo` and `hi` give
abbrev pub with_built : {A : Type 0} → A → (ℕ → A → A → A) → List A → Triple → List A
with_built bottom join vs t = vs ++ join t.level (slice_index_or vs t.lo bottom) (slice_index_or vs t.hi bottom) ∷ []

-- the value of node n, where the constants have the first two
unfoldable pub built : {A : Type 0} → A → A → (ℕ → A → A → A) → List Triple → ℕ → A
built bottom top join ts n = slice_index_or (fold (with_built bottom join) (bottom ∷ top ∷ []) ts) n bottom

-- the products of the side where the level is 0, each with its literal in front, then those of the side where it is 1
abbrev pub join_products : ℕ → List Product → List Product → List Product
join_products level lo hi = map (λ p. (level, false) ∷ p) lo ++ map (λ p. (level, true) ∷ p) hi

-- the products of node n in the order of its levels: none for 0, the empty one for 1
abbrev pub products_of : List Triple → ℕ → List Product
products_of ts n = built [] ([] ∷ []) join_products ts n

-- how many literals a product of node n has at most
abbrev pub height_of : List Triple → ℕ → ℕ
height_of ts n = built 0 0 (λ level lo hi. max lo hi + 1) ts n
