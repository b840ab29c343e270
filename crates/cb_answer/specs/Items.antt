-- What a line tells: the printed variables, and the goals that wait.
use Rattle.std.specs.Prelude.{◌≡◌, ℕ, ◌<◌, Bool, true, false, List, [], ◌∷◌, ◌++◌, map, get_or, codes, Some, slice_get}
use Rattle.cb_model.specs.Bits.{Each}
use Rattle.cb_model.specs.Text.{Text, name_text}
use Rattle.cb_heap.specs.declared.Ref.{Ref}
use Rattle.cb_shape.specs.declared.Root.{Root}
use Rattle.cb_shape.specs.declared.Root.TheVariants as root
use Rattle.cb_answer.specs.declared.Item.{Item}
use Rattle.cb_answer.specs.declared.Item.TheVariants as item

-- The items are the printed variables, each with the cell that was made for it, and behind them these calls, each by the
-- name of its predicate.
abbrev pub AreItems : List ℕ → List Text → List (ℕ × Text) → List (ℕ × List Ref) → List Item → Type 0
AreItems made ns (v ∷ vs) cs (item.Var name cell ∷ xs) = (name.now ≡ v.1) × (slice_get made v.0 ≡ Some cell.0) × AreItems made ns vs cs xs
AreItems made ns [] (c ∷ cs) (item.Waiting name args ∷ xs) = (name.now ≡ get_or ns c.0 []) × (args.now ≡ c.1) × AreItems made ns [] cs xs
AreItems made ns [] [] [] = Unit {0}
AreItems made ns _ _ _ = ⊥

-- an item's cells are there
abbrev pub IsItemThere : ℕ → Item → Type 0
IsItemThere n (item.Var name cell) = cell.0 < n
IsItemThere n (item.Waiting name args) = Each (λ r. r.0 < n) args.now

-- what is shown of an item beside its name
abbrev pub item_root : Item → Root
item_root (item.Var name cell) = root.Term cell
item_root (item.Waiting name args) = root.Goal args

abbrev pub roots_of : List Item → List Root
roots_of items = map item_root items

-- the printed variables; their numbers are not printed
abbrev pub printed_of : List Item → List (ℕ × Text)
printed_of [] = []
printed_of (item.Var name cell ∷ xs) = (0, name.now) ∷ printed_of xs
printed_of (item.Waiting name args ∷ xs) = printed_of xs

-- the names of the goals that wait
abbrev pub waiting_of : List Item → List Text
waiting_of [] = []
waiting_of (item.Var name cell ∷ xs) = waiting_of xs
waiting_of (item.Waiting name args ∷ xs) = name.now ∷ waiting_of xs

-- what stands before the term of an item
abbrev pub item_start : Item → Text
item_start (item.Var name cell) = name.now ++ codes " = "
item_start (item.Waiting name args) = codes "waiting " ++ name_text name.now

-- whether a variable leads
abbrev pub leads : List Item → Bool
leads (item.Var name cell ∷ xs) = true
leads _ = false

-- the same with what stands between; `yes` stands before them all where no variable leads
abbrev pub item_starts : List Item → List Text
item_starts (item.Var name cell ∷ xs) = (name.now ++ codes " = ") ∷ map (λ t. codes ", " ++ t) (map item_start xs)
item_starts xs = map (λ t. codes ", " ++ t) (map item_start xs)

abbrev pub begins : List Item → Text
begins (item.Var name cell ∷ xs) = []
begins _ = codes "yes"
