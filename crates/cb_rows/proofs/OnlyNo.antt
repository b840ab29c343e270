-- `~X = X` with 16777216 nodes: only the line `no` may come, since no branch of the run has a bound above that number.
use Rattle.std.proofs.Common.{◌≡◌, ℕ, zero, suc, ◌+◌, ◌<◌, ◌≤◌, ◌⊎◌, Bool, false, List, [], ◌∷◌, ◌++◌, map, length, refl, sym, ◌∙◌, ap, subst, inl, inr, codes, arith}
use Rattle.std.specs.Prelude.{Some, None, Contains, flat_map}
use Rattle.cb_model.specs.declared.Tree.{Tree}
use Rattle.cb_model.specs.declared.Tree.TheVariants as tree
use Rattle.cb_model.specs.declared.Tree.TheOpen.{Tree-F}
use Rattle.cb_model.specs.declared.Tree.TheFolds.{fold_out-Tree, map-Tree}
use Rattle.cb_model.specs.declared.Tree.TheViews.{out-Tree}
use Rattle.cb_model.specs.Text.{Text}
use Rattle.cb_model.specs.Bits.{Bits}
use Rattle.cb_model.specs.Values.{Ground, Bit, Fits, Valuation, IsValuation, tree_value, tree_step}
use Rattle.cb_model.specs.declared.Sort.TheVariants as sort
use Rattle.cb_model.specs.Equations.{Meets}
use Rattle.cb_model.specs.Derivation.{Branch, Entry, Run, Made, Note, Change, Adds, End, Whole, Moves, Replaces, Goes, here, on, Ends, whole, stops, SoFar, Plain, runs, stopped, stop_of, resolutions_of, notes_of, printed_of, stretch_after, first_branch}
use Rattle.cb_model.specs.Answers.{IsShape, leaves, leaves_step}
use Rattle.cb_model.specs.Room.{BelowRoom, room_with}
use Rattle.cb_model.specs.Output.{QuerySays, all, few, few_adding, AreLines, no_lines, more_lines, end_text, is_stop, TooFew}
use Rattle.cb_laws.proofs.Values.{expr_values, tree_values}
use Rattle.cb_laws.proofs.Tables.{with_bits, zero_fits}
use Rattle.cb_model.specs.Commands.{Only}
use Rattle.cb_rows.specs.RoomRow.{X, p, q, names, dropped}
use Rattle.cb_rows.proofs.RoomRow.{no_solution, dropped_allows_none, first_bound}

-- ---- each shape of the first branch has one leaf

abbrev zeros : Bits
zeros n = false

-- a value that is a bit comes from a leaf
one_at : (o : Valuation) (x : Bool) (t : Tree-F Tree) → IsValuation p.world o → Bit x ≡ tree_step zeros o (map-Tree Tree Ground (tree_value zeros o) t) →
    length (leaves_step (map-Tree Tree (List ℕ) leaves t)) ≡ 1
one_at o x (Tree-F.Leaf e) io h = refl
one_at o x (Tree-F.Bus es t) io h = absurd (cc)
one_at o x (Tree-F.Var n) io h = absurd (subst (Fits p.world.arguments sort.Term) (sym h) (io n))
one_at o x (Tree-F.Int z) io h = absurd (cc)
one_at o x (Tree-F.Node n ts) io h = absurd (cc)

one_in : (o : Valuation) (x : Bool) (t : Tree) → IsValuation p.world o → Bit x ≡ tree_value zeros o t → length (leaves t) ≡ 1
one_in o x t io h =
    ap length (fold_out-Tree (List ℕ) leaves_step t) ∙ one_at o x (out-Tree t) io (h ∙ fold_out-Tree Ground (tree_step zeros o) t)

abbrev head_or : Ground → List Ground → Ground
head_or g [] = g
head_or g (h ∷ hs) = h

more_leaves : (xs : List ℕ) → length (xs ++ []) ≡ length xs
more_leaves [] = refl
more_leaves (x ∷ xs) = ap suc (more_leaves xs)

one_of : (o : Valuation) (x : Bool) (shape : List Tree) → IsValuation p.world o → Bit x ∷ [] ≡ map (tree_value zeros o) shape → length (flat_map leaves shape) ≡ 1
one_of o x [] io h = absurd (cc)
one_of o x (t ∷ []) io h = more_leaves (leaves t) ∙ one_in o x t io (ap (head_or (Bit x)) h)
one_of o x (t ∷ u ∷ ts) io h = absurd (cc)

meets : Meets p.world [] zeros (with_bits zeros)
meets = record { admitted = tt; sorted = λ n. zero_fits; sat = tt }

one_leaf : (shape : List Tree) → IsShape p.world [] (tree.Leaf X ∷ []) shape → length (flat_map leaves shape) ≡ 1
one_leaf shape s =
    let c = s.covers zeros (with_bits zeros) meets in
    one_of c.0 false shape c.1.0 (sym (simp (tree_values, expr_values) refl) ∙ c.1.1)

first_allows_none : BelowRoom p names (first_branch q) 16777216 → ⊥
first_allows_none (inl h) = let k : 16777216 < 102400 = subst (λ n. 16777216 < n) (simp Rattle.cb_laws.proofs.Shapes.size_values refl) h in absurd (omega arith)
first_allows_none (inr h) =
    let e : room_with p (first_branch q) (length (flat_map leaves h.1.0)) ≡ 1179648 = ap (room_with p (first_branch q)) (one_leaf h.1.0 h.1.1.0) ∙ first_bound in
    let k : 16777216 < 1179648 = subst (λ n. 16777216 < n) e h.1.1.1 in
    absurd (omega arith)

-- ---- the run has two branches

abbrev Stands : ℕ → ℕ → List Note → List Entry → Type 0
Stands used u rest s = ((rest ≡ []) × (s ≡ Run (first_branch q) ∷ []) × (u ≡ used)) ⊎ ((rest ≡ Made dropped ∷ []) × (s ≡ []))

at_end : (s t : List Entry) (used u : ℕ) (ns : List Note) → s ≡ [] → Goes p 10 used s ns u t → (ns ≡ []) × (t ≡ [])
at_end s t used u ns e here = (refl, e)
at_end (x ∷ s) t used u ns e (on c es rest m f r i g) = absurd (cc)

top_is : (x : Entry) (s : List Entry) → x ∷ s ≡ Run (first_branch q) ∷ [] → (x ≡ Run (first_branch q)) × (s ≡ [])
top_is x s e = (ap top e, ap below e)
  where
    top : List Entry → Entry
    top [] = x
    top (y ∷ ys) = y

    below : List Entry → List Entry
    below [] = []
    below (y ∷ ys) = ys

moves_so : (x : Entry) (c : Change) → x ≡ Run (first_branch q) → Moves p x c → c ≡ Adds 0 [] dropped
moves_so x c e m = subst (λ x. Moves p x c) e m

from_first : (s t : List Entry) (used u : ℕ) (ns : List Note) → s ≡ Run (first_branch q) ∷ [] → Goes p 10 used s ns u t → Stands used u ns t
from_first s t used u ns e here = inl (refl, e, refl)
from_first (x ∷ s) t used u ns e (on c es rest m f r i g) = go (subst (λ c. Replaces p c es) same r)
  where
    same : c ≡ Adds 0 [] dropped
    same = moves_so x c (top_is x s e).0 m

    go : Replaces p (Adds 0 [] dropped) es → Stands used u ns t
    go (inl h) = absurd (no_solution h.0)
    go (inr h) =
        let k = at_end (es ++ s) t (used + resolutions_of c) u rest (rw (h.1, (top_is x s e).1) refl) g in
        inr (i ∙ ap (λ c. notes_of c ++ rest) same ∙ ap (λ r. Made dropped ∷ r) k.0, k.1)

abbrev StandsAt : ℕ → List Note → List Entry → Type 0
StandsAt u ns t =
    ((ns ≡ Made (first_branch q) ∷ []) × (t ≡ Run (first_branch q) ∷ []) × (u ≡ 0)) ⊎ ((ns ≡ Made (first_branch q) ∷ Made dropped ∷ []) × (t ≡ []))

so_far : (ns : List Note) (u : ℕ) (t : List Entry) → SoFar p q 10 ns u t → StandsAt u ns t
so_far ns u t s = go (from_first (Run (first_branch q) ∷ []) t 0 u s.rest refl s.goes)
  where
    go : Stands 0 u s.rest t → StandsAt u ns t
    go (inl h) = inl (s.is ∙ ap (λ r. Made (first_branch q) ∷ r) h.0, h.1, h.2)
    go (inr h) = inr (s.is ∙ ap (λ r. Made (first_branch q) ∷ r) h.0, h.1)

-- ---- what it may print

abbrev Few : List Branch → Type 0
Few bs = TooFew p names (Only 16777216) bs

not_first : Few (first_branch q ∷ []) → ⊥
not_first t = one t.one
  where
    one : Contains (first_branch q ∷ []) t.b → ⊥
    one (zero, l, h) = first_allows_none (subst (λ b. BelowRoom p names b 16777216) (sym h) t.too_few)
    one (suc j, l, h) = absurd (omega arith)

not_both : Few (first_branch q ∷ dropped ∷ []) → ⊥
not_both t = one t.one
  where
    one : Contains (first_branch q ∷ dropped ∷ []) t.b → ⊥
    one (zero, l, h) = first_allows_none (subst (λ b. BelowRoom p names b 16777216) (sym h) t.too_few)
    one (suc zero, l, h) = dropped_allows_none (subst (λ b. BelowRoom p names b 16777216) (sym h) t.too_few)
    one (suc (suc j), l, h) = absurd (omega arith)

no_stretch : (u : ℕ) (ns : List Note) (t : List Entry) (k : ℕ) → StandsAt u ns t → k ≤ length (printed_of ns) → Few (stretch_after k ns) → ⊥
no_stretch u ns t zero (inl h) l f = not_first (subst (λ n. Few (stretch_after 0 n)) h.0 f)
no_stretch u ns t zero (inr h) l f = not_both (subst (λ n. Few (stretch_after 0 n)) h.0 f)
no_stretch u ns t (suc k) (inl h) l f = let e : suc k ≤ 0 = subst (λ n. suc k ≤ length (printed_of n)) h.0 l in absurd (omega arith)
no_stretch u ns t (suc k) (inr h) l f = let e : suc k ≤ 0 = subst (λ n. suc k ≤ length (printed_of n)) h.0 l in absurd (omega arith)

no_more : (u : ℕ) (e : Entry) (s : List Entry) (ns : List Note) (r : ℕ) (below : List Entry) (b : Branch) → StandsAt u ns (e ∷ s) → Moves p e (Adds r below b) →
    BelowRoom p names b 16777216 → ⊥
no_more u e s ns r below b (inl h) m f =
    let same : Adds r below b ≡ Adds 0 [] dropped = moves_so e (Adds r below b) (top_is e s h.1).0 m in
    dropped_allows_none (subst (λ b. BelowRoom p names b 16777216) (ap added same) f)
  where
    added : Change → Branch
    added (Adds r below b) = b
    added _ = dropped
no_more u e s ns r below b (inr h) m f = absurd (cc)

no_end : (s : List Entry) (u : ℕ) (end : End) → s ≡ Run (first_branch q) ∷ [] → u ≡ 0 → Ends p 10 u s end → ⊥
no_end s u end e z whole = absurd (cc)
no_end (x ∷ s) u end e z (stops {w = w} c m f) =
    let h : None ≡ Some w = subst (λ k. stop_of p 10 k (Adds 0 [] dropped) ≡ Some w) z (subst (λ c. stop_of p 10 u c ≡ Some w) (moves_so x c (top_is x s e).0 m) f) in
    cc

whole_end : (s : List Entry) (u : ℕ) (end : End) → s ≡ [] → Ends p 10 u s end → end ≡ Whole
whole_end s u end e whole = refl
whole_end (x ∷ s) u end e (stops c m f) = absurd (cc)

no_line : (bs : List Branch) (xs : List Text) → bs ≡ [] → AreLines p names bs xs → xs ≡ []
no_line bs xs e no_lines = refl
no_line (b ∷ bs) xs e (more_lines l r) = absurd (cc)

abbrev OnlyNo : List Text → Bool → Type 0
OnlyNo lines stop = (lines ≡ codes "no" ∷ []) × (stop ≡ false)

by_plain : (ns : List Note) (end : End) (xs lines : List Text) (stop : Bool) → Plain p q 10 ns end → AreLines p names (printed_of ns) xs →
    lines ≡ xs ++ end_text end xs ∷ [] → stop ≡ is_stop end → OnlyNo lines stop
by_plain ns end xs lines stop (stopped w e) ls l s = absurd (cc)
by_plain ns end xs lines stop (runs u t so ends) ls l s = go (so_far ns u t so)
  where
    go : StandsAt u ns t → OnlyNo lines stop
    go (inl h) = absurd (no_end t u end h.1 h.2 ends)
    go (inr h) =
        let e : end ≡ Whole = whole_end t u end h.1 ends in
        let n : xs ≡ [] = no_line (printed_of ns) xs (ap printed_of h.0) ls in
        (l ∙ ap (λ ys. ys ++ end_text end ys ∷ []) n ∙ ap (λ y. end_text y [] ∷ []) e, s ∙ ap is_stop e)

pub only_no : (lines : List Text) (stop : Bool) → QuerySays p q names 10 (Only 16777216) lines stop → OnlyNo lines stop
only_no lines stop (all ns end xs pl ls l s) = by_plain ns end xs lines stop pl ls l s
only_no lines _ (few ns u t k xs so le ls f l) = absurd (no_stretch u ns t k (so_far ns u t so) le f)
only_no lines _ (few_adding ns u e s r below b xs so m st ls f l) = absurd (no_more u e s ns r below b (so_far ns u (e ∷ s) so) m f)
