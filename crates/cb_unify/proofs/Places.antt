-- A tree has no more Boolean places than operators and leaves, where its chains have operands.
use Rattle.std.proofs.Common.{◌≡◌, ℕ, ◌+◌, ◌-◌, ◌≤◌, Bool, true, ◌&&◌, List, [], ◌∷◌, length, map, sym, subst, ◌∙◌, arith}
use Rattle.std.specs.Prelude.{sum, sum_by}
use Rattle.std.specs.List.{list_all}
use Rattle.std.proofs.lemmas.Bool.{and_parts, true≢false}
use Rattle.std.proofs.lemmas.List.Sums.{sum-map, sum_by-cons}
use Rattle.cb_model.specs.declared.Expr.{Expr}
use Rattle.cb_model.specs.declared.Expr.TheOpen.{Expr-F}
use Rattle.cb_model.specs.declared.Expr.TheViews.{roll-Expr}
use Rattle.cb_model.specs.declared.Expr.TheFolds.{fold-roll-Expr, ind-Expr, map-Expr}
use Rattle.cb_model.specs.declared.Tree.{Tree}
use Rattle.cb_model.specs.declared.Tree.TheOpen.{Tree-F}
use Rattle.cb_model.specs.declared.Tree.TheViews.{roll-Tree}
use Rattle.cb_model.specs.declared.Tree.TheFolds.{fold-roll-Tree, ind-Tree, map-Tree}
use Rattle.cb_model.specs.Bits.{all_of}
use Rattle.cb_model.specs.Room.{expr_size, expr_size_step, tree_size, tree_size_step}
use Rattle.cb_model.specs.Sorted.{chains_fit, chains_fit_step, has_operand, operands_fit, operands_fit_step}
use Rattle.cb_unify.specs.Trees.{bit_places, bit_places_step}

-- ---- an expression counts one at least

abbrev CountsOne : Expr → Type 0
CountsOne e = chains_fit e ≡ true → 1 ≤ expr_size e

abbrev Counted : Type 0
Counted = (e : Expr) × CountsOne e

abbrev exprs : List Counted → List Expr
exprs ys = map (λ e. e.0) ys

chain-counts : (ys : List Counted) → (has_operand (map chains_fit (exprs ys)) && all_of (map chains_fit (exprs ys))) ≡ true → 1 ≤ sum (map expr_size (exprs ys)) + (length (map expr_size (exprs ys)) - 1)
chain-counts [] h = absurd (true≢false (sym h))
chain-counts (y ∷ ys) h =
    let fits = and_parts (chains_fit y.0) (all_of (map chains_fit (exprs ys))) (and_parts true (all_of (map chains_fit (exprs (y ∷ ys)))) h).1 in
    let a : 1 ≤ expr_size y.0 = y.1 fits.0 in
    let b : sum (map expr_size (exprs (y ∷ ys))) ≡ expr_size y.0 + sum_by expr_size (exprs ys) = sum-map expr_size (exprs (y ∷ ys)) ∙ sum_by-cons expr_size y.0 (exprs ys) in
    omega (arith, a, b)

expr-layer : (y : Expr-F Counted) → chains_fit_step (map-Expr Expr Bool chains_fit (map-Expr Counted Expr (λ e. e.0) y)) ≡ true → 1 ≤ expr_size_step (map-Expr Expr ℕ expr_size (map-Expr Counted Expr (λ e. e.0) y))
expr-layer Expr-F.Zero h = omega arith
expr-layer Expr-F.One h = omega arith
expr-layer (Expr-F.Const k) h = omega arith
expr-layer (Expr-F.Var n) h = omega arith
expr-layer (Expr-F.Not x) h = omega arith
expr-layer (Expr-F.And ys) h = chain-counts ys h
expr-layer (Expr-F.Xor ys) h = chain-counts ys h
expr-layer (Expr-F.Or ys) h = chain-counts ys h

expr-roll : (x : Expr-F Expr) (y : Expr-F Counted) → map-Expr Counted Expr (λ e. e.0) y ≡ x → CountsOne (roll-Expr x)
expr-roll x y is h =
    let P : Expr-F Expr → Type 0 = λ z. chains_fit_step (map-Expr Expr Bool chains_fit z) ≡ true → 1 ≤ expr_size_step (map-Expr Expr ℕ expr_size z) in
    let a : 1 ≤ expr_size_step (map-Expr Expr ℕ expr_size x) = (subst P is (expr-layer y)) (sym (fold-roll-Expr Bool chains_fit_step x) ∙ h) in
    subst (λ n. 1 ≤ n) (sym (fold-roll-Expr ℕ expr_size_step x)) a

counts-one : (e : Expr) → CountsOne e
counts-one = ind-Expr CountsOne expr-roll

count-all : (es : List Expr) → list_all chains_fit es ≡ true → length es ≤ sum_by expr_size es
count-all [] h = omega arith
count-all (e ∷ es) h =
    let fits = and_parts (chains_fit e) (list_all chains_fit es) h in
    let a = counts-one e fits.0 in
    let b = count-all es fits.1 in
    let c = sum_by-cons expr_size e es in
    omega (arith, a, b, c)

-- ---- and so does each Boolean place of a tree

abbrev HasFew : Tree → Type 0
HasFew x = operands_fit x ≡ true → bit_places x ≤ tree_size x

abbrev Few : Type 0
Few = (x : Tree) × HasFew x

abbrev trees : List Few → List Tree
trees ys = map (λ x. x.0) ys

all-few : (ys : List Few) → all_of (map operands_fit (trees ys)) ≡ true → sum_by bit_places (trees ys) ≤ sum_by tree_size (trees ys)
all-few [] h = omega arith
all-few (y ∷ ys) h =
    let fits = and_parts (operands_fit y.0) (all_of (map operands_fit (trees ys))) h in
    let a = y.1 fits.0 in
    let b = all-few ys fits.1 in
    let c = sum_by-cons bit_places y.0 (trees ys) in
    let d = sum_by-cons tree_size y.0 (trees ys) in
    omega (arith, a, b, c, d)

tree-layer : (y : Tree-F Few) → operands_fit_step (map-Tree Tree Bool operands_fit (map-Tree Few Tree (λ x. x.0) y)) ≡ true →
    bit_places_step (map-Tree Tree ℕ bit_places (map-Tree Few Tree (λ x. x.0) y)) ≤ tree_size_step (map-Tree Tree ℕ tree_size (map-Tree Few Tree (λ x. x.0) y))
tree-layer (Tree-F.Leaf e) h = counts-one e h
tree-layer (Tree-F.Bus es t) h = let a = count-all es h in omega (arith, a)
tree-layer (Tree-F.Var n) h = omega arith
tree-layer (Tree-F.Int z) h = omega arith
tree-layer (Tree-F.Node n []) h = omega arith
tree-layer (Tree-F.Node n (y ∷ ys)) h =
    let a = all-few (y ∷ ys) h in
    let b = sum-map bit_places (trees (y ∷ ys)) in
    let c = sum-map tree_size (trees (y ∷ ys)) in
    omega (arith, a, b, c)

tree-roll : (x : Tree-F Tree) (y : Tree-F Few) → map-Tree Few Tree (λ x. x.0) y ≡ x → HasFew (roll-Tree x)
tree-roll x y is h =
    let P : Tree-F Tree → Type 0 = λ z. operands_fit_step (map-Tree Tree Bool operands_fit z) ≡ true → bit_places_step (map-Tree Tree ℕ bit_places z) ≤ tree_size_step (map-Tree Tree ℕ tree_size z) in
    let a : bit_places_step (map-Tree Tree ℕ bit_places x) ≤ tree_size_step (map-Tree Tree ℕ tree_size x) = (subst P is (tree-layer y)) (sym (fold-roll-Tree Bool operands_fit_step x) ∙ h) in
    let b = fold-roll-Tree ℕ bit_places_step x in
    let c = fold-roll-Tree ℕ tree_size_step x in
    omega (arith, a, b, c)

pub places-few : (x : Tree) → operands_fit x ≡ true → bit_places x ≤ tree_size x
places-few = ind-Tree HasFew tree-roll
