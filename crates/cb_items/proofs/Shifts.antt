-- The value of a renamed tree.
use Rattle.std.proofs.Common.{◌≡◌, ℕ, ◌+◌, Bool, not, List, [], ◌∷◌, ◌++◌, map, Option, Some, None, refl, sym, ◌∙◌, ap, subst}
use Rattle.std.specs.Prelude.{option_map}
use Rattle.cb_model.specs.Bits.{Bits, all_of, some_of, odd_of}
use Rattle.cb_model.specs.Values.{Ground, Bit, Word, Int, Name, Grounds, More, grounds, Valuation, tail_of, expr_step, expr_value, tree_step, tree_value}
use Rattle.cb_model.specs.Program.{shift_expr, shift_expr_step, shift_tree, shift_tree_step}
use Rattle.cb_model.specs.declared.Expr.{Expr}
use Rattle.cb_model.specs.declared.Expr.TheOpen.{Expr-F}
use Rattle.cb_model.specs.declared.Expr.TheViews.{roll-Expr}
use Rattle.cb_model.specs.declared.Expr.TheFolds.{fold-roll-Expr, ind-Expr, map-Expr}
use Rattle.cb_model.specs.declared.Tree.{Tree}
use Rattle.cb_model.specs.declared.Tree.TheOpen.{Tree-F}
use Rattle.cb_model.specs.declared.Tree.TheViews.{roll-Tree}
use Rattle.cb_model.specs.declared.Tree.TheFolds.{fold-roll-Tree, ind-Tree, map-Tree}
use Rattle.cb_laws.proofs.Values.{value-zero, value-one, value-const, value-var, value-not, value-and, value-xor, value-or, value-leaf, value-bus, value-term, value-int, value-node}
use Rattle.cb_items.specs.Shifted.{shifted}

module _ (a b : Bits) (k : ℕ) where
  abbrev Same : Expr → Type 0
  Same e = expr_value a b (shift_expr k e) ≡ expr_value a (λ n. b (k + n)) e

  abbrev Sure : Type 0
  Sure = (e : Expr) × Same e

  all_same : (ys : List Sure) → map (expr_value a b) (map (shift_expr k) (map (λ e. e.0) ys)) ≡ map (expr_value a (λ n. b (k + n))) (map (λ e. e.0) ys)
  all_same [] = refl
  all_same (y ∷ ys) = let h = y.1 in let t = all_same ys in λ i. h i ∷ t i

  layer_same : (y : Expr-F Sure) → expr_value a b (shift_expr_step k (map-Expr Expr Expr (shift_expr k) (map-Expr Sure Expr (λ e. e.0) y)))
      ≡ expr_step a (λ n. b (k + n)) (map-Expr Expr Bool (expr_value a (λ n. b (k + n))) (map-Expr Sure Expr (λ e. e.0) y))
  layer_same Expr-F.Zero = value-zero a b
  layer_same Expr-F.One = value-one a b
  layer_same (Expr-F.Const n) = value-const a b n
  layer_same (Expr-F.Var n) = value-var a b (k + n)
  layer_same (Expr-F.Not x) = value-not a b (shift_expr k x.0) ∙ ap not x.1
  layer_same (Expr-F.And ys) = value-and a b (map (shift_expr k) (map (λ e. e.0) ys)) ∙ ap all_of (all_same ys)
  layer_same (Expr-F.Xor ys) = value-xor a b (map (shift_expr k) (map (λ e. e.0) ys)) ∙ ap odd_of (all_same ys)
  layer_same (Expr-F.Or ys) = value-or a b (map (shift_expr k) (map (λ e. e.0) ys)) ∙ ap some_of (all_same ys)

  same_roll : (x : Expr-F Expr) (y : Expr-F Sure) → map-Expr Sure Expr (λ e. e.0) y ≡ x → Same (roll-Expr x)
  same_roll x y is =
      let P : Expr-F Expr → Type 0 = λ z. expr_value a b (shift_expr_step k (map-Expr Expr Expr (shift_expr k) z)) ≡ expr_step a (λ n. b (k + n)) (map-Expr Expr Bool (expr_value a (λ n. b (k + n))) z) in
      ap (expr_value a b) (fold-roll-Expr Expr (shift_expr_step k) x) ∙ subst P is (layer_same y) ∙ sym (fold-roll-Expr Bool (expr_step a (λ n. b (k + n))) x)

  pub shift-same : (e : Expr) → Same e
  shift-same = ind-Expr Same same_roll

module _ (a : Bits) (v : Valuation) (k : ℕ) where
  abbrev SameTree : Tree → Type 0
  SameTree t = tree_value a v (shift_tree k t) ≡ tree_value a (shifted k v) t

  abbrev SureTree : Type 0
  SureTree = (t : Tree) × SameTree t

  exprs-same : (es : List Expr) → map (expr_value a v.bits) (map (shift_expr k) es) ≡ map (expr_value a (λ n. v.bits (k + n))) es
  exprs-same [] = refl
  exprs-same (e ∷ es) = let h = shift-same a v.bits k e in let t = exprs-same es in λ i. h i ∷ t i

  tail-same : (t : Option ℕ) → tail_of v (option_map (λ n. k + n) t) ≡ tail_of (shifted k v) t
  tail-same None = refl
  tail-same (Some n) = refl

  trees-same : (ys : List SureTree) → map (tree_value a v) (map (shift_tree k) (map (λ e. e.0) ys)) ≡ map (tree_value a (shifted k v)) (map (λ e. e.0) ys)
  trees-same [] = refl
  trees-same (y ∷ ys) = let h = y.1 in let t = trees-same ys in λ i. h i ∷ t i

  tree-layer : (y : Tree-F SureTree) → tree_value a v (shift_tree_step k (map-Tree Tree Tree (shift_tree k) (map-Tree SureTree Tree (λ e. e.0) y)))
      ≡ tree_step a (shifted k v) (map-Tree Tree Ground (tree_value a (shifted k v)) (map-Tree SureTree Tree (λ e. e.0) y))
  tree-layer (Tree-F.Leaf e) = value-leaf a v (shift_expr k e) ∙ ap Bit (shift-same a v.bits k e)
  tree-layer (Tree-F.Bus es t) =
      value-bus a v (map (shift_expr k) es) (option_map (λ n. k + n) t) ∙ (let x = exprs-same es in let y = tail-same t in λ i. Word (x i ++ y i))
  tree-layer (Tree-F.Var n) = value-term a v (k + n)
  tree-layer (Tree-F.Int z) = value-int a v z
  tree-layer (Tree-F.Node n ys) = value-node a v n (map (shift_tree k) (map (λ e. e.0) ys)) ∙ ap (λ (gs : List Ground). Name n (grounds gs)) (trees-same ys)

  tree-roll : (x : Tree-F Tree) (y : Tree-F SureTree) → map-Tree SureTree Tree (λ e. e.0) y ≡ x → SameTree (roll-Tree x)
  tree-roll x y is =
      let P : Tree-F Tree → Type 0 = λ z. tree_value a v (shift_tree_step k (map-Tree Tree Tree (shift_tree k) z)) ≡ tree_step a (shifted k v) (map-Tree Tree Ground (tree_value a (shifted k v)) z) in
      ap (tree_value a v) (fold-roll-Tree Tree (shift_tree_step k) x) ∙ subst P is (tree-layer y) ∙ sym (fold-roll-Tree Ground (tree_step a (shifted k v)) x)

  tree-same : (t : Tree) → SameTree t
  tree-same = ind-Tree SameTree tree-roll

pub shifted-value : (a : Bits) (v : Valuation) (k : ℕ) (t : Tree) → tree_value a v (shift_tree k t) ≡ tree_value a (shifted k v) t
shifted-value a v k t = tree-same a v k t
