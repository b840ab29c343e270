-- Every tree has only constants and variables below some number.
use Rattle.std.proofs.Common.{◌≡◌, ℕ, suc, ◌+◌, ◌<◌, ◌≤◌, Bool, true, ◌&&◌, nat_lt, List, [], ◌∷◌, map, refl, sym, ◌∙◌, subst, arith, rules}
use Rattle.std.specs.Prelude.{Option, Some, None, option_to_list}
use Rattle.std.specs.List.{list_all}
use Rattle.std.proofs.lemmas.Bool.{lt-ltb}
use Rattle.cb_model.specs.declared.Expr.{Expr}
use Rattle.cb_model.specs.declared.Expr.TheOpen.{Expr-F}
use Rattle.cb_model.specs.declared.Expr.TheViews.{roll-Expr}
use Rattle.cb_model.specs.declared.Expr.TheFolds.{fold-roll-Expr, ind-Expr, map-Expr}
use Rattle.cb_model.specs.declared.Tree.{Tree}
use Rattle.cb_model.specs.declared.Tree.TheOpen.{Tree-F}
use Rattle.cb_model.specs.declared.Tree.TheViews.{roll-Tree}
use Rattle.cb_model.specs.declared.Tree.TheFolds.{fold-roll-Tree, ind-Tree, map-Tree}
use Rattle.cb_model.specs.Bits.{all_of}
use Rattle.cb_model.specs.Values.{in_scope, in_scope_step, tree_in_scope, tree_in_scope_step}
use Rattle.cb_model.specs.Equations.{Item, Pair, Part, item_in_scope}
use Rattle.cb_laws.proofs.Decided.{and_true, both_true}

less : (k n : ℕ) → nat_lt k n ≡ true → k < n
less k n h = search rules

-- ---- wider bounds

module _ (c v c' v' : ℕ) (p : c ≤ c') (q : v ≤ v') where
  constant_wider : (k : ℕ) → nat_lt k c ≡ true → nat_lt k c' ≡ true
  constant_wider k h = let l = less k c h in lt-ltb k c' (omega (arith, l, p))

  variable_wider : (k : ℕ) → nat_lt k v ≡ true → nat_lt k v' ≡ true
  variable_wider k h = let l = less k v h in lt-ltb k v' (omega (arith, l, q))

  abbrev ExprWider : Expr → Type 0
  ExprWider e = in_scope c v e ≡ true → in_scope c' v' e ≡ true

  abbrev SureExpr : Type 0
  SureExpr = (e : Expr) × ExprWider e

  exprs_wider : (ys : List SureExpr) → all_of (map (in_scope c v) (map (λ e. e.0) ys)) ≡ true → all_of (map (in_scope c' v') (map (λ e. e.0) ys)) ≡ true
  exprs_wider [] h = refl
  exprs_wider (y ∷ ys) h = let e = and_true _ _ h in both_true _ _ (y.1 e.0) (exprs_wider ys e.1)

  expr_layer : (y : Expr-F SureExpr) → in_scope_step c v (map-Expr Expr Bool (in_scope c v) (map-Expr SureExpr Expr (λ e. e.0) y)) ≡ true →
      in_scope_step c' v' (map-Expr Expr Bool (in_scope c' v') (map-Expr SureExpr Expr (λ e. e.0) y)) ≡ true
  expr_layer Expr-F.Zero h = refl
  expr_layer Expr-F.One h = refl
  expr_layer (Expr-F.Const k) h = constant_wider k h
  expr_layer (Expr-F.Var n) h = variable_wider n h
  expr_layer (Expr-F.Not x) h = x.1 h
  expr_layer (Expr-F.And ys) h = exprs_wider ys h
  expr_layer (Expr-F.Xor ys) h = exprs_wider ys h
  expr_layer (Expr-F.Or ys) h = exprs_wider ys h

  expr_roll : (x : Expr-F Expr) (y : Expr-F SureExpr) → map-Expr SureExpr Expr (λ e. e.0) y ≡ x → ExprWider (roll-Expr x)
  expr_roll x y is h =
      let k : in_scope_step c v (map-Expr Expr Bool (in_scope c v) x) ≡ true = sym (fold-roll-Expr Bool (in_scope_step c v) x) ∙ h in
      let P : Expr-F Expr → Type 0 = λ z. in_scope_step c v (map-Expr Expr Bool (in_scope c v) z) ≡ true → in_scope_step c' v' (map-Expr Expr Bool (in_scope c' v') z) ≡ true in
      fold-roll-Expr Bool (in_scope_step c' v') x ∙ subst P is (expr_layer y) k

  pub expr_wider : (e : Expr) → ExprWider e
  expr_wider = ind-Expr ExprWider expr_roll

  elements_wider : (es : List Expr) → list_all (in_scope c v) es ≡ true → list_all (in_scope c' v') es ≡ true
  elements_wider [] h = refl
  elements_wider (e ∷ es) h = let k = and_true _ _ h in both_true _ _ (expr_wider e k.0) (elements_wider es k.1)

  pub variables_wider : (ns : List ℕ) → list_all (λ n. nat_lt n v) ns ≡ true → list_all (λ n. nat_lt n v') ns ≡ true
  variables_wider [] h = refl
  variables_wider (n ∷ ns) h = let k = and_true _ _ h in both_true _ _ (variable_wider n k.0) (variables_wider ns k.1)

  abbrev TreeWider : Tree → Type 0
  TreeWider t = tree_in_scope c v t ≡ true → tree_in_scope c' v' t ≡ true

  abbrev SureTree : Type 0
  SureTree = (t : Tree) × TreeWider t

  trees_wider : (ys : List SureTree) → all_of (map (tree_in_scope c v) (map (λ e. e.0) ys)) ≡ true → all_of (map (tree_in_scope c' v') (map (λ e. e.0) ys)) ≡ true
  trees_wider [] h = refl
  trees_wider (y ∷ ys) h = let e = and_true _ _ h in both_true _ _ (y.1 e.0) (trees_wider ys e.1)

  tree_layer : (y : Tree-F SureTree) → tree_in_scope_step c v (map-Tree Tree Bool (tree_in_scope c v) (map-Tree SureTree Tree (λ e. e.0) y)) ≡ true →
      tree_in_scope_step c' v' (map-Tree Tree Bool (tree_in_scope c' v') (map-Tree SureTree Tree (λ e. e.0) y)) ≡ true
  tree_layer (Tree-F.Leaf e) h = expr_wider e h
  tree_layer (Tree-F.Bus es t) h = let k = and_true _ _ h in both_true _ _ (elements_wider es k.0) (variables_wider (option_to_list t) k.1)
  tree_layer (Tree-F.Var n) h = variable_wider n h
  tree_layer (Tree-F.Int z) h = refl
  tree_layer (Tree-F.Node n ys) h = trees_wider ys h

  tree_roll : (x : Tree-F Tree) (y : Tree-F SureTree) → map-Tree SureTree Tree (λ e. e.0) y ≡ x → TreeWider (roll-Tree x)
  tree_roll x y is h =
      let k : tree_in_scope_step c v (map-Tree Tree Bool (tree_in_scope c v) x) ≡ true = sym (fold-roll-Tree Bool (tree_in_scope_step c v) x) ∙ h in
      let P : Tree-F Tree → Type 0 = λ z. tree_in_scope_step c v (map-Tree Tree Bool (tree_in_scope c v) z) ≡ true → tree_in_scope_step c' v' (map-Tree Tree Bool (tree_in_scope c' v') z) ≡ true in
      fold-roll-Tree Bool (tree_in_scope_step c' v') x ∙ subst P is (tree_layer y) k

  pub tree_wider : (t : Tree) → TreeWider t
  tree_wider = ind-Tree TreeWider tree_roll

  item_wider : (i : Item) → item_in_scope c v i ≡ true → item_in_scope c' v' i ≡ true
  item_wider (Pair l r) h = let k = and_true _ _ h in both_true _ _ (tree_wider l k.0) (tree_wider r k.1)
  item_wider (Part m ins outs own) h =
      let k = and_true _ _ h in
      let j = and_true _ _ k.1 in
      both_true _ _ (tree_wider ins k.0) (both_true _ _ (tree_wider outs j.0) (variables_wider own j.1))

  pub items_wider : (es : List Item) → list_all (item_in_scope c v) es ≡ true → list_all (item_in_scope c' v') es ≡ true
  items_wider [] h = refl
  items_wider (e ∷ es) h = let k = and_true _ _ h in both_true _ _ (item_wider e k.0) (items_wider es k.1)

-- ---- a bound

abbrev ExprBound : Expr → Type 0
ExprBound e = (n : ℕ) × (in_scope n n e ≡ true)

abbrev BoundExpr : Type 0
BoundExpr = (e : Expr) × ExprBound e

exprs_bound : (ys : List BoundExpr) → (n : ℕ) × (all_of (map (in_scope n n) (map (λ e. e.0) ys)) ≡ true)
exprs_bound [] = (0, refl)
exprs_bound (y ∷ ys) =
    let n = y.1.0 in
    let r = exprs_bound ys in
    (n + r.0, both_true _ _ (expr_wider n n (n + r.0) (n + r.0) (omega arith) (omega arith) y.0 y.1.1) (more n r.0 ys r.1))
  where
    more : (n m : ℕ) (ys : List BoundExpr) → all_of (map (in_scope m m) (map (λ e. e.0) ys)) ≡ true → all_of (map (in_scope (n + m) (n + m)) (map (λ e. e.0) ys)) ≡ true
    more n m [] h = refl
    more n m (y ∷ ys) h = let k = and_true _ _ h in both_true _ _ (expr_wider m m (n + m) (n + m) (omega arith) (omega arith) y.0 k.0) (more n m ys k.1)

expr_bound_layer : (y : Expr-F BoundExpr) → (n : ℕ) × (in_scope_step n n (map-Expr Expr Bool (in_scope n n) (map-Expr BoundExpr Expr (λ e. e.0) y)) ≡ true)
expr_bound_layer Expr-F.Zero = (0, refl)
expr_bound_layer Expr-F.One = (0, refl)
expr_bound_layer (Expr-F.Const k) = (suc k, lt-ltb k (suc k) (omega arith))
expr_bound_layer (Expr-F.Var n) = (suc n, lt-ltb n (suc n) (omega arith))
expr_bound_layer (Expr-F.Not x) = x.1
expr_bound_layer (Expr-F.And ys) = exprs_bound ys
expr_bound_layer (Expr-F.Xor ys) = exprs_bound ys
expr_bound_layer (Expr-F.Or ys) = exprs_bound ys

expr_bound_roll : (x : Expr-F Expr) (y : Expr-F BoundExpr) → map-Expr BoundExpr Expr (λ e. e.0) y ≡ x → ExprBound (roll-Expr x)
expr_bound_roll x y is =
    let P : Expr-F Expr → Type 0 = λ z. (n : ℕ) × (in_scope_step n n (map-Expr Expr Bool (in_scope n n) z) ≡ true) in
    let r : P x = subst P is (expr_bound_layer y) in
    (r.0, fold-roll-Expr Bool (in_scope_step r.0 r.0) x ∙ r.1)

pub expr_bound : (e : Expr) → ExprBound e
expr_bound = ind-Expr ExprBound expr_bound_roll

elements_bound : (es : List Expr) → (n : ℕ) × (list_all (in_scope n n) es ≡ true)
elements_bound [] = (0, refl)
elements_bound (e ∷ es) =
    let b = expr_bound e in
    let r = elements_bound es in
    (b.0 + r.0, both_true _ _ (expr_wider b.0 b.0 (b.0 + r.0) (b.0 + r.0) (omega arith) (omega arith) e b.1) (elements_wider r.0 r.0 (b.0 + r.0) (b.0 + r.0) (omega arith) (omega arith) es r.1))

abbrev TreeBound : Tree → Type 0
TreeBound t = (n : ℕ) × (tree_in_scope n n t ≡ true)

abbrev BoundTree : Type 0
BoundTree = (t : Tree) × TreeBound t

bound_trees : (ys : List BoundTree) → (n : ℕ) × (all_of (map (tree_in_scope n n) (map (λ e. e.0) ys)) ≡ true)
bound_trees [] = (0, refl)
bound_trees (y ∷ ys) =
    let n = y.1.0 in
    let r = bound_trees ys in
    (n + r.0, both_true _ _ (tree_wider n n (n + r.0) (n + r.0) (omega arith) (omega arith) y.0 y.1.1) (more n r.0 ys r.1))
  where
    more : (n m : ℕ) (ys : List BoundTree) → all_of (map (tree_in_scope m m) (map (λ e. e.0) ys)) ≡ true → all_of (map (tree_in_scope (n + m) (n + m)) (map (λ e. e.0) ys)) ≡ true
    more n m [] h = refl
    more n m (y ∷ ys) h = let k = and_true _ _ h in both_true _ _ (tree_wider m m (n + m) (n + m) (omega arith) (omega arith) y.0 k.0) (more n m ys k.1)

tail_bound : (es : List Expr) (t : Option ℕ) → (n : ℕ) × ((list_all (in_scope n n) es && list_all (λ k. nat_lt k n) (option_to_list t)) ≡ true)
tail_bound es None = let r = elements_bound es in (r.0, both_true _ _ r.1 refl)
tail_bound es (Some k) =
    let r = elements_bound es in
    (suc k + r.0, both_true _ _ (elements_wider r.0 r.0 (suc k + r.0) (suc k + r.0) (omega arith) (omega arith) es r.1) (both_true _ _ (lt-ltb k (suc k + r.0) (omega arith)) refl))

tree_bound_layer : (y : Tree-F BoundTree) → (n : ℕ) × (tree_in_scope_step n n (map-Tree Tree Bool (tree_in_scope n n) (map-Tree BoundTree Tree (λ e. e.0) y)) ≡ true)
tree_bound_layer (Tree-F.Leaf e) = expr_bound e
tree_bound_layer (Tree-F.Bus es t) = tail_bound es t
tree_bound_layer (Tree-F.Var n) = (suc n, lt-ltb n (suc n) (omega arith))
tree_bound_layer (Tree-F.Int z) = (0, refl)
tree_bound_layer (Tree-F.Node n ys) = bound_trees ys

tree_bound_roll : (x : Tree-F Tree) (y : Tree-F BoundTree) → map-Tree BoundTree Tree (λ e. e.0) y ≡ x → TreeBound (roll-Tree x)
tree_bound_roll x y is =
    let P : Tree-F Tree → Type 0 = λ z. (n : ℕ) × (tree_in_scope_step n n (map-Tree Tree Bool (tree_in_scope n n) z) ≡ true) in
    let r : P x = subst P is (tree_bound_layer y) in
    (r.0, fold-roll-Tree Bool (tree_in_scope_step r.0 r.0) x ∙ r.1)

pub tree_bound : (t : Tree) → TreeBound t
tree_bound = ind-Tree TreeBound tree_bound_roll
