-- The value of an expression depends only on the constants and Boolean variables that it may read.
use Rattle.std.proofs.Common.{◌≡◌, ℕ, ◌<◌, Bool, true, not, nat_lt, List, [], ◌∷◌, map, refl, sym, ◌∙◌, ap, subst, rules}
use Rattle.std.proofs.lemmas.Bool.{and_parts}
use Rattle.cb_model.specs.declared.Sort.{Sort}
use Rattle.cb_model.specs.declared.Sort.TheVariants as sort
use Rattle.cb_model.specs.Bits.{Bits, AgreeBelow, all_of, some_of, odd_of}
use Rattle.cb_model.specs.Sorted.{are_boolean, are_boolean_step, variable_has}
use Rattle.cb_model.specs.Values.{expr_step, expr_value, in_scope_step, in_scope}
use Rattle.cb_model.specs.declared.Expr.{Expr}
use Rattle.cb_model.specs.declared.Expr.TheOpen.{Expr-F}
use Rattle.cb_model.specs.declared.Expr.TheVariants as expr
use Rattle.cb_model.specs.declared.Expr.TheViews.{roll-Expr}
use Rattle.cb_model.specs.declared.Expr.TheFolds.{fold-roll-Expr, ind-Expr, map-Expr}

module _ (c v : ℕ) (zs : List Sort) (a a' b b' : Bits) (p : AgreeBelow c a a') (q : (n : ℕ) → n < v → variable_has zs sort.Bool n ≡ true → b n ≡ b' n) where
  abbrev Same : Expr → Type 0
  Same e = in_scope c v e ≡ true → are_boolean zs e ≡ true → expr_value a b e ≡ expr_value a' b' e

  abbrev Sure : Type 0
  Sure = (e : Expr) × Same e

  below : (k n : ℕ) → nat_lt k n ≡ true → k < n
  below k n h = search rules

  all_same : (ys : List Sure) → all_of (map (in_scope c v) (map (λ e. e.0) ys)) ≡ true → all_of (map (are_boolean zs) (map (λ e. e.0) ys)) ≡ true →
      map (expr_value a b) (map (λ e. e.0) ys) ≡ map (expr_value a' b') (map (λ e. e.0) ys)
  all_same [] h k = refl
  all_same (y ∷ ys) h k =
      let i = and_parts (in_scope c v y.0) (all_of (map (in_scope c v) (map (λ e. e.0) ys))) h in
      let j = and_parts (are_boolean zs y.0) (all_of (map (are_boolean zs) (map (λ e. e.0) ys))) k in
      let here : expr_value a b y.0 ≡ expr_value a' b' y.0 = y.1 i.0 j.0 in
      let rest : map (expr_value a b) (map (λ e. e.0) ys) ≡ map (expr_value a' b') (map (λ e. e.0) ys) = all_same ys i.1 j.1 in
      rw (here, rest)

  layer_same : (y : Expr-F Sure) → in_scope_step c v (map-Expr Expr Bool (in_scope c v) (map-Expr Sure Expr (λ e. e.0) y)) ≡ true →
      are_boolean_step zs (map-Expr Expr Bool (are_boolean zs) (map-Expr Sure Expr (λ e. e.0) y)) ≡ true →
      expr_step a b (map-Expr Expr Bool (expr_value a b) (map-Expr Sure Expr (λ e. e.0) y)) ≡ expr_step a' b' (map-Expr Expr Bool (expr_value a' b') (map-Expr Sure Expr (λ e. e.0) y))
  layer_same Expr-F.Zero h k = refl
  layer_same Expr-F.One h k = refl
  layer_same (Expr-F.Const n) h k = p n (below n c h)
  layer_same (Expr-F.Var n) h k = q n (below n v h) k
  layer_same (Expr-F.Not x) h k = ap not (x.1 h k)
  layer_same (Expr-F.And ys) h k = ap all_of (all_same ys h k)
  layer_same (Expr-F.Xor ys) h k = ap odd_of (all_same ys h k)
  layer_same (Expr-F.Or ys) h k = ap some_of (all_same ys h k)

  same_roll : (x : Expr-F Expr) (y : Expr-F Sure) → map-Expr Sure Expr (λ e. e.0) y ≡ x → Same (roll-Expr x)
  same_roll x y is h k =
      let i : in_scope_step c v (map-Expr Expr Bool (in_scope c v) x) ≡ true = sym (fold-roll-Expr Bool (in_scope_step c v) x) ∙ h in
      let j : are_boolean_step zs (map-Expr Expr Bool (are_boolean zs) x) ≡ true = sym (fold-roll-Expr Bool (are_boolean_step zs) x) ∙ k in
      let P : Expr-F Expr → Type 0 = λ z. in_scope_step c v (map-Expr Expr Bool (in_scope c v) z) ≡ true → are_boolean_step zs (map-Expr Expr Bool (are_boolean zs) z) ≡ true →
      expr_step a b (map-Expr Expr Bool (expr_value a b) z) ≡ expr_step a' b' (map-Expr Expr Bool (expr_value a' b') z) in
      fold-roll-Expr Bool (expr_step a b) x ∙ subst P is (layer_same y) i j ∙ sym (fold-roll-Expr Bool (expr_step a' b') x)

  pub reads-same : (e : Expr) → Same e
  reads-same = ind-Expr Same same_roll

pub boolean-var : (zs : List Sort) (n : ℕ) → are_boolean zs (expr.Var n) ≡ variable_has zs sort.Bool n
boolean-var zs n = ap (are_boolean zs) (sym (expr.rolls-Var n)) ∙ fold-roll-Expr Bool (are_boolean_step zs) (Expr-F.Var n)
