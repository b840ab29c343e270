-- Forms whose variables have other numbers, so that those of two forms are apart.
use Rattle.std.proofs.Common.{◌≡◌, ℕ, zero, suc, ◌+◌, Bool, not, List, [], ◌∷◌, map, refl, sym, ◌∙◌, ap, subst, arith}
use Rattle.std.proofs.Math.Path.{fun_ext}
use Rattle.cb_model.specs.declared.Expr.{Expr}
use Rattle.cb_model.specs.declared.Expr.TheOpen.{Expr-F}
use Rattle.cb_model.specs.declared.Expr.TheVariants as expr
use Rattle.cb_model.specs.declared.Expr.TheViews.{roll-Expr}
use Rattle.cb_model.specs.declared.Expr.TheFolds.{fold-Expr, fold-roll-Expr, ind-Expr, map-Expr}
use Rattle.cb_model.specs.Bits.{Bits, all_of, some_of, odd_of}
use Rattle.cb_model.specs.Values.{expr_step, expr_value}
use Rattle.cb_laws.proofs.Values.{value-zero, value-one, value-const, value-var, value-not, value-and, value-xor, value-or}
use Rattle.cb_laws.proofs.Codes.{Unknown, ABus, ATerm, Truth, Join, Form, Open, Formula, Fixed, Both, Choice, value}

-- ---- other numbers

abbrev renamed_step : (ℕ → ℕ) → Expr-F Expr → Expr
renamed_step k Expr-F.Zero = expr.Zero
renamed_step k Expr-F.One = expr.One
renamed_step k (Expr-F.Const n) = expr.Const n
renamed_step k (Expr-F.Var n) = expr.Var (k n)
renamed_step k (Expr-F.Not x) = expr.Not x
renamed_step k (Expr-F.And xs) = expr.And xs
renamed_step k (Expr-F.Xor xs) = expr.Xor xs
renamed_step k (Expr-F.Or xs) = expr.Or xs

abbrev pub renamed_expr : (ℕ → ℕ) → Expr → Expr
renamed_expr k = fold-Expr Expr (renamed_step k)

module _ (k : ℕ → ℕ) (a b : Bits) where
  abbrev Same : Expr → Type 0
  Same e = expr_value a b (renamed_expr k e) ≡ expr_value a (λ n. b (k n)) e

  abbrev Sure : Type 0
  Sure = (e : Expr) × Same e

  all_same : (ys : List Sure) → map (expr_value a b) (map (renamed_expr k) (map (λ e. e.0) ys)) ≡ map (expr_value a (λ n. b (k n))) (map (λ e. e.0) ys)
  all_same [] = refl
  all_same (y ∷ ys) =
      ap (λ x. x ∷ map (expr_value a b) (map (renamed_expr k) (map (λ e. e.0) ys))) y.1 ∙ ap (λ xs. expr_value a (λ n. b (k n)) y.0 ∷ xs) (all_same ys)

  layer_same : (y : Expr-F Sure) → expr_value a b (renamed_step k (map-Expr Expr Expr (renamed_expr k) (map-Expr Sure Expr (λ e. e.0) y))) ≡
      expr_step a (λ n. b (k n)) (map-Expr Expr Bool (expr_value a (λ n. b (k n))) (map-Expr Sure Expr (λ e. e.0) y))
  layer_same Expr-F.Zero = value-zero a b
  layer_same Expr-F.One = value-one a b
  layer_same (Expr-F.Const n) = value-const a b n
  layer_same (Expr-F.Var n) = value-var a b (k n)
  layer_same (Expr-F.Not x) = value-not a b (renamed_expr k x.0) ∙ ap not x.1
  layer_same (Expr-F.And ys) = value-and a b (map (renamed_expr k) (map (λ e. e.0) ys)) ∙ ap all_of (all_same ys)
  layer_same (Expr-F.Xor ys) = value-xor a b (map (renamed_expr k) (map (λ e. e.0) ys)) ∙ ap odd_of (all_same ys)
  layer_same (Expr-F.Or ys) = value-or a b (map (renamed_expr k) (map (λ e. e.0) ys)) ∙ ap some_of (all_same ys)

  same_roll : (x : Expr-F Expr) (y : Expr-F Sure) → map-Expr Sure Expr (λ e. e.0) y ≡ x → Same (roll-Expr x)
  same_roll x y is =
      let P : Expr-F Expr → Type 0 = λ z. expr_value a b (renamed_step k (map-Expr Expr Expr (renamed_expr k) z)) ≡
      expr_step a (λ n. b (k n)) (map-Expr Expr Bool (expr_value a (λ n. b (k n))) z) in
      ap (expr_value a b) (fold-roll-Expr Expr (renamed_step k) x) ∙ subst P is (layer_same y) ∙ sym (fold-roll-Expr Bool (expr_step a (λ n. b (k n))) x)

  pub renamed_value : (e : Expr) → Same e
  renamed_value = ind-Expr Same same_roll

abbrev pub renamed : (ℕ → ℕ) → Unknown → Unknown
renamed k (ABus n) = ABus (k n)
renamed k (ATerm n) = ATerm (k n)

abbrev pub renamed_form : (ℕ → ℕ) → Form → Form
renamed_form k (Open x) = Open (renamed k x)
renamed_form k (Formula e) = Formula (renamed_expr k e)
renamed_form k (Fixed m) = Fixed m
renamed_form k (Both s t) = Both (renamed_form k s) (renamed_form k t)

pub form_renamed : (k : ℕ → ℕ) (a b : Bits) (c : Choice) (x : Form) → value (expr_value a b) c (renamed_form k x) ≡ value (expr_value a (λ n. b (k n))) (λ u. c (renamed k u)) x
form_renamed k a b c (Open x) = refl
form_renamed k a b c (Formula e) = ap Truth (renamed_value k a b e)
form_renamed k a b c (Fixed m) = refl
form_renamed k a b c (Both s t) =
    ap (λ x. Join x (value (expr_value a b) c (renamed_form k t))) (form_renamed k a b c s)
    ∙ ap (Join (value (expr_value a (λ n. b (k n))) (λ u. c (renamed k u)) s)) (form_renamed k a b c t)

-- ---- even and odd numbers

abbrev pub even : ℕ → ℕ
even n = n + n

abbrev pub odd : ℕ → ℕ
odd n = suc (n + n)

-- the first at even numbers, the second at odd ones
pub mixed : {A : Type 0} → (ℕ → A) → (ℕ → A) → ℕ → A
mixed p q zero = p 0
mixed p q (suc zero) = q 0
mixed p q (suc (suc n)) = mixed (λ k. p (suc k)) (λ k. q (suc k)) n

pub mixed_even : {A : Type 0} (p q : ℕ → A) (n : ℕ) → mixed p q (even n) ≡ p n
unfolding mixed
mixed_even p q zero = refl
mixed_even p q (suc n) = ap (mixed p q) (double n) ∙ mixed_even (λ k. p (suc k)) (λ k. q (suc k)) n
  where
    double : (n : ℕ) → even (suc n) ≡ suc (suc (even n))
    double n = omega arith

pub mixed_odd : {A : Type 0} (p q : ℕ → A) (n : ℕ) → mixed p q (odd n) ≡ q n
unfolding mixed
mixed_odd p q zero = refl
mixed_odd p q (suc n) = ap (mixed p q) (double n) ∙ mixed_odd (λ k. p (suc k)) (λ k. q (suc k)) n
  where
    double : (n : ℕ) → odd (suc n) ≡ suc (suc (odd n))
    double n = omega arith

pub mixed_all : {A : Type 0} (P : A → Type 0) (p q : ℕ → A) → ((n : ℕ) → P (p n)) → ((n : ℕ) → P (q n)) → (n : ℕ) → P (mixed p q n)
unfolding mixed
mixed_all P p q hp hq zero = hp 0
mixed_all P p q hp hq (suc zero) = hq 0
mixed_all P p q hp hq (suc (suc n)) = mixed_all P (λ k. p (suc k)) (λ k. q (suc k)) (λ k. hp (suc k)) (λ k. hq (suc k)) n

-- values for the unknowns with even and with odd numbers
abbrev pub mixed_choice : Choice → Choice → Choice
mixed_choice c d (ABus n) = mixed (λ k. c (ABus k)) (λ k. d (ABus k)) n
mixed_choice c d (ATerm n) = mixed (λ k. c (ATerm k)) (λ k. d (ATerm k)) n

pub choice_even : (c d : Choice) (u : Unknown) → mixed_choice c d (renamed even u) ≡ c u
choice_even c d (ABus n) = mixed_even (λ k. c (ABus k)) (λ k. d (ABus k)) n
choice_even c d (ATerm n) = mixed_even (λ k. c (ATerm k)) (λ k. d (ATerm k)) n

pub choice_odd : (c d : Choice) (u : Unknown) → mixed_choice c d (renamed odd u) ≡ d u
choice_odd c d (ABus n) = mixed_odd (λ k. c (ABus k)) (λ k. d (ABus k)) n
choice_odd c d (ATerm n) = mixed_odd (λ k. c (ATerm k)) (λ k. d (ATerm k)) n

pub even_value : (a p q : Bits) (c d : Choice) (x : Form) → value (expr_value a (mixed p q)) (mixed_choice c d) (renamed_form even x) ≡ value (expr_value a p) c x
even_value a p q c d x =
    form_renamed even a (mixed p q) (mixed_choice c d) x
    ∙ ap (λ (b : Bits). value (expr_value a b) (λ u. mixed_choice c d (renamed even u)) x) (fun_ext (λ n. mixed_even p q n))
    ∙ ap (λ (e : Choice). value (expr_value a p) e x) (fun_ext (λ u. choice_even c d u))

pub odd_value : (a p q : Bits) (c d : Choice) (x : Form) → value (expr_value a (mixed p q)) (mixed_choice c d) (renamed_form odd x) ≡ value (expr_value a q) d x
odd_value a p q c d x =
    form_renamed odd a (mixed p q) (mixed_choice c d) x
    ∙ ap (λ (b : Bits). value (expr_value a b) (λ u. mixed_choice c d (renamed odd u)) x) (fun_ext (λ n. mixed_odd p q n))
    ∙ ap (λ (e : Choice). value (expr_value a q) e x) (fun_ext (λ u. choice_odd c d u))
