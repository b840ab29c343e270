-- The answer line of `X * a = a`.
use Rattle.std.proofs.Common.{◌≡◌, Bool, true, false, not, ◌&&◌, ◌||◌, List, [], ◌∷◌, refl, sym, ◌∙◌, ap, inl, inr, codes, pos}
use Rattle.std.specs.Fmt.{digits}
use Rattle.cb_model.specs.declared.Expr.TheVariants as expr
use Rattle.cb_model.specs.Bits.{Bits}
use Rattle.cb_model.specs.Values.{Ground, Bit, Int, Valuation, expr_value}
use Rattle.cb_model.specs.Equations.{Sat, Solvable}
use Rattle.cb_model.specs.Answers.{IsShape, Gives, Picks, with_opens}
use Rattle.cb_model.specs.Line.{IsLine, told}
use Rattle.cb_laws.proofs.Values.{expr_values, tree_values, value-leaf}
use Rattle.cb_laws.proofs.Tables.{bits_equal, zero_fits}
use Rattle.cb_laws.proofs.Shapes.{shape_values, text_values}
use Rattle.cb_rows.specs.ParameterRow.{world, x, a, es, at_bits, terms, program, branch, names}

pub sat_at : Sat es (λ _. true) (at_bits (λ _. true))
sat_at = (simp (expr_values, tree_values) refl, tt)

-- what the equation says of the bits
holds : (c : Bits) (b : Valuation) → Sat es c b → (b.bits 0 && (c 0 && true)) ≡ c 0
holds c b s =
    let e : Bit (expr_value c b.bits (expr.And (x ∷ a ∷ []))) ≡ Bit (expr_value c b.bits a) = sym (value-leaf c b (expr.And (x ∷ a ∷ []))) ∙ s.0 ∙ value-leaf c b a in
    let f : expr_value c b.bits (expr.And (x ∷ a ∷ [])) ≡ expr_value c b.bits a = bits_equal _ _ e in
    simp expr_values at f

satisfies : (c : Bits) (b : Valuation) → (b.bits 0 && (c 0 && true)) ≡ c 0 → Sat es c b
satisfies c b e = (simp (expr_values, tree_values) (ap Bit e), tt)

solvable : Solvable world es
solvable c ok = record { b = at_bits (λ _. true); sorted = λ n. zero_fits; sat = satisfies c (at_bits (λ _. true)) (go (c 0)) }
  where
    go : (v : Bool) → (true && (v && true)) ≡ v
    go true = refl
    go false = refl

abbrev first : List Ground → Ground
first [] = Int (pos 0)
first (g ∷ gs) = g

-- the shape is one leaf
is_shape : IsShape world es terms terms
is_shape = record {
  only_leaves = simp shape_values refl;
  leaf_order = simp shape_values refl;
  open_order = simp shape_values tt;
  covers = λ c b m. (b, (m.sorted, refl));
  free = λ c b o o' m e sorted.
      let bits : b.bits 0 ≡ o.bits 0 = bits_equal _ _ (simp (tree_values, expr_values) at (ap first e)) in
      (with_opens b o', (record { admitted = m.admitted; sorted = sorted; sat = satisfies c (with_opens b o') (holds c b m.sat) }, simp (tree_values, expr_values) (ap (λ v. Bit v ∷ []) bits)));
}

-- the bit of X: any bit where a is 0, and 1 where a is 1
abbrev gen : Bits → Bool
gen env = (not (env 0) && env 1) || env 0

-- where the bit y meets the equation, it is given
given : (c : Bits) (y : Bool) → (y && (c 0 && true)) ≡ c 0 → Gives world es terms terms c (y ∷ [])
given c y e =
    let b = at_bits (λ _. y) in
    record { b = b; o = b; meets = record { admitted = tt; sorted = λ n. zero_fits; sat = satisfies c b e }; fills = refl; bits_are = (refl, tt) }

-- a bit that is given meets the equation
given_meets : (c : Bits) (y : Bool) → Gives world es terms terms c (y ∷ []) → (y && (c 0 && true)) ≡ c 0
given_meets c y g =
    let same : g.b.bits 0 ≡ g.o.bits 0 = bits_equal _ _ (simp (tree_values, expr_values) at (ap first g.fills)) in
    rw (g.bits_are.0, ← same) (holds c g.b g.meets.sat)

picks : (c : Bits) (y : Bool) (v : Bool) → c 0 ≡ v → Picks (Gives world es terms terms c) [] y ((not v && y) || v)
picks c true true e = inl (given c true (rw e), refl)
picks c true false e = inl (given c true (rw e), refl)
picks c false false e = inl (given c false (rw e), refl)
picks c false true e = inr ((λ g. let h = rw e at (given_meets c false g) in cc), refl)

pub line : IsLine program names branch (codes "X = ~a*_1 + a")
unfolding digits
line = told terms (gen ∷ []) is_shape (simp (shape_values, text_values) refl) (λ env. (picks env (env 1) (env 0) refl, tt)) (simp shape_values refl)
    (simp (shape_values, text_values) refl)
