-- The products of a node are those of its function in the order of the levels.
use Rattle.std.proofs.Common.{◌≡◌, ℕ, zero, suc, ◌+◌, ◌<◌, ◌≤◌, ◌^◌, max, Bool, true, false, ◌||◌, List, [], ◌∷◌, ◌++◌, map, length, nat_eq, Some, if◌then◌else◌, refl, sym, ap, subst, ◌∙◌, inl, inr, arith, slice_get, append-nil}
use Rattle.std.proofs.lemmas.Bool.{cases_Bool, cases_eq, ne_eqb, true≢false}
use Rattle.std.specs.List.{list_any}
use Rattle.cb_model.specs.Bits.{Bits, put, xor}
use Rattle.cb_model.specs.Answers.{Product, depends, paths}
use Rattle.cb_dd.specs.declared.Triple.{Triple}
use Rattle.cb_dd.specs.Diagram.{IsNode, IsDiagram, function_of, level_of}
use Rattle.cb_dd.proofs.Diagrams.{function_of-zero, function_of-one, function_of-lo, function_of-hi, function_of-put, level_of-node, node-within, kind_of, bottom, top, inner}
use Rattle.cb_ops.specs.Ops.{Agree, DependsOn, IsFree, IsCofactor}
use Rattle.cb_ops.proofs.Ite.{put-same, put-other, put-id, essential, listed, without, without-lt, cofactor-depends, cofactor-at}
use Rattle.cb_ops.proofs.Least.{AllAbove, Rising, rising-from, above-any, agree-above, side-depends}
use Rattle.std.specs.List.Sorted.{IsStrictlyIncreasing}
use Rattle.cb_paths.specs.Walk.{to_come, IsWalk}
use Rattle.cb_paths.specs.Products.{join_products, products_of, height_of}
use Rattle.cb_paths.proofs.Built.{built-zero, built-one, built-triple}

choose-list : {A : Type 0} (b c : Bool) (x y z w : A) → b ≡ c → x ≡ z → y ≡ w → (if b then x else y) ≡ (if c then z else w)
choose-list b c x y z w o p q = λ j. if o j then p j else q j

xor-self : (b : Bool) → xor b b ≡ false
xor-self true = refl
xor-self false = refl

xor-false : (b c : Bool) → xor b c ≡ false → b ≡ c
xor-false true true h = refl
xor-false true false h = absurd (true≢false h)
xor-false false true h = absurd (true≢false h)
xor-false false false h = refl

or-false : (b c : Bool) → b || c ≡ false → (b ≡ false) × (c ≡ false)
or-false true c h = absurd (true≢false h)
or-false false c h = (refl, h)

-- functions that agree where the bit at k is b have the same products there
module _ (f g : Bits → Bool) (k : ℕ) (b : Bool) (same : (a : Bits) → a k ≡ b → f a ≡ g a) where
  depends-same : (env : Bits) (vs : List ℕ) (x : ℕ) → env k ≡ b → AllAbove k vs → k < x → depends f env vs x ≡ depends g env vs x
  depends-same env [] x e above lt =
      let ne : k ≡ x → ⊥ = λ (p : k ≡ x). omega arith in
      λ j. xor (same (put x false env) (put-other env x false k ne ∙ e) j) (same (put x true env) (put-other env x true k ne ∙ e) j)
  depends-same env (v ∷ vs) x e above lt =
      let h : k < v = above.0 in
      let ne : k ≡ v → ⊥ = λ (p : k ≡ v). omega arith in
      λ j. depends-same (put v false env) vs x (put-other env v false k ne ∙ e) above.1 lt j || depends-same (put v true env) vs x (put-other env v true k ne ∙ e) above.1 lt j

  paths-same : (env : Bits) (xs : List ℕ) → env k ≡ b → AllAbove k xs → paths f env xs ≡ paths g env xs
  paths-same env [] e above = λ j. if same env e j then [] ∷ [] else []
  paths-same env (x ∷ xs) e above =
      let h : k < x = above.0 in
      let ne : k ≡ x → ⊥ = λ (p : k ≡ x). omega arith in
      let low = paths-same (put x false env) xs (put-other env x false k ne ∙ e) above.1 in
      let high = paths-same (put x true env) xs (put-other env x true k ne ∙ e) above.1 in
      choose-list _ _ _ _ _ _ (depends-same env xs x e above.1 h)
      (λ j. map (λ p. (x, false) ∷ p) (low j) ++ map (λ p. (x, true) ∷ p) (high j))
      low

-- a function that doesn't change with x doesn't depend on it
free-depends : (f : Bits → Bool) (x : ℕ) → ((a : Bits) (b : Bool) → f (put x b a) ≡ f a) → (env : Bits) (vs : List ℕ) → depends f env vs x ≡ false
free-depends f x free env [] = (λ j. xor (free env false j) (free env true j)) ∙ xor-self (f env)
free-depends f x free env (v ∷ vs) = λ j. free-depends f x free (put v false env) vs j || free-depends f x free (put v true env) vs j

-- the bits that a has at the levels of the list, and those of env elsewhere
abbrev carried : List ℕ → Bits → Bits → Bits
carried [] env a = env
carried (v ∷ vs) env a = carried vs (put v (a v) env) a

carried-above : (k : ℕ) (vs : List ℕ) (env a : Bits) → AllAbove k vs → carried vs env a k ≡ env k
carried-above k [] env a above = refl
carried-above k (v ∷ vs) env a above =
    let h : k < v = above.0 in
    let ne : k ≡ v → ⊥ = λ (p : k ≡ v). omega arith in
    carried-above k vs (put v (a v) env) a above.1 ∙ put-other env v (a v) k ne

carried-agree : (vs : List ℕ) (env a : Bits) → Rising vs → Agree vs (carried vs env a) a
carried-agree [] env a rise = tt
carried-agree (v ∷ vs) env a rise = (carried-above v vs (put v (a v) env) a rise.0 ∙ put-same env v v (a v) refl, carried-agree vs (put v (a v) env) a rise.1)

-- where it doesn't depend on x, the two sides are equal at all bits of the list
equal-sides : (f : Bits → Bool) (x : ℕ) (vs : List ℕ) (env a : Bits) → depends f env vs x ≡ false → f (put x false (carried vs env a)) ≡ f (put x true (carried vs env a))
equal-sides f x [] env a h = xor-false _ _ h
equal-sides f x (v ∷ vs) env a h =
    let both = or-false (depends f (put v false env) vs x) (depends f (put v true env) vs x) h in
    elim (cases_Bool (a v)) [
      | inl is_one ↦ let P : Bool → Type 0 = λ b. f (put x false (carried vs (put v b env) a)) ≡ f (put x true (carried vs (put v b env) a)) in subst P (sym is_one) (equal-sides f x vs (put v true env) a both.1)
      | inr is_zero ↦ let P : Bool → Type 0 = λ b. f (put x false (carried vs (put v b env) a)) ≡ f (put x true (carried vs (put v b env) a)) in subst P (sym is_zero) (equal-sides f x vs (put v false env) a both.0)
    ]

either-side : (f : Bits → Bool) (x : ℕ) → ((a : Bits) → f (put x false a) ≡ f (put x true a)) → (a : Bits) (b c : Bool) → f (put x b a) ≡ f (put x c a)
either-side f x same a true true = refl
either-side f x same a true false = sym (same a)
either-side f x same a false true = same a
either-side f x same a false false = refl

map-plain : (ps : List Product) → map (λ p. p) ps ≡ ps
map-plain [] = refl
map-plain (p ∷ ps) = ap (λ l. p ∷ l) (map-plain ps)

module _ (ts : List Triple) (is : IsDiagram ts) where
  -- a node depends on its level, whatever bits the levels before it have
  level-matters : (n x : ℕ) (xs : List ℕ) (env : Bits) → IsNode ts n → level_of ts n ≡ x → x < 2 ^ 32 → AllAbove x xs → Rising xs → DependsOn ts n (x ∷ xs) → depends (function_of ts n) env xs x ≡ true
  level-matters n x xs env w lev small above rise d = elim (cases_Bool (depends (function_of ts n) env xs x)) [
    | inl matters ↦ matters
    | inr idle ↦
        let f : Bits → Bool = function_of ts n in
        let seen : (a : Bits) (b : Bool) → f (put x b (carried xs env a)) ≡ f (put x b a)
        = λ a b. d.agrees (put x b (carried xs env a)) (put x b a) (put-same (carried xs env a) x x b refl ∙ sym (put-same a x x b refl), agree-above x xs (carried xs env a) a b above (carried-agree xs env a rise)) in
        let same : (a : Bits) → f (put x false a) ≡ f (put x true a) = λ a. sym (seen a false) ∙ equal-sides f x xs env a idle ∙ seen a true in
        absurd (essential ts is n x w lev small (λ a b. either-side f x same a b (a x) ∙ ap f (put-id a x (a x) refl)))
  ]

  free-tail : (n x : ℕ) (xs : List ℕ) → IsFree ts n x → AllAbove x xs → DependsOn ts n (x ∷ xs) → DependsOn ts n xs
  free-tail n x xs free above d = record {
    agrees = λ a b h. sym (free a false) ∙ d.agrees (put x false a) (put x false b) (put-same a x x false refl ∙ sym (put-same b x x false refl), agree-above x xs a b false above h) ∙ free b false;
  }

  ArePaths : List ℕ → Type 0
  ArePaths xs = (n : ℕ) (env : Bits) → IsNode ts n → Rising xs → DependsOn ts n xs → paths (function_of ts n) env xs ≡ products_of ts n

  -- a level that doesn't matter is skipped
  free-paths : (n x : ℕ) (xs : List ℕ) (env : Bits) → ArePaths xs → IsNode ts n → IsFree ts n x → AllAbove x xs → Rising xs → DependsOn ts n (x ∷ xs) → paths (function_of ts n) env (x ∷ xs) ≡ products_of ts n
  unfolding ArePaths
  free-paths n x xs env ih w free above rise d =
      ap (λ b. if b then map (λ p. (x, false) ∷ p) (paths (function_of ts n) (put x false env) xs) ++ map (λ p. (x, true) ∷ p) (paths (function_of ts n) (put x true env) xs) else paths (function_of ts n) (put x false env) xs) (free-depends (function_of ts n) x free env xs)
      ∙ ih n (put x false env) w rise (free-tail n x xs free above d)

  -- at a node's level its two sides come
  side-paths : (k : ℕ) (t : Triple) (xs : List ℕ) (env : Bits) → ArePaths xs → slice_get ts k ≡ Some t → AllAbove t.level xs → Rising xs → DependsOn ts (k + 2) (t.level ∷ xs) → paths (function_of ts (k + 2)) env (t.level ∷ xs) ≡ products_of ts (k + 2)
  unfolding ArePaths
  side-paths k t xs env ih at above rise d =
      let o = is.ordered k t at in
      let v = node-within ts is k t at in
      let w : IsNode ts (k + 2) = v.0 in
      let f : Bits → Bool = function_of ts (k + 2) in
      let low : IsCofactor ts (k + 2) t.level false t.lo = record { node = v.1; above = o.lo_below; function = λ a. sym (function_of-lo ts is k t at a) } in
      let high : IsCofactor ts (k + 2) t.level true t.hi = record { node = v.2; above = o.hi_below; function = λ a. sym (function_of-hi ts is k t at a) } in
      let first : paths f (put t.level false env) xs ≡ products_of ts t.lo
      = paths-same f (function_of ts t.lo) t.level false (λ a e. sym (cofactor-at ts (k + 2) t.level false t.lo a low e)) (put t.level false env) xs (put-same env t.level t.level false refl) above
      ∙ ih t.lo (put t.level false env) v.1 rise (side-depends ts (k + 2) t.level xs false t.lo low d above) in
      let second : paths f (put t.level true env) xs ≡ products_of ts t.hi
      = paths-same f (function_of ts t.hi) t.level true (λ a e. sym (cofactor-at ts (k + 2) t.level true t.hi a high e)) (put t.level true env) xs (put-same env t.level t.level true refl) above
      ∙ ih t.hi (put t.level true env) v.2 rise (side-depends ts (k + 2) t.level xs true t.hi high d above) in
      ap (λ b. if b then map (λ p. (t.level, false) ∷ p) (paths f (put t.level false env) xs) ++ map (λ p. (t.level, true) ∷ p) (paths f (put t.level true env) xs) else paths f (put t.level false env) xs)
      (level-matters (k + 2) t.level xs env w (level_of-node ts k t at) o.level above rise d)
      ∙ (λ j. map (λ p. (t.level, false) ∷ p) (first j) ++ map (λ p. (t.level, true) ∷ p) (second j))
      ∙ sym (built-triple [] join_products ([] ∷ []) ts is k t at)

  free-zero : (n x : ℕ) → n ≡ 0 → IsFree ts n x
  free-zero n x e a b = ap (λ m. function_of ts m (put x b a)) e ∙ function_of-zero ts (put x b a) ∙ sym (ap (λ m. function_of ts m a) e ∙ function_of-zero ts a)

  free-one : (n x : ℕ) → n ≡ 1 → IsFree ts n x
  free-one n x e a b = ap (λ m. function_of ts m (put x b a)) e ∙ function_of-one ts (put x b a) ∙ sym (ap (λ m. function_of ts m a) e ∙ function_of-one ts a)

  small-level : (n k : ℕ) (t : Triple) → n ≡ k + 2 → slice_get ts k ≡ Some t → (level_of ts n ≡ t.level) × (level_of ts n < 2 ^ 32)
  small-level n k t e at =
      let lev : level_of ts n ≡ t.level = ap (level_of ts) e ∙ level_of-node ts k t at in
      let s : t.level < 2 ^ 32 = (is.ordered k t at).level in
      (lev, omega arith)

  pub are-paths : (xs : List ℕ) → (n : ℕ) (env : Bits) → IsNode ts n → Rising xs → DependsOn ts n xs → paths (function_of ts n) env xs ≡ products_of ts n
  unfolding ArePaths
  are-paths [] n env w rise d = elim (kind_of ts n w) [
    | bottom e ↦ ap (λ b. if b then [] ∷ [] else []) (ap (λ m. function_of ts m env) e ∙ function_of-zero ts env) ∙ sym (ap (products_of ts) e ∙ built-zero [] join_products ([] ∷ []) ts)
    | top e ↦ ap (λ b. if b then [] ∷ [] else []) (ap (λ m. function_of ts m env) e ∙ function_of-one ts env) ∙ sym (ap (products_of ts) e ∙ built-one [] join_products ([] ∷ []) ts)
    | inner k t e at ↦ absurd (true≢false (sym (listed ts is n [] w (small-level n k t e at).1 d)))
  ]
  are-paths (x ∷ xs) n env w rise d = elim (kind_of ts n w) [
    | bottom e ↦ free-paths n x xs env (are-paths xs) w (free-zero n x e) rise.0 rise.1 d
    | top e ↦ free-paths n x xs env (are-paths xs) w (free-one n x e) rise.0 rise.1 d
    | inner k t e at ↦
        let lev = small-level n k t e at in
        elim (cases_eq t.level x) [
          | inl same ↦
              let P : ℕ → Type 0 = λ m. paths (function_of ts m) env (x ∷ xs) ≡ products_of ts m in
              let Q : ℕ → Type 0 = λ l. paths (function_of ts (k + 2)) env (l ∷ xs) ≡ products_of ts (k + 2) in
              let R : ℕ → Type 0 = λ l. DependsOn ts (k + 2) (l ∷ xs) in
              let S : ℕ → Type 0 = λ m. DependsOn ts m (x ∷ xs) in
              let T : ℕ → Type 0 = λ l. AllAbove l xs in
              subst P (sym e) (subst Q same (side-paths k t xs env (are-paths xs) at (subst T (sym same) rise.0) rise.1 (subst R (sym same) (subst S e d))))
          | inr other ↦
              let any : list_any (nat_eq (level_of ts n)) (x ∷ xs) ≡ true = listed ts is n (x ∷ xs) w lev.1 d in
              let away : level_of ts n ≡ x → ⊥ = λ (p : level_of ts n ≡ x). other (sym lev.0 ∙ p) in
              let below : x < level_of ts n = above-any x (level_of ts n) xs rise.0 (sym (ap (λ c. c || list_any (nat_eq (level_of ts n)) xs) (ne_eqb (level_of ts n) x away)) ∙ any) in
              free-paths n x xs env (are-paths xs) w (λ a b. function_of-put ts is n w x below a b) rise.0 rise.1 d
        ]
  ]

  -- a product has no more literals than there are levels on which the node depends
  height : (fuel n : ℕ) (levels : List ℕ) → n < fuel → IsNode ts n → DependsOn ts n levels → height_of ts n ≤ length levels
  height zero n levels h w d = absurd (omega arith)
  height (suc fuel) n levels h w d = elim (kind_of ts n w) [
    | bottom e ↦ let z : height_of ts n ≡ 0 = ap (height_of ts) e ∙ built-zero 0 (λ level lo hi. max lo hi + 1) 0 ts in omega arith
    | top e ↦ let z : height_of ts n ≡ 0 = ap (height_of ts) e ∙ built-one 0 (λ level lo hi. max lo hi + 1) 0 ts in omega arith
    | inner k t e at ↦
        let o = is.ordered k t at in
        let v = node-within ts is k t at in
        let lev = small-level n k t e at in
        let S : ℕ → Type 0 = λ m. DependsOn ts m levels in
        let d2 : DependsOn ts (k + 2) levels = subst S e d in
        let any : list_any (nat_eq t.level) levels ≡ true = ap (λ l. list_any (nat_eq l) levels) (sym lev.0) ∙ listed ts is n levels w lev.1 d in
        let low = height fuel t.lo (without t.level levels) (omega (arith, o.lo)) v.1 (cofactor-depends ts (k + 2) t.level false t.lo levels (record { node = v.1; above = o.lo_below; function = λ a. sym (function_of-lo ts is k t at a) }) d2) in
        let high = height fuel t.hi (without t.level levels) (omega (arith, o.hi)) v.2 (cofactor-depends ts (k + 2) t.level true t.hi levels (record { node = v.2; above = o.hi_below; function = λ a. sym (function_of-hi ts is k t at a) }) d2) in
        let e2 : height_of ts n ≡ max (height_of ts t.lo) (height_of ts t.hi) + 1 = ap (height_of ts) e ∙ built-triple 0 (λ level lo hi. max lo hi + 1) 0 ts is k t at in
        let less = without-lt t.level levels any in
        omega arith
  ]

  pub height-within : (n : ℕ) (levels : List ℕ) → IsNode ts n → DependsOn ts n levels → height_of ts n ≤ length levels
  height-within n levels w d = height (suc n) n levels (omega arith) w d

-- at the start all products are to come
pub to_come-start : (ts : List Triple) (n : ℕ) → to_come ts [] [] n ≡ products_of ts n
to_come-start ts n = append-nil (map (λ p. p) (products_of ts n)) ∙ map-plain (products_of ts n)

pub products-are : (ts : List Triple) → IsDiagram ts → (n : ℕ) → IsNode ts n → (env : Bits) (levels : List ℕ) → IsStrictlyIncreasing levels → DependsOn ts n levels → paths (function_of ts n) env levels ≡ products_of ts n
products-are ts is n w env levels rise d = are-paths ts is levels n env w (rising-from levels rise) d

pub products-to-come : (ts : List Triple) → IsDiagram ts → (n : ℕ) → IsNode ts n → (env : Bits) (levels : List ℕ) → IsStrictlyIncreasing levels → DependsOn ts n levels → to_come ts [] [] n ≡ paths (function_of ts n) env levels
products-to-come ts is n w env levels rise d = to_come-start ts n ∙ sym (products-are ts is n w env levels rise d)

pub walk-start : (ts : List Triple) → IsDiagram ts → (n room : ℕ) (levels : List ℕ) → IsNode ts n → DependsOn ts n levels → length levels ≤ room → IsWalk ts room [] [] n
walk-start ts is n room levels w d h = let m = height-within ts is n levels w d in record { as_many = refl; node = w; fits = omega arith; others_fit = tt }
