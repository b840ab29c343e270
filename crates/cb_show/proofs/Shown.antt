-- The text of a node by its products.
use Rattle.std.proofs.Common.{◌≡◌, ℕ, zero, suc, ◌+◌, ◌<◌, ◌≤◌, Bool, true, false, nat_lt, List, [], ◌∷◌, ◌++◌, map, length, codes, refl, sym, ◌∙◌, ap, subst, arith, rules}
use Rattle.std.specs.Prelude.{if◌then◌else◌, Option, Some, None}
use Rattle.std.specs.List.Sorted.{IsStrictlyIncreasing}
use Rattle.cb_model.specs.Text.{Text, joined}
use Rattle.cb_model.specs.Bits.{Bits, Each, numbers_from, put}
use Rattle.cb_model.specs.Answers.{Product, depends, paths, product_text, products_text}
use Rattle.cb_dd.specs.declared.Triple.{Triple}
use Rattle.cb_dd.specs.Diagram.{function_of}
use Rattle.cb_ops.specs.Ops.{DependsOn}
use Rattle.cb_paths.specs.Counted.{IsCount}
use Rattle.cb_show.specs.Levels.{level_at, levels, node_text, level_name}
use Rattle.cb_show.specs.Steps.{IsNamed, AreNamed}
use Rattle.cb_show.proofs.Renamed.{start, shown, level_case, increasing}

-- ---- the levels of products have names

module _ (c first : ℕ) where
  each_append : {A : Type 0} (Q : A → Type 0) (xs ys : List A) → Each Q xs → Each Q ys → Each Q (xs ++ ys)
  each_append Q [] ys e f = f
  each_append Q (x ∷ xs) ys e f = (e.0, each_append Q xs ys e.1 f)

  fronted : (x : ℕ) (b : Bool) (ps : List Product) → IsNamed c first x → Each (AreNamed c first) ps → Each (AreNamed c first) (map (λ p. (x, b) ∷ p) ps)
  fronted x b [] n e = tt
  fronted x b (p ∷ ps) n e = ((n, e.0), fronted x b ps n e.1)

  chosen : (b : Bool) (ps qs : List Product) → Each (AreNamed c first) ps → Each (AreNamed c first) qs → Each (AreNamed c first) (if b then ps else qs)
  chosen true ps qs e f = e
  chosen false ps qs e f = f

  all_named : (f : Bits → Bool) (e : Bits) (vs : List ℕ) → Each (IsNamed c first) vs → Each (AreNamed c first) (paths f e vs)
  all_named f e [] n = chosen (f e) ([] ∷ []) [] (tt, tt) tt
  all_named f e (x ∷ xs) n =
      let p = all_named f (put x false e) xs n.1 in
      let q = all_named f (put x true e) xs n.1 in
      chosen (depends f e xs x) _ (paths f (put x false e) xs) (each_append (AreNamed c first) _ _ (fronted x false _ n.0 p) (fronted x true _ n.0 q)) p

  levels_named : c ≤ first → (s n : ℕ) → Each (IsNamed c first) (map (level_at c first) (numbers_from s n))
  levels_named o s zero = tt
  levels_named o s (suc n) = (level_case c first o s, levels_named o (suc s) n)

-- ---- numbers of products

past : (n : ℕ) → 65536 < n → true ≡ nat_lt 65536 n
past n h = search rules

not_past : (n : ℕ) → n ≤ 65536 → false ≡ nat_lt 65536 n
not_past n h = search rules

-- a list that begins with the empty product has no other
Lone : List Product → Type 0
Lone [] = Unit {0}
Lone ([] ∷ ps) = ps ≡ []
Lone ((l ∷ p) ∷ ps) = Unit {0}

lone_fronted : (l : ℕ × Bool) (ps qs : List Product) → Lone qs → Lone (map (λ p. l ∷ p) ps ++ qs)
unfolding Lone
lone_fronted l [] qs h = h
lone_fronted l (p ∷ ps) qs h = tt

lone_if : (b : Bool) (ps qs : List Product) → Lone ps → Lone qs → Lone (if b then ps else qs)
lone_if true ps qs h k = h
lone_if false ps qs h k = k

lone_side : (l : ℕ × Bool) (ps : List Product) → Lone (map (λ p. l ∷ p) ps)
unfolding Lone
lone_side l [] = tt
lone_side l (p ∷ ps) = tt

all_lone : (f : Bits → Bool) (e : Bits) (vs : List ℕ) → Lone (paths f e vs)
unfolding Lone
all_lone f e [] = lone_if (f e) ([] ∷ []) [] refl tt
all_lone f e (x ∷ xs) =
    lone_if (depends f e xs x) _ (paths f (put x false e) xs) (lone_fronted (x, false) (paths f (put x false e) xs) _ (lone_side (x, true) (paths f (put x true e) xs))) (all_lone f (put x false e) xs)

lone : (f : Bits → Bool) (e : Bits) (vs : List ℕ) (ps : List Product) → paths f e vs ≡ [] ∷ ps → ps ≡ []
unfolding Lone
lone f e vs ps h = subst Lone h (all_lone f e vs)

-- ---- the text

module _ (ts : List Triple) (n c first m : ℕ) (o : c ≤ first) (d : DependsOn ts n (levels c first m)) (ns : List Text) where
  abbrev P : List Product
  P = paths (function_of ts n) (start ts n c first m o d ns) (levels c first m)

  abbrev text : ℕ → Text
  text = level_name c first ns

  abbrev Shows : Text → Type 0
  Shows x = x ≡ node_text ts n c first ns m

  by_products : (ps : List Product) → P ≡ ps → Shows (products_text text ps)
  by_products ps e = ap (products_text text) (sym e) ∙ shown ts n c first m o d ns

  pub none : P ≡ [] → Shows (codes "0")
  none e = by_products [] e

  pub empty : (p : Product) (ps : List Product) → P ≡ p ∷ ps → p ≡ [] → Shows (codes "1")
  empty p ps e z = by_products ([] ∷ ps) (e ∙ ap (λ q. q ∷ ps) z)

  pub large : (ps : List Product) → P ≡ ps → 65536 < length ps → Shows (codes "(large)")
  large [] e l = absurd (omega arith)
  large ([] ∷ ps) e l =
      let one = ap length (lone (function_of ts n) (start ts n c first m o d ns) (levels c first m) ps e) in
      absurd (omega (arith, l, one))
  large ((x ∷ p) ∷ ps) e l =
      ap (λ b. if b then codes "(large)" else joined (codes " + ") (map (product_text text) ((x ∷ p) ∷ ps))) (past (suc (length ps)) l) ∙ by_products ((x ∷ p) ∷ ps) e

  pub sum : (p : Product) (ps : List Product) → P ≡ p ∷ ps → (p ≡ [] → ⊥) → suc (length ps) ≤ 65536 →
      Shows (joined (codes " + ") (map (product_text text) (p ∷ ps)))
  sum [] ps e z l = absurd (z refl)
  sum (x ∷ p) ps e z l =
      ap (λ b. if b then codes "(large)" else joined (codes " + ") (map (product_text text) ((x ∷ p) ∷ ps))) (not_past (suc (length ps)) l) ∙ by_products ((x ∷ p) ∷ ps) e

  pub named : (qs : List Product) → P ≡ qs → Each (AreNamed c first) qs
  named qs e = subst (Each (AreNamed c first)) e (all_named c first (function_of ts n) (start ts n c first m o d ns) (levels c first m) (levels_named c first o 0 (c + m)))

-- ---- the text by any list that has the products

module _ (ts : List Triple) (n c first : ℕ) (o : c ≤ first) (ns : List Text) where
  -- the list has the products, in the order of any levels on which the node depends alone
  abbrev pub AreProducts : List Product → Type 0
  AreProducts come = (env : Bits) (ls : List ℕ) → IsStrictlyIncreasing ls → DependsOn ts n ls → come ≡ paths (function_of ts n) env ls

  -- the node's text was appended
  abbrev pub Texts : Text → Text → Type 0
  Texts old new = (m : ℕ) → DependsOn ts n (levels c first m) → new ≡ old ++ node_text ts n c first ns m

  are : (come : List Product) → AreProducts come → (m : ℕ) (d : DependsOn ts n (levels c first m)) → P ts n c first m o d ns ≡ come
  are come a m d = sym (a (start ts n c first m o d ns) (levels c first m) (increasing c first o m) d)

  pub none_shown : (come : List Product) → AreProducts come → come ≡ [] → (old new : Text) → new ≡ old ++ codes "0" → Texts old new
  none_shown come a e old new h m d = h ∙ ap (λ x. old ++ x) (none ts n c first m o d ns (are come a m d ∙ e))

  pub empty_shown : (come ps : List Product) (p : Product) → AreProducts come → come ≡ p ∷ ps → p ≡ [] → (old new : Text) → new ≡ old ++ codes "1" → Texts old new
  empty_shown come ps p a e z old new h m d = h ∙ ap (λ x. old ++ x) (empty ts n c first m o d ns p ps (are come a m d ∙ e) z)

  -- the count of the products
  abbrev pub Counted : Option ℕ → Type 0
  Counted k = (env : Bits) (ls : List ℕ) → IsStrictlyIncreasing ls → DependsOn ts n ls → IsCount (length (paths (function_of ts n) env ls)) 65536 k

  past_most : (k : Option ℕ) (l : ℕ) → k ≡ None → IsCount l 65536 k → 65536 < l
  past_most None l e h = h
  past_most (Some k) l e h = absurd (cc)

  within_most : (k : Option ℕ) (l : ℕ) → (k ≡ None → ⊥) → IsCount l 65536 k → l ≤ 65536
  within_most None l e h = absurd (e refl)
  within_most (Some k) l e h = h.1

  pub large_shown : (k : Option ℕ) → Counted k → k ≡ None → (old new : Text) → new ≡ old ++ codes "(large)" → Texts old new
  large_shown k a e old new h m d =
      let i = a (start ts n c first m o d ns) (levels c first m) (increasing c first o m) d in
      h ∙ ap (λ x. old ++ x) (large ts n c first m o d ns (P ts n c first m o d ns) refl (past_most k _ e i))

  pub sum_shown : (k : Option ℕ) (come ps : List Product) (p : Product) → Counted k → (k ≡ None → ⊥) → AreProducts come → come ≡ p ∷ ps → (p ≡ [] → ⊥) → (old new : Text) →
      new ≡ old ++ joined (codes " + ") (map (product_text (level_name c first ns)) (p ∷ ps)) → Texts old new
  sum_shown k come ps p a s b e z old new h m d =
      let i = within_most k _ s (a (start ts n c first m o d ns) (levels c first m) (increasing c first o m) d) in
      let j = are come b m d ∙ e in
      h ∙ ap (λ x. old ++ x) (sum ts n c first m o d ns p ps j z (subst (λ qs. length qs ≤ 65536) j i))

  pub all_shown : (next qs : List Product) → AreProducts next → next ≡ qs → (m : ℕ) × DependsOn ts n (levels c first m) → Each (AreNamed c first) qs
  all_shown next qs b f s = named ts n c first s.0 o s.1 ns qs (are next b s.0 s.1 ∙ f)
