-- The products of a node by its levels are those of its function by constants and parameters, under other numbers.
use Rattle.std.proofs.Common.{◌≡◌, ℕ, zero, suc, ◌+◌, ◌-◌, ◌<◌, ◌≤◌, Bool, true, false, nat_lt, ◌||◌, ◌⊎◌, inl, inr, List, [], ◌∷◌, ◌++◌, map, length, codes, decimal, refl, sym, ◌∙◌, ap, arith, rules}
use Rattle.std.proofs.lemmas.List.{map-append, length-map}
use Rattle.std.specs.Prelude.{◌==◌, if◌then◌else◌, get_or, slice_index}
use Rattle.std.specs.List.Sorted.{IsStrictlyIncreasing}
use Rattle.cb_model.specs.Text.{Text, joined, name_text}
use Rattle.cb_model.specs.Bits.{Bits, bits_of, numbers, numbers_from, put, xor}
use Rattle.cb_model.specs.Answers.{Product, depends, paths, literal_text, product_text, products_text}
use Rattle.cb_model.specs.Line.{Names, variable_name}
use Rattle.cb_dd.specs.declared.Triple.{Triple}
use Rattle.cb_dd.specs.Diagram.{function_of}
use Rattle.cb_ops.specs.Ops.{Agree, DependsOn}
use Rattle.cb_show.specs.Levels.{level_at, levels, spread, function_at, node_text, level_name}

-- ---- equal tests

same_number : (n m : ℕ) → (n == m) ≡ true → n ≡ m
same_number n m h = search rules

itself : (n m : ℕ) → n ≡ m → (n == m) ≡ true
itself n m h = search rules

same_test : (a b u v : ℕ) → (a ≡ b → u ≡ v) → (u ≡ v → a ≡ b) → (a == b) ≡ (u == v)
same_test a b u v f g = go (a == b) (u == v) refl refl
  where
    go : (x y : Bool) → (a == b) ≡ x → (u == v) ≡ y → x ≡ y
    go true true i j = refl
    go false false i j = refl
    go true false i j = let h : true ≡ false = sym (itself u v (f (same_number a b i))) ∙ j in absurd (cc)
    go false true i j = let h : true ≡ false = sym (itself a b (g (same_number u v j))) ∙ i in absurd (cc)

is_below : (k c : ℕ) → (k < c × (nat_lt k c ≡ true)) ⊎ (c ≤ k × (nat_lt k c ≡ false))
is_below k c = go (nat_lt k c) refl
  where
    go : (b : Bool) → nat_lt k c ≡ b → (k < c × (nat_lt k c ≡ true)) ⊎ (c ≤ k × (nat_lt k c ≡ false))
    go true e = inl (search rules, e)
    go false e = inr (search rules, e)

-- ---- levels

module _ (c first : ℕ) where
  abbrev by_test : {A : Type 0} → A → A → Bool → A
  by_test x y b = if b then x else y

  low : (k : ℕ) → nat_lt k c ≡ true → level_at c first k ≡ k
  low k e = ap (by_test k (first + (k - c))) e

  high : (k : ℕ) → nat_lt k c ≡ false → level_at c first k ≡ first + (k - c)
  high k e = ap (by_test k (first + (k - c))) e

  -- the levels rise
  rises : c ≤ first → (k : ℕ) → level_at c first k < level_at c first (suc k)
  rises o k = go (is_below k c) (is_below (suc k) c)
    where
      go : (k < c × (nat_lt k c ≡ true)) ⊎ (c ≤ k × (nat_lt k c ≡ false)) → (suc k < c × (nat_lt (suc k) c ≡ true)) ⊎ (c ≤ suc k × (nat_lt (suc k) c ≡ false)) →
          level_at c first k < level_at c first (suc k)
      go (inl a) (inl b) = omega (arith, low k a.1, low (suc k) b.1)
      go (inl a) (inr b) = omega (arith, low k a.1, high (suc k) b.1, a.0, b.0)
      go (inr a) (inl b) = absurd (omega (arith, a.0, b.0))
      go (inr a) (inr b) = omega (arith, high k a.1, high (suc k) b.1, a.0)

  -- different variables have different levels
  same_level : c ≤ first → (k l : ℕ) → level_at c first k ≡ level_at c first l → k ≡ l
  same_level o k l e = go (is_below k c) (is_below l c)
    where
      go : (k < c × (nat_lt k c ≡ true)) ⊎ (c ≤ k × (nat_lt k c ≡ false)) → (l < c × (nat_lt l c ≡ true)) ⊎ (c ≤ l × (nat_lt l c ≡ false)) → k ≡ l
      go (inl a) (inl b) = omega (arith, low k a.1, low l b.1, e)
      go (inl a) (inr b) = absurd (omega (arith, low k a.1, high l b.1, a.0, b.0, e))
      go (inr a) (inl b) = absurd (omega (arith, high k a.1, low l b.1, a.0, b.0, e))
      go (inr a) (inr b) = omega (arith, high k a.1, high l b.1, a.0, b.0, e)

  -- the bit of a variable's level is that of the variable
  spread_at : c ≤ first → (env : Bits) (k : ℕ) → spread c first env (level_at c first k) ≡ env k
  spread_at o env k = go (is_below k c)
    where
      over : (l : ℕ) → c ≤ l → spread c first env l ≡ env (c + (l - first))
      over l h = at (is_below l c)
        where
          at : (l < c × (nat_lt l c ≡ true)) ⊎ (c ≤ l × (nat_lt l c ≡ false)) → spread c first env l ≡ env (c + (l - first))
          at (inl a) = absurd (omega (arith, a.0, h))
          at (inr a) = ap (by_test (env l) (env (c + (l - first)))) a.1

      go : (k < c × (nat_lt k c ≡ true)) ⊎ (c ≤ k × (nat_lt k c ≡ false)) → spread c first env (level_at c first k) ≡ env k
      go (inl a) = ap (spread c first env) (low k a.1) ∙ ap (by_test (env k) (env (c + (k - first)))) a.1
      go (inr a) =
          let h : c ≤ first + (k - c) = omega arith in
          let same : c + ((first + (k - c)) - first) ≡ k = omega (arith, a.0) in
          ap (spread c first env) (high k a.1) ∙ over (first + (k - c)) h ∙ ap env same

  -- a level is that of a constant or of a parameter
  pub level_case : c ≤ first → (k : ℕ) → (level_at c first k < c) ⊎ (first ≤ level_at c first k)
  level_case o k = go (is_below k c)
    where
      go : (k < c × (nat_lt k c ≡ true)) ⊎ (c ≤ k × (nat_lt k c ≡ false)) → (level_at c first k < c) ⊎ (first ≤ level_at c first k)
      go (inl a) = inl (omega (arith, low k a.1, a.0))
      go (inr a) = inr (omega (arith, high k a.1))

  at_number : (s n k : ℕ) → k < n → slice_index (map (level_at c first) (numbers_from s n)) k ≡ level_at c first (s + k)
  at_number s zero k h = absurd (omega arith)
  at_number s (suc n) zero h = ap (level_at c first) (omega arith)
  at_number s (suc n) (suc k) h = at_number (suc s) n k (omega arith) ∙ ap (level_at c first) (omega arith)

  count_numbers : (s n : ℕ) → length (numbers_from s n) ≡ n
  count_numbers s zero = refl
  count_numbers s (suc n) = ap suc (count_numbers (suc s) n)

  pub increasing : c ≤ first → (m : ℕ) → IsStrictlyIncreasing (levels c first m)
  increasing o m k h =
      let n : length (levels c first m) ≡ c + m = length-map (numbers (c + m)) (level_at c first) ∙ count_numbers 0 (c + m) in
      let one : slice_index (levels c first m) k ≡ level_at c first k = at_number 0 (c + m) k (omega (arith, h, n)) ∙ ap (level_at c first) (omega arith) in
      let two : slice_index (levels c first m) (k + 1) ≡ level_at c first (suc k) = at_number 0 (c + m) (k + 1) (omega (arith, h, n)) ∙ ap (level_at c first) (omega arith) in
      omega (arith, one, two, rises o k)

-- ---- products

module _ (ts : List Triple) (n c first m : ℕ) (o : c ≤ first) (d : DependsOn ts n (levels c first m)) where
  abbrev f : Bits → Bool
  f = function_of ts n

  abbrev g : Bits → Bool
  g = function_at ts n c first

  abbrev r : ℕ → ℕ
  r = level_at c first

  -- the bits of the levels are those of their variables
  abbrev Follows : Bits → Bits → Type 0
  Follows e env = Agree (levels c first m) e (spread c first env)

  follows_put : (ks : List ℕ) (x : ℕ) (b : Bool) (e env : Bits) → Agree (map r ks) e (spread c first env) → Agree (map r ks) (put (r x) b e) (spread c first (put x b env))
  follows_put [] x b e env a = tt
  follows_put (k ∷ ks) x b e env a =
      let same : e (r k) ≡ env k = a.0 ∙ spread_at c first o env k in
      let test : (r k == r x) ≡ (k == x) = same_test (r k) (r x) k x (same_level c first o k x) (ap r) in
      (ap (λ t. if t then b else e (r k)) test ∙ ap (λ z. if k == x then b else z) same ∙ sym (spread_at c first o (put x b env) k), follows_put ks x b e env a.1)

  puts : (x : ℕ) (b : Bool) (e env : Bits) → Follows e env → Follows (put (r x) b e) (put x b env)
  puts x b e env a = follows_put (numbers (c + m)) x b e env a

  same_value : (e env : Bits) → Follows e env → f e ≡ g env
  same_value e env a = d.agrees e (spread c first env) a

  same_depends : (vs : List ℕ) (x : ℕ) (e env : Bits) → Follows e env → depends f e (map r vs) (r x) ≡ depends g env vs x
  same_depends [] x e env a =
      ap (λ y. xor y (f (put (r x) true e))) (same_value (put (r x) false e) (put x false env) (puts x false e env a))
      ∙ ap (λ y. xor (g (put x false env)) y) (same_value (put (r x) true e) (put x true env) (puts x true e env a))
  same_depends (v ∷ vs) x e env a =
      ap (λ y. y || depends f (put (r v) true e) (map r vs) (r x)) (same_depends vs x (put (r v) false e) (put v false env) (puts v false e env a))
      ∙ ap (λ y. depends g (put v false env) vs x || y) (same_depends vs x (put (r v) true e) (put v true env) (puts v true e env a))

  abbrev renamed : ℕ × Bool → ℕ × Bool
  renamed l = (r l.0, l.1)

  abbrev all_renamed : List Product → List Product
  all_renamed ps = map (map renamed) ps

  leaf : (b : Bool) → (if b then [] ∷ [] else []) ≡ all_renamed (if b then [] ∷ [] else [])
  leaf true = refl
  leaf false = refl

  fronted : (l : ℕ × Bool) (ps : List Product) → map (λ p. renamed l ∷ p) (all_renamed ps) ≡ all_renamed (map (λ p. l ∷ p) ps)
  fronted l [] = refl
  fronted l (p ∷ ps) = ap (λ qs. (renamed l ∷ map renamed p) ∷ qs) (fronted l ps)

  abbrev both_sides : ℕ → List Product → List Product → List Product
  both_sides x ps qs = map (λ p. (x, false) ∷ p) ps ++ map (λ p. (x, true) ∷ p) qs

  sides : (x : ℕ) (ps qs : List Product) → both_sides (r x) (all_renamed ps) (all_renamed qs) ≡ all_renamed (both_sides x ps qs)
  sides x ps qs =
      ap (λ u. u ++ map (λ p. (r x, true) ∷ p) (all_renamed qs)) (fronted (x, false) ps)
      ∙ ap (λ u. all_renamed (map (λ p. (x, false) ∷ p) ps) ++ u) (fronted (x, true) qs)
      ∙ sym (map-append (map renamed) (map (λ p. (x, false) ∷ p) ps) (map (λ p. (x, true) ∷ p) qs))

  branch : (b : Bool) (x : ℕ) (ps qs : List Product) → (if b then both_sides (r x) (all_renamed ps) (all_renamed qs) else all_renamed ps) ≡ all_renamed (if b then both_sides x ps qs else ps)
  branch true x ps qs = sides x ps qs
  branch false x ps qs = refl

  same_paths : (vs : List ℕ) (e env : Bits) → Follows e env → paths f e (map r vs) ≡ all_renamed (paths g env vs)
  same_paths [] e env a = ap (λ b. if b then [] ∷ [] else []) (same_value e env a) ∙ leaf (g env)
  same_paths (x ∷ xs) e env a =
      let p = same_paths xs (put (r x) false e) (put x false env) (puts x false e env a) in
      let q = same_paths xs (put (r x) true e) (put x true env) (puts x true e env a) in
      ap (λ b. if b then both_sides (r x) (paths f (put (r x) false e) (map r xs)) (paths f (put (r x) true e) (map r xs)) else paths f (put (r x) false e) (map r xs))
      (same_depends xs x e env a)
      ∙ ap (λ u. if depends g env xs x then both_sides (r x) u (paths f (put (r x) true e) (map r xs)) else u) p
      ∙ ap (λ u. if depends g env xs x then both_sides (r x) (all_renamed (paths g (put x false env) xs)) u else all_renamed (paths g (put x false env) xs)) q
      ∙ branch (depends g env xs x) x (paths g (put x false env) xs) (paths g (put x true env) xs)

  -- ---- texts

  module _ (ns : List Text) where
    abbrev names : Names
    names = record { names = []; constants = ns; printed = [] }

    abbrev parameter : ℕ → Text
    parameter l = codes "_" ++ decimal l

    same_name : (k : ℕ) → level_name c first ns (r k) ≡ variable_name c names k
    same_name k = go (is_below k c)
      where
        over : (l : ℕ) → c ≤ l → level_name c first ns l ≡ parameter (l - first + 1)
        over l h = at (is_below l c)
          where
            at : (l < c × (nat_lt l c ≡ true)) ⊎ (c ≤ l × (nat_lt l c ≡ false)) → level_name c first ns l ≡ parameter (l - first + 1)
            at (inl a) = absurd (omega (arith, a.0, h))
            at (inr a) = ap (by_test c first (name_text (get_or ns l [])) (parameter (l - first + 1))) a.1

        go : (k < c × (nat_lt k c ≡ true)) ⊎ (c ≤ k × (nat_lt k c ≡ false)) → level_name c first ns (r k) ≡ variable_name c names k
        go (inl a) =
            ap (level_name c first ns) (low c first k a.1) ∙ ap (by_test c first (name_text (get_or ns k [])) (parameter (k - first + 1))) a.1
            ∙ sym (ap (by_test c first (name_text (get_or ns k [])) (parameter (k - c + 1))) a.1)
        go (inr a) =
            let h : c ≤ first + (k - c) = omega arith in
            let same : (first + (k - c)) - first + 1 ≡ k - c + 1 = omega arith in
            ap (level_name c first ns) (high c first k a.1) ∙ over (first + (k - c)) h ∙ ap parameter same
            ∙ sym (ap (by_test c first (name_text (get_or ns k [])) (parameter (k - c + 1))) a.1)

    abbrev level_text : ℕ → Text
    level_text = level_name c first ns

    abbrev variable_text : ℕ → Text
    variable_text = variable_name c names

    same_literals : (p : Product) → map (literal_text level_text) (map renamed p) ≡ map (literal_text variable_text) p
    same_literals [] = refl
    same_literals (l ∷ p) =
        ap (λ x. (if l.1 then x else codes "~" ++ x) ∷ map (literal_text level_text) (map renamed p)) (same_name l.0)
        ∙ ap (λ xs. literal_text variable_text l ∷ xs) (same_literals p)

    same_products : (ps : List Product) → map (product_text level_text) (all_renamed ps) ≡ map (product_text variable_text) ps
    same_products [] = refl
    same_products (p ∷ ps) =
        ap (λ x. joined (codes "*") x ∷ map (product_text level_text) (all_renamed ps)) (same_literals p)
        ∙ ap (λ xs. product_text variable_text p ∷ xs) (same_products ps)

    same_text : (ps : List Product) → products_text level_text (all_renamed ps) ≡ products_text variable_text ps
    same_text [] = refl
    same_text ([] ∷ ps) = refl
    same_text ((l ∷ p) ∷ ps) =
        ap (λ k. if nat_lt 65536 (suc k) then codes "(large)" else joined (codes " + ") (map (product_text level_text) (all_renamed ((l ∷ p) ∷ ps)))) (length-map ps (map renamed))
        ∙ ap (λ xs. if nat_lt 65536 (length ((l ∷ p) ∷ ps)) then codes "(large)" else joined (codes " + ") xs) (same_products ((l ∷ p) ∷ ps))

    agrees_itself : (ls : List ℕ) (e : Bits) → Agree ls e e
    agrees_itself [] e = tt
    agrees_itself (l ∷ ls) e = (refl, agrees_itself ls e)

    -- the bits from which the products of the levels are taken
    abbrev pub start : Bits
    start = spread c first (bits_of [])

    pub shown : products_text level_text (paths f start (levels c first m)) ≡ node_text ts n c first ns m
    shown =
        ap (products_text level_text) (same_paths (numbers (c + m)) start (bits_of []) (agrees_itself (levels c first m) start))
        ∙ same_text (paths g (bits_of []) (numbers (c + m)))
