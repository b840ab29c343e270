-- Each net of the adder is driven once.
use Rattle.std.proofs.Common.{◌≡◌, ℕ, zero, suc, ◌+◌, ◌<◌, ◌≤◌, ◌^◌, Bool, true, false, not, ◌&&◌, cond, List, [], ◌∷◌, ◌++◌, map, refl, sym, ◌∙◌, ap, subst, arith, codes}
use Rattle.std.specs.Prelude.{bytes_eq, flat_map, count_by, ◌==◌, ◌||◌}
use Rattle.std.specs.List.{list_all, list_any}
use Rattle.std.proofs.lemmas.List.Folds.{list_all-append}
use Rattle.std.proofs.lemmas.List.Recursion.{is_count_by}
use Rattle.cb_model.specs.Bits.{numbers, numbers_from}
use Rattle.cb_model.specs.Text.{Text, all_different}
use Rattle.cb_model.specs.Circuits.{Instance}
use Rattle.cb_model.specs.Facts.{drivers, all_driven_once}
use Rattle.cb_flat.proofs.Places.{bytes_eq-refl}
use Rattle.cb_adder.proofs.Modules.{a_name, b_name, s_name, c_name, adder_inputs, adder_outputs, adder_part, adder_module}
use Rattle.cb_adder.proofs.Names.{differ, next-carry, first-carry}

-- ---- how many of a list pass

abbrev tally : (Text → Bool) → List Text → ℕ
tally p [] = 0
tally p (x ∷ xs) = cond (p x) (1 + tally p xs) (tally p xs)

tally-is : (p : Text → Bool) (xs : List Text) → tally p xs ≡ count_by p xs
tally-is p xs = is_count_by (tally p) p refl (λ y ys. refl) xs

tally-yes : (p : Text → Bool) (x : Text) (xs : List Text) (n : ℕ) → p x ≡ true → tally p xs ≡ n → tally p (x ∷ xs) ≡ 1 + n
tally-yes p x xs n e h = ap (λ b. cond b (1 + tally p xs) (tally p xs)) e ∙ ap (λ k. 1 + k) h

tally-no : (p : Text → Bool) (x : Text) (xs : List Text) (n : ℕ) → p x ≡ false → tally p xs ≡ n → tally p (x ∷ xs) ≡ n
tally-no p x xs n e h = ap (λ b. cond b (1 + tally p xs) (tally p xs)) e ∙ h

tally-append : (p : Text → Bool) (xs ys : List Text) (m n : ℕ) → tally p xs ≡ m → tally p ys ≡ n → tally p (xs ++ ys) ≡ m + n
tally-append p [] ys m n e f = omega (arith, e, f)
tally-append p (x ∷ xs) ys m n e f = step (p x) (tally-append p xs ys (tally p xs) n refl f) e
  where
    step : (b : Bool) → tally p (xs ++ ys) ≡ tally p xs + n → cond b (1 + tally p xs) (tally p xs) ≡ m → cond b (1 + tally p (xs ++ ys)) (tally p (xs ++ ys)) ≡ m + n
    step true h g = omega (arith, h, g)
    step false h g = omega (arith, h, g)

-- ---- two names for each number

abbrev two : (ℕ → Text) → (ℕ → Text) → ℕ → ℕ → List Text
two f g s k = flat_map (λ i. f i ∷ g i ∷ []) (numbers_from s k)

-- a name is none of these
abbrev Other : Text → (ℕ → Text) → ℕ → ℕ → Type 0
Other x f s k = (i : ℕ) → s ≤ i → i < s + k → bytes_eq x (f i) ≡ false

tally-none : (x : Text) (f g : ℕ → Text) (s k : ℕ) → Other x f s k → Other x g s k → tally (bytes_eq x) (two f g s k) ≡ 0
tally-none x f g s zero a b = refl
tally-none x f g s (suc k) a b =
    tally-no (bytes_eq x) (f s) (g s ∷ two f g (suc s) k) 0 (a s (omega arith) (omega arith))
    (tally-no (bytes_eq x) (g s) (two f g (suc s) k) 0 (b s (omega arith) (omega arith))
    (tally-none x f g (suc s) k (λ i l h. a i (omega arith) (omega arith)) (λ i l h. b i (omega arith) (omega arith))))

-- a name is one of the first, or one of the second
tally-first : (f g : ℕ → Text) (i s k d : ℕ) → s + d ≡ i → d < k → ((j : ℕ) → j < s + k → (i ≡ j → ⊥) → bytes_eq (f i) (f j) ≡ false) → Other (f i) g s k → tally (bytes_eq (f i)) (two f g s k) ≡ 1
tally-first f g i s zero d e l a b = absurd (omega arith)
tally-first f g i s (suc k) zero e l a b =
    let same : i ≡ s = omega arith in
    tally-yes (bytes_eq (f i)) (f s) (g s ∷ two f g (suc s) k) 0 (subst (λ j. bytes_eq (f i) (f j) ≡ true) same (bytes_eq-refl (f i)))
    (tally-no (bytes_eq (f i)) (g s) (two f g (suc s) k) 0 (b s (omega arith) (omega arith))
    (tally-none (f i) f g (suc s) k (λ j m h. a j (omega arith) (λ q. omega arith)) (λ j m h. b j (omega arith) (omega arith))))
tally-first f g i s (suc k) (suc d) e l a b =
    tally-no (bytes_eq (f i)) (f s) (g s ∷ two f g (suc s) k) 1 (a s (omega arith) (λ q. omega arith))
    (tally-no (bytes_eq (f i)) (g s) (two f g (suc s) k) 1 (b s (omega arith) (omega arith))
    (tally-first f g i (suc s) k d (omega arith) (omega arith) (λ j h q. a j (omega arith) q) (λ j m h. b j (omega arith) (omega arith))))

tally-second : (f g : ℕ → Text) (i s k d : ℕ) → s + d ≡ i → d < k → ((j : ℕ) → j < s + k → (i ≡ j → ⊥) → bytes_eq (g i) (g j) ≡ false) → Other (g i) f s k → tally (bytes_eq (g i)) (two f g s k) ≡ 1
tally-second f g i s zero d e l a b = absurd (omega arith)
tally-second f g i s (suc k) zero e l a b =
    let same : i ≡ s = omega arith in
    tally-no (bytes_eq (g i)) (f s) (g s ∷ two f g (suc s) k) 1 (b s (omega arith) (omega arith))
    (tally-yes (bytes_eq (g i)) (g s) (two f g (suc s) k) 0 (subst (λ j. bytes_eq (g i) (g j) ≡ true) same (bytes_eq-refl (g i)))
    (tally-none (g i) f g (suc s) k (λ j m h. b j (omega arith) (omega arith)) (λ j m h. a j (omega arith) (λ q. omega arith))))
tally-second f g i s (suc k) (suc d) e l a b =
    tally-no (bytes_eq (g i)) (f s) (g s ∷ two f g (suc s) k) 1 (b s (omega arith) (omega arith))
    (tally-no (bytes_eq (g i)) (g s) (two f g (suc s) k) 1 (a s (omega arith) (λ q. omega arith))
    (tally-second f g i (suc s) k d (omega arith) (omega arith) (λ j h q. a j (omega arith) q) (λ j m h. b j (omega arith) (omega arith))))

-- ---- the drivers of the adder

abbrev next_name : ℕ → Text
next_name i = c_name (suc i)

outs-two : (s k : ℕ) → flat_map (λ (i : Instance). i.outs) (map adder_part (numbers_from s k)) ≡ two s_name next_name s k
outs-two s zero = refl
outs-two s (suc k) = ap (λ xs. s_name s ∷ next_name s ∷ xs) (outs-two (suc s) k)

module _ (n : ℕ) (small : n < 2 ^ 32) where
  -- from the counts of the inputs of the bits and of the output pins
  driven : (x : Text) (c p q : ℕ) → tally (bytes_eq x) (codes "C0" ∷ []) ≡ c → tally (bytes_eq x) (two a_name b_name 0 n) ≡ p → tally (bytes_eq x) (two s_name next_name 0 n) ≡ q →
      c + p + q ≡ 1 → (count_by (bytes_eq x) (drivers (adder_module n)) == 1) ≡ true
  driven x c p q e f g h =
      let all : tally (bytes_eq x) ((codes "C0" ∷ two a_name b_name 0 n) ++ two s_name next_name 0 n) ≡ c + p + q =
      tally-append (bytes_eq x) (codes "C0" ∷ two a_name b_name 0 n) (two s_name next_name 0 n) (c + p) q (tally-append (bytes_eq x) (codes "C0" ∷ []) (two a_name b_name 0 n) c p e f) g in
      ap (λ k. k == 1) (sym (tally-is (bytes_eq x) (drivers (adder_module n))) ∙ ap (λ xs. tally (bytes_eq x) ((codes "C0" ∷ two a_name b_name 0 n) ++ xs)) (outs-two 0 n) ∙ all ∙ h)

  a-once : (i : ℕ) → i < n → (count_by (bytes_eq (a_name i)) (drivers (adder_module n)) == 1) ≡ true
  a-once i l = driven (a_name i) 0 1 0 refl
      (tally-first a_name b_name i 0 n i (omega arith) l (λ j h q. differ 65 i j (omega arith) (omega arith) q) (λ j m h. refl))
      (tally-none (a_name i) s_name next_name 0 n (λ j m h. refl) (λ j m h. refl)) (omega arith)

  b-once : (i : ℕ) → i < n → (count_by (bytes_eq (b_name i)) (drivers (adder_module n)) == 1) ≡ true
  b-once i l = driven (b_name i) 0 1 0 refl
      (tally-second a_name b_name i 0 n i (omega arith) l (λ j h q. differ 66 i j (omega arith) (omega arith) q) (λ j m h. refl))
      (tally-none (b_name i) s_name next_name 0 n (λ j m h. refl) (λ j m h. refl)) (omega arith)

  s-once : (i : ℕ) → i < n → (count_by (bytes_eq (s_name i)) (drivers (adder_module n)) == 1) ≡ true
  s-once i l = driven (s_name i) 0 0 1 refl
      (tally-none (s_name i) a_name b_name 0 n (λ j m h. refl) (λ j m h. refl))
      (tally-first s_name next_name i 0 n i (omega arith) l (λ j h q. differ 83 i j (omega arith) (omega arith) q) (λ j m h. refl)) (omega arith)

  next-once : (i : ℕ) → i < n → (count_by (bytes_eq (next_name i)) (drivers (adder_module n)) == 1) ≡ true
  next-once i l = driven (next_name i) 0 0 1 (tally-no (bytes_eq (next_name i)) (codes "C0") [] 0 (next-carry i (omega arith)) refl)
      (tally-none (next_name i) a_name b_name 0 n (λ j m h. refl) (λ j m h. refl))
      (tally-second s_name next_name i 0 n i (omega arith) l (λ j h q. differ 67 (suc i) (suc j) (omega arith) (omega arith) (λ r. let z : i ≡ j = omega arith in q z)) (λ j m h. refl)) (omega arith)

  first-once : (count_by (bytes_eq (codes "C0")) (drivers (adder_module n)) == 1) ≡ true
  first-once = subst (λ x. (count_by (bytes_eq x) (drivers (adder_module n)) == 1) ≡ true) first-carry
      (driven (c_name 0) 1 0 0 (tally-yes (bytes_eq (c_name 0)) (codes "C0") [] 0 (subst (λ x. bytes_eq (c_name 0) x ≡ true) first-carry (bytes_eq-refl (c_name 0))) refl)
      (tally-none (c_name 0) a_name b_name 0 n (λ j m h. refl) (λ j m h. refl))
      (tally-none (c_name 0) s_name next_name 0 n (λ j m h. refl) (λ j m h. differ 67 0 (suc j) (omega arith) (omega arith) (λ q. omega arith))) (omega arith))

  c-once : (i : ℕ) → i ≤ n → (count_by (bytes_eq (c_name i)) (drivers (adder_module n)) == 1) ≡ true
  c-once zero l = subst (λ x. (count_by (bytes_eq x) (drivers (adder_module n)) == 1) ≡ true) (sym first-carry) first-once
  c-once (suc i) l = next-once i (omega arith)

  abbrev Once : Text → Type 0
  Once x = (count_by (bytes_eq x) (drivers (adder_module n)) == 1) ≡ true

  abbrev test : Text → Bool
  test x = count_by (bytes_eq x) (drivers (adder_module n)) == 1

  and_true : (a b : Bool) → a ≡ true → b ≡ true → (a && b) ≡ true
  and_true true b e f = f
  and_true false b e f = absurd (cc)

  all-two : (f g : ℕ → Text) (s k : ℕ) → s + k ≡ n → ((i : ℕ) → i < n → Once (f i)) → ((i : ℕ) → i < n → Once (g i)) → list_all test (two f g s k) ≡ true
  all-two f g s zero e a b = refl
  all-two f g s (suc k) e a b = and_true (test (f s)) _ (a s (omega arith)) (and_true (test (g s)) _ (b s (omega arith)) (all-two f g (suc s) k (omega arith) a b))

  all-ins : (s k : ℕ) → s + k ≡ n → list_all test (flat_map (λ (i : Instance). i.ins) (map adder_part (numbers_from s k))) ≡ true
  all-ins s zero e = refl
  all-ins s (suc k) e = and_true (test (a_name s)) _ (a-once s (omega arith)) (and_true (test (b_name s)) _ (b-once s (omega arith)) (and_true (test (c_name s)) _ (c-once s (omega arith)) (all-ins (suc s) k (omega arith))))

  all-outs : (s k : ℕ) → s + k ≡ n → list_all test (map s_name (numbers_from s k) ++ c_name n ∷ []) ≡ true
  all-outs s zero e = and_true (test (c_name n)) true (c-once n (omega arith)) refl
  all-outs s (suc k) e = and_true (test (s_name s)) _ (s-once s (omega arith)) (all-outs (suc s) k (omega arith))

  both-all : (xs ys : List Text) → list_all test xs ≡ true → list_all test ys ≡ true → list_all test (xs ++ ys) ≡ true
  both-all xs ys e f = list_all-append test xs ys ∙ and_true (list_all test xs) (list_all test ys) e f

  pub driven-once : all_driven_once (adder_module n) ≡ true
  driven-once =
      both-all (drivers (adder_module n) ++ adder_outputs n) (flat_map (λ (i : Instance). i.ins) (map adder_part (numbers n)))
      (both-all (drivers (adder_module n)) (adder_outputs n)
      (both-all (adder_inputs n) (flat_map (λ (i : Instance). i.outs) (map adder_part (numbers n)))
      (and_true (test (codes "C0")) _ first-once (all-two a_name b_name 0 n (omega arith) a-once b-once))
      (subst (λ xs. list_all test xs ≡ true) (sym (outs-two 0 n)) (all-two s_name next_name 0 n (omega arith) s-once next-once)))
      (all-outs 0 n (omega arith)))
      (all-ins 0 n (omega arith))

-- ---- no input stands twice

no-any : (x : Text) (f g : ℕ → Text) (s k : ℕ) → Other x f s k → Other x g s k → list_any (bytes_eq x) (two f g s k) ≡ false
no-any x f g s zero a b = refl
no-any x f g s (suc k) a b = either-false (bytes_eq x (f s)) _ (a s (omega arith) (omega arith)) (either-false (bytes_eq x (g s)) _ (b s (omega arith) (omega arith))
    (no-any x f g (suc s) k (λ i l h. a i (omega arith) (omega arith)) (λ i l h. b i (omega arith) (omega arith))))
  where
    either-false : (p q : Bool) → p ≡ false → q ≡ false → (p || q) ≡ false
    either-false false q e h = h
    either-false true q e h = absurd (cc)

not-first : (p q : Bool) → p ≡ false → q ≡ true → (not p && q) ≡ true
not-first false q e h = h
not-first true q e h = absurd (cc)

pairs-different : (s k : ℕ) → s + k < 2 ^ 32 → all_different (two a_name b_name s k) ≡ true
pairs-different s zero l = refl
pairs-different s (suc k) l =
    not-first (list_any (bytes_eq (a_name s)) (b_name s ∷ two a_name b_name (suc s) k)) _
    (no-any (a_name s) a_name b_name (suc s) k (λ i m h. differ 65 s i (omega arith) (omega arith) (λ q. omega arith)) (λ i m h. refl))
    (not-first (list_any (bytes_eq (b_name s)) (two a_name b_name (suc s) k)) _
    (no-any (b_name s) a_name b_name (suc s) k (λ i m h. refl) (λ i m h. differ 66 s i (omega arith) (omega arith) (λ q. omega arith)))
    (pairs-different (suc s) k (omega arith)))

pub inputs-different : (n : ℕ) → n < 2 ^ 32 → all_different (adder_inputs n) ≡ true
inputs-different n small = not-first (list_any (bytes_eq (codes "C0")) (two a_name b_name 0 n)) _ (no-any (codes "C0") a_name b_name 0 n (λ i m h. refl) (λ i m h. refl)) (pairs-different 0 n (omega arith))
