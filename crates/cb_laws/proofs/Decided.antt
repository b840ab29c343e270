-- Trying all rows decides whether Boolean pairs are solvable.
use Rattle.std.proofs.Common.{◌≡◌, ℕ, zero, suc, ◌+◌, ◌<◌, Bool, true, false, not, ◌&&◌, ◌||◌, ◌⊎◌, List, [], ◌∷◌, map, length, get_or, refl, sym, ◌∙◌, ap, inl, inr, arith}
use Rattle.std.specs.Prelude.{MatchBool}
use Rattle.cb_model.specs.Bits.{Bits, AgreeBelow, Each, bits_of, some_bits, every_bits, numbers_from, first_bits, xor}
use Rattle.cb_model.specs.Values.{World, expr_value}
use Rattle.cb_model.specs.Equations.{Solvable, Refuted}
use Rattle.cb_laws.specs.Laws.{Equal, pair_item, pairs_hold, pairs_in_scope, solvable_by_rows, SolvableDecided, SolvableByTablesBelow}
use Rattle.cb_laws.proofs.Depends.{depends}
use Rattle.cb_laws.proofs.Tables.{sat_bits, bits_sat, with_bits, zero_fits}

-- ---- tests of all lists of bits

pub or_false : (x y : Bool) → (x || y) ≡ false → (x ≡ false) × (y ≡ false)
or_false true y h = absurd (cc)
or_false false y h = (refl, h)

pub and_true : (x y : Bool) → (x && y) ≡ true → (x ≡ true) × (y ≡ true)
and_true true y h = (refl, h)
and_true false y h = absurd (cc)

or_true : (x y : Bool) → (x || y) ≡ true → (x ≡ true) ⊎ (y ≡ true)
or_true true y h = inl refl
or_true false y h = inr h

pub and_false : (x y : Bool) → (x && y) ≡ false → (x ≡ false) ⊎ (y ≡ false)
and_false true y h = inr h
and_false false y h = inl refl

-- a list of n bits at which the test gives x
abbrev Found : ℕ → (List Bool → Bool) → Bool → Type 0
Found n p x = (r : List Bool) × (length r ≡ n) × (p r ≡ x)

longer : (n : ℕ) (p : List Bool → Bool) (x y : Bool) → Found n (λ r. p (y ∷ r)) x → Found (suc n) p x
longer n p x y f = (y ∷ f.0, ap suc f.1, f.2)

some_found : (n : ℕ) (p : List Bool → Bool) → some_bits n p ≡ true → Found n p true
some_found zero p h = ([], refl, h)
some_found (suc n) p h = from (some_found n (λ r. p (false ∷ r))) (some_found n (λ r. p (true ∷ r))) (or_true _ _ h)
  where
    from : (some_bits n (λ r. p (false ∷ r)) ≡ true → Found n (λ r. p (false ∷ r)) true) → (some_bits n (λ r. p (true ∷ r)) ≡ true → Found n (λ r. p (true ∷ r)) true) →
        (some_bits n (λ r. p (false ∷ r)) ≡ true) ⊎ (some_bits n (λ r. p (true ∷ r)) ≡ true) → Found (suc n) p true
    from f g (inl k) = longer n p true false (f k)
    from f g (inr k) = longer n p true true (g k)

every_fails : (n : ℕ) (p : List Bool → Bool) → every_bits n p ≡ false → Found n p false
every_fails zero p h = ([], refl, h)
every_fails (suc n) p h = from (every_fails n (λ r. p (false ∷ r))) (every_fails n (λ r. p (true ∷ r))) (and_false _ _ h)
  where
    from : (every_bits n (λ r. p (false ∷ r)) ≡ false → Found n (λ r. p (false ∷ r)) false) → (every_bits n (λ r. p (true ∷ r)) ≡ false → Found n (λ r. p (true ∷ r)) false) →
        (every_bits n (λ r. p (false ∷ r)) ≡ false) ⊎ (every_bits n (λ r. p (true ∷ r)) ≡ false) → Found (suc n) p false
    from f g (inl k) = longer n p false false (f k)
    from f g (inr k) = longer n p false true (g k)

some_none : (n : ℕ) (p : List Bool → Bool) → some_bits n p ≡ false → (r : List Bool) → length r ≡ n → p r ≡ false
some_none zero p h [] e = h
some_none zero p h (x ∷ r) e = absurd (omega arith)
some_none (suc n) p h [] e = absurd (omega arith)
some_none (suc n) p h (false ∷ r) e = some_none n (λ r. p (false ∷ r)) (or_false _ _ h).0 r (omega arith)
some_none (suc n) p h (true ∷ r) e = some_none n (λ r. p (true ∷ r)) (or_false _ _ h).1 r (omega arith)

every_all : (n : ℕ) (p : List Bool → Bool) → every_bits n p ≡ true → (r : List Bool) → length r ≡ n → p r ≡ true
every_all zero p h [] e = h
every_all zero p h (x ∷ r) e = absurd (omega arith)
every_all (suc n) p h [] e = absurd (omega arith)
every_all (suc n) p h (false ∷ r) e = every_all n (λ r. p (false ∷ r)) (and_true _ _ h).0 r (omega arith)
every_all (suc n) p h (true ∷ r) e = every_all n (λ r. p (true ∷ r)) (and_true _ _ h).1 r (omega arith)

-- ---- the first bits

pub length-first : (at n : ℕ) (a : Bits) → length (map a (numbers_from at n)) ≡ n
length-first at zero a = refl
length-first at (suc n) a = ap suc (length-first (suc at) n a)

first_at : (at n k : ℕ) (a : Bits) → k < n → get_or (map a (numbers_from at n)) k false ≡ a (at + k)
first_at at zero k a h = absurd (omega arith)
first_at at (suc n) zero a h = ap a (omega arith)
first_at at (suc n) (suc k) a h = first_at (suc at) n k a (omega arith) ∙ ap a (omega arith)

pub agree_first : (n : ℕ) (a : Bits) → AgreeBelow n (bits_of (first_bits n a)) a
agree_first n a k h = first_at 0 n k a h ∙ ap a (omega arith)

-- ---- pairs

same_bit : (x y : Bool) → not (xor x y) ≡ true → x ≡ y
same_bit true true h = refl
same_bit true false h = absurd (cc)
same_bit false true h = absurd (cc)
same_bit false false h = refl

no_xor : (x y : Bool) → x ≡ y → not (xor x y) ≡ true
no_xor true true h = refl
no_xor true false h = absurd (cc)
no_xor false true h = absurd (cc)
no_xor false false h = refl

abbrev HoldAt : List Equal → Bits → Bits → Type 0
HoldAt es a b = Each (λ e. expr_value a b e.0 ≡ expr_value a b e.1) es

hold_each : (es : List Equal) (a b : Bits) → pairs_hold es a b ≡ true → HoldAt es a b
hold_each [] a b h = tt
hold_each (e ∷ es) a b h = (same_bit _ _ (and_true _ _ h).0, hold_each es a b (and_true _ _ h).1)

pub both_true : (x y : Bool) → x ≡ true → y ≡ true → (x && y) ≡ true
both_true x y h k = rw (h, k) refl

each_hold : (es : List Equal) (a b : Bits) → HoldAt es a b → pairs_hold es a b ≡ true
each_hold [] a b h = refl
each_hold (e ∷ es) a b h = both_true _ _ (no_xor _ _ h.0) (each_hold es a b h.1)

moved : (c v : ℕ) (es : List Equal) (a a' b b' : Bits) → pairs_in_scope c v es ≡ true → AgreeBelow c a a' → AgreeBelow v b b' → HoldAt es a b → HoldAt es a' b'
moved c v [] a a' b b' s p q h = tt
moved c v (e ∷ es) a a' b b' s p q h =
    let t = and_true _ _ s in
    let u = and_true _ _ t.1 in
    (sym (depends c v a a' b b' p q e.0 t.0) ∙ h.0 ∙ depends c v a a' b b' p q e.1 u.0, moved c v es a a' b b' u.1 p q h.1)

-- ---- the decision

same_self : (n : ℕ) (a : Bits) → AgreeBelow n a a
same_self n a k h = refl

back : (n : ℕ) (a b : Bits) → AgreeBelow n a b → AgreeBelow n b a
back n a b p k h = sym (p k h)

solved : (t : World) (c v : ℕ) (es : List Equal) → pairs_in_scope c v es ≡ true → solvable_by_rows c v es ≡ true → Solvable t (map pair_item es)
solved t c v es s h a ok =
    let r = first_bits c a in
    let f = some_found v (λ s. pairs_hold es (bits_of r) (bits_of s)) (every_all c (λ r. some_bits v (λ s. pairs_hold es (bits_of r) (bits_of s))) h r (length-first 0 c a)) in
    let b = bits_of f.0 in
    record {
      b = with_bits b;
      sorted = λ n. zero_fits;
      sat = bits_sat a (with_bits b) es (moved c v es (bits_of r) a b b s (agree_first c a) (same_self v b) (hold_each es (bits_of r) b f.2));
    }

refuted : (t : World) (c v : ℕ) (es : List Equal) → pairs_in_scope c v es ≡ true → solvable_by_rows c v es ≡ false → Refuted t (map pair_item es)
refuted t c v es s h =
    let f = every_fails c (λ r. some_bits v (λ s. pairs_hold es (bits_of r) (bits_of s))) h in
    let a = bits_of f.0 in
    record {
      a = a;
      admitted = tt;
      none = λ b sorted sat.
          let w = first_bits v b.bits in
          let no_row : pairs_hold es a (bits_of w) ≡ false = some_none v (λ s. pairs_hold es a (bits_of s)) f.2 w (length-first 0 v b.bits) in
          let row : pairs_hold es a (bits_of w) ≡ true =
          each_hold es a (bits_of w) (moved c v es a a b.bits (bits_of w) s (same_self c a) (back v (bits_of w) b.bits (agree_first v b.bits)) (sat_bits a b es sat)) in
          cc;
    }

decide : (t : World) (c v : ℕ) (es : List Equal) → pairs_in_scope c v es ≡ true → (x : Bool) → solvable_by_rows c v es ≡ x →
    MatchBool x (Solvable t (map pair_item es)) (Refuted t (map pair_item es))
decide t c v es s true h = solved t c v es s h
decide t c v es s false h = refuted t c v es s h

pub solvable_decided : SolvableDecided
solvable_decided t c v es s = decide t c v es s (solvable_by_rows c v es) refl

-- ---- tables of the first constants

first_same : (at n : ℕ) (a a' : Bits) → ((k : ℕ) → k < at + n → a k ≡ a' k) → map a (numbers_from at n) ≡ map a' (numbers_from at n)
first_same at zero a a' h = refl
first_same at (suc n) a a' h =
    let here : a at ≡ a' at = h at (omega arith) in
    let rest : map a (numbers_from (suc at) n) ≡ map a' (numbers_from (suc at) n) = first_same (suc at) n a a' (λ k l. h k (omega arith)) in
    rw (here, rest)

abbrev pub trimmed : ℕ → Bits → Bits
trimmed c a = bits_of (first_bits c a)

pub same_trimmed : (c : ℕ) (a a' : Bits) → AgreeBelow c a a' → trimmed c a ≡ trimmed c a'
same_trimmed c a a' e = ap bits_of (first_same 0 c a a' (λ k l. e k (omega arith)))

pub solvable_by_tables_below : SolvableByTablesBelow
solvable_by_tables_below t c v es s = (
  (λ h. (
    (λ n a. (h (trimmed c a) tt).b.bits n),
    (λ n a a' agree.
        let same : first_bits c a ≡ first_bits c a' = first_same 0 c a a' (λ k l. agree k (omega arith)) in
        ap (λ r. (h (bits_of r) tt).b.bits n) same),
    λ a. moved c v es (trimmed c a) a (h (trimmed c a) tt).b.bits (h (trimmed c a) tt).b.bits s (agree_first c a) (same_self v (h (trimmed c a) tt).b.bits)
        (sat_bits (trimmed c a) (h (trimmed c a) tt).b es (h (trimmed c a) tt).sat),
  )),
  λ x a ok. record { b = with_bits (λ n. x.0 n a); sorted = λ n. zero_fits; sat = bits_sat a (with_bits (λ n. x.0 n a)) es (x.2 a) },
)
