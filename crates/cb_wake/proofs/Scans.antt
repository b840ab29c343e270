-- Scans of waiting goals.
use Rattle.std.proofs.Common.{◌≡◌, ℕ, zero, suc, ◌+◌, ◌<◌, ◌≤◌, inl, inr, Bool, true, false, List, [], ◌∷◌, ◌++◌, length, drop, get_or, Some, None, refl, sym, ap, subst, ◌∙◌, arith}
use Rattle.std.specs.Prelude.{slice_get, slice_set}
use Rattle.std.proofs.lemmas.Option.{slice_get-get_or, slice_get_within}
use Rattle.std.proofs.lemmas.Bool.{cases_lt}
use Rattle.std.proofs.lemmas.List.{length-set}
use Rattle.std.proofs.Math.Numerals.{add-one}
use Rattle.cb_model.specs.Bits.{Parts, none, yes_here, no_here, Each}
use Rattle.cb_wake.specs.Waits.{IsScanned, IsTaken, NoneReady, Waits, numbers_of, waiting, waiting_from, without}
use Rattle.cb_wake.specs.Moments.{KeepsMoments}
use Rattle.cb_wake.proofs.Back.{keeps-self, keeps-then, keeps-taken}

module _ (P : ℕ → Type 0) (xs : List Bool) where
  pub scan-start : IsScanned P xs 0
  scan-start = record { none = λ j l. absurd (omega arith) }

  pub scan-more : (k : ℕ) → IsScanned P xs k → ((slice_get xs k ≡ Some true) → P k → ⊥) → IsScanned P xs (k + 1)
  scan-more k h here = record { none = λ j l s p. more j l s p }
    where
      more : (j : ℕ) → j < k + 1 → slice_get xs j ≡ Some true → P j → ⊥
      more j l s p = elim (cases_lt j k) [
        | inl less ↦ h.none j less s p
        | inr not_less ↦ let e : j ≡ k = omega arith in here (subst (λ (x : ℕ). slice_get xs x ≡ Some true) e s) (subst P e p)
      ]

  pub scan-off : (k : ℕ) → k < length xs → get_or xs k false ≡ false → slice_get xs k ≡ Some true → ⊥
  scan-off k l e s = let g = slice_get-get_or xs k false l in absurd (cc)

  pub scan-whole : (k : ℕ) → length xs ≤ k → IsScanned P xs k → NoneReady P xs
  scan-whole k l h = λ j s p. let w = slice_get_within xs j true s in h.none j (omega arith) s p

pub scan-on : (xs : List Bool) (k : ℕ) → k < length xs → get_or xs k false ≡ true → slice_get xs k ≡ Some true
scan-on xs k l e = let g = slice_get-get_or xs k false l in cc

pub not-both : {b : Bool} → b ≡ true → b ≡ false → ⊥
not-both h k = absurd (cc)

-- ---- all ready goals, one after another

-- the goals of the first list that wait no longer in the second are these, and were ready
pub data Took (P : ℕ → Type 0) : ℕ → List Bool → List Bool → List ℕ → Type 0 where
  ended : {k : ℕ} → Took P k [] [] []
  taken : {k : ℕ} {xs ys : List Bool} {ws : List ℕ} → P k → Took P (suc k) xs ys ws → Took P k (true ∷ xs) (false ∷ ys) (k ∷ ws)
  left : {k : ℕ} {x : Bool} {xs ys : List Bool} {ws : List ℕ} → Took P (suc k) xs ys ws → Took P k (x ∷ xs) (x ∷ ys) ws

pub took-start : (P : ℕ → Type 0) (k : ℕ) (xs : List Bool) → Took P k xs xs []
took-start P k [] = ended
took-start P k (x ∷ xs) = left (took-start P (suc k) xs)

each-weaker : (P Q : ℕ → Type 0) (ws : List ℕ) → ((w : ℕ) → P w → Q w) → Each P ws → Each Q ws
each-weaker P Q [] f h = tt
each-weaker P Q (w ∷ ws) f h = (f w h.0, each-weaker P Q ws f h.1)

took-least : {P : ℕ → Type 0} {k : ℕ} {xs ys : List Bool} {ws : List ℕ} → Took P k xs ys ws → Each (λ w. k ≤ w) ws
took-least ended = tt
took-least {k = k} {ws = w ∷ ws} (taken p t) = (omega arith, each-weaker (λ w. suc k ≤ w) (λ w. k ≤ w) _ (λ w h. omega arith) (took-least t))
took-least {k = k} {ws = ws} (left t) = each-weaker (λ w. suc k ≤ w) (λ w. k ≤ w) _ (λ w h. omega arith) (took-least t)

-- none is above the bound that all are below
empty-between : (m : ℕ) (ws : List ℕ) → Each (λ w. suc m ≤ w) ws → Each (λ w. w < m) ws → ws ≡ []
empty-between m [] h k = refl
empty-between m (w ∷ ws) h k = let a = h.0 in let b = k.0 in absurd (omega arith)

pub took-more : {P : ℕ → Type 0} {m : ℕ} {xs ys : List Bool} {ws : List ℕ} (i n : ℕ) → Took P m xs ys ws → n ≡ m + i → slice_get ys i ≡ Some true → P n → Each (λ w. w < n) ws →
    Took P m xs (slice_set ys i false) (ws ++ n ∷ [])
took-more i n ended e s p b = absurd (cc)
took-more zero n (taken q t) e s p b = absurd (cc)
took-more (suc i) n (taken q t) e s p b = taken q (took-more i n t (omega arith) s p b.1)
took-more {P = P} {m = m} {xs = x ∷ xs} {ys = y ∷ ys} {ws = ws} zero n (left t) e s p b =
    let h : n ≡ m = omega arith in
    let none_yet : ws ≡ [] = empty-between m ws (took-least t) (subst (λ (z : ℕ). Each (λ w. w < z) ws) h b) in
    let on : x ≡ true = cc in
    let r : Took P m (true ∷ xs) (false ∷ ys) (m ∷ []) = taken (subst P h p) (subst (λ (vs : List ℕ). Took P (suc m) xs ys vs) none_yet t) in
    let r2 : Took P m (x ∷ xs) (false ∷ ys) (m ∷ []) = subst (λ (z : Bool). Took P m (z ∷ xs) (false ∷ ys) (m ∷ [])) (sym on) r in
    let r3 : Took P m (x ∷ xs) (false ∷ ys) (n ∷ []) = subst (λ (z : ℕ). Took P m (x ∷ xs) (false ∷ ys) (z ∷ [])) (sym h) r2 in
    subst (λ (vs : List ℕ). Took P m (x ∷ xs) (false ∷ ys) (vs ++ n ∷ [])) (sym none_yet) r3
took-more (suc i) n (left t) e s p b = left (took-more i n t (omega arith) s p b)

pub took-parts : {P : ℕ → Type 0} {m : ℕ} {xs ys : List Bool} {ws : List ℕ} → Took P m xs ys ws → ((i n : ℕ) → n ≡ m + i → slice_get ys i ≡ Some true → P n → ⊥) →
    Parts P (numbers_of m xs) ws (numbers_of m ys)
took-parts ended h = none
took-parts (taken p t) h = yes_here p (took-parts t (λ i n e s q. h (suc i) n (omega arith) s q))
took-parts {m = m} {xs = true ∷ xs} (left t) h = no_here (λ q. h 0 m (omega arith) refl q) (took-parts t (λ i n e s q. h (suc i) n (omega arith) s q))
took-parts {m = m} {xs = false ∷ xs} (left t) h = took-parts t (λ i n e s q. h (suc i) n (omega arith) s q)

-- what still waits after one was taken
still-after : (ys : List Bool) (k j : ℕ) → slice_get (slice_set ys k false) j ≡ Some true → (slice_get ys j ≡ Some true) × (j ≡ k → ⊥)
still-after [] k j s = absurd (cc)
still-after (y ∷ ys) zero zero s = absurd (cc)
still-after (y ∷ ys) zero (suc j) s = (s, λ e. absurd (omega arith))
still-after (y ∷ ys) (suc k) zero s = (s, λ e. absurd (omega arith))
still-after (y ∷ ys) (suc k) (suc j) s = let r = still-after ys k j s in (r.0, λ e. r.1 (omega arith))

each-last : (P : ℕ → Type 0) (ws : List ℕ) (k : ℕ) → Each P ws → P k → Each P (ws ++ k ∷ [])
each-last P [] k h p = (p, tt)
each-last P (w ∷ ws) k h p = (h.0, each-last P ws k h.1 p)

-- how far it has come
pub record IsTaking (P : ℕ → Type 0) (xs ys : List Bool) (ws : List ℕ) : Type 0 where
  pub took : Took P 0 xs ys ws
  pub after : (j : ℕ) → slice_get ys j ≡ Some true → P j → Each (λ w. w < j) ws

pub taking-start : (P : ℕ → Type 0) (xs : List Bool) (ws : List ℕ) → ws ≡ [] → IsTaking P xs xs ws
taking-start P xs ws e = record {
  took = subst (λ (vs : List ℕ). Took P 0 xs xs vs) (sym e) (took-start P 0 xs);
  after = λ j s p. subst (λ (vs : List ℕ). Each (λ w. w < j) vs) (sym e) tt;
}

pub taking-more : (P : ℕ → Type 0) (xs ys : List Bool) (ws : List ℕ) (k : ℕ) → IsTaking P xs ys ws → slice_get ys k ≡ Some true → P k → ((j : ℕ) → j < k → slice_get ys j ≡ Some true → P j → ⊥) →
    IsTaking P xs (slice_set ys k false) (ws ++ k ∷ [])
taking-more P xs ys ws k h s p least = record {
  took = took-more k k h.took (omega arith) s p (h.after k s p);
  after = λ j t q. later j (still-after ys k j t) q;
}
  where
    later : (j : ℕ) → (slice_get ys j ≡ Some true) × (j ≡ k → ⊥) → P j → Each (λ w. w < j) (ws ++ k ∷ [])
    later j t q = elim (cases_lt j k) [
      | inl less ↦ absurd (least j less t.0 q)
      | inr not_less ↦ each-last (λ w. w < j) ws k (h.after j t.0 q) (elim (cases_lt k j) [ inl more_than ↦ more_than | inr not_more ↦ absurd (let e : j ≡ k = omega arith in t.1 e) ])
    ]

pub taking-whole : (P : ℕ → Type 0) (xs ys : List Bool) (ws : List ℕ) → IsTaking P xs ys ws → NoneReady P ys → Parts P (numbers_of 0 xs) ws (numbers_of 0 ys)
taking-whole P xs ys ws h n = took-parts h.took (λ i k e s q. let f : k ≡ i = omega arith in n i s (subst P f q))

-- one fewer waits
pub fewer : (m k : ℕ) (ys : List Bool) → slice_get ys k ≡ Some true → length (numbers_of m (slice_set ys k false)) < length (numbers_of m ys)
fewer m k [] s = absurd (cc)
fewer m zero (true ∷ ys) s = omega arith
fewer m zero (false ∷ ys) s = absurd (cc)
fewer m (suc k) (true ∷ ys) s = let h = fewer (suc m) k ys s in omega arith
fewer m (suc k) (false ∷ ys) s = fewer (suc m) k ys s

-- ---- the waiting goals one by one

pub next-is : (k n m : ℕ) (xs : List Bool) → n ≡ k + 1 → slice_get xs k ≡ Some true → numbers_of m (drop k xs) ≡ m ∷ numbers_of (m + 1) (drop n xs)
next-is k zero m xs e s = absurd (omega arith)
next-is k (suc n) m [] e s = absurd (cc)
next-is zero (suc n) m (true ∷ xs) e s = let h : n ≡ 0 = omega arith in subst (λ z. numbers_of m (true ∷ xs) ≡ m ∷ numbers_of (m + 1) (drop z xs)) (sym h) (ap (λ z. m ∷ numbers_of z xs) (sym (add-one m)))
next-is zero (suc n) m (false ∷ xs) e s = absurd (cc)
next-is (suc k) (suc n) m (x ∷ xs) e s = next-is k n m xs (omega arith) s

pub passed-is : (k n m : ℕ) (xs : List Bool) → n ≡ k + 1 → k < length xs → get_or xs k false ≡ false → numbers_of m (drop k xs) ≡ numbers_of (m + 1) (drop n xs)
passed-is k zero m xs e l s = absurd (omega arith)
passed-is k (suc n) m [] e l s = absurd (omega arith)
passed-is zero (suc n) m (false ∷ xs) e l s = let h : n ≡ 0 = omega arith in subst (λ z. numbers_of m (false ∷ xs) ≡ numbers_of (m + 1) (drop z xs)) (sym h) (ap (λ z. numbers_of z xs) (sym (add-one m)))
passed-is zero (suc n) m (true ∷ xs) e l s = absurd (cc)
passed-is (suc k) (suc n) m (x ∷ xs) e l s = passed-is k n m xs (omega arith) (omega arith) s

-- ---- how many tests a scan makes

-- those from this number on are this one and those behind it
pub one-more : (k : ℕ) (xs : List Bool) → slice_get xs k ≡ Some true → length (waiting_from k xs) ≡ suc (length (waiting_from (k + 1) xs))
one-more k xs s = ap length (next-is k (k + 1) k xs refl s)

pub none-more : (k : ℕ) (xs : List Bool) → k < length xs → get_or xs k false ≡ false → length (waiting_from k xs) ≡ length (waiting_from (k + 1) xs)
none-more k xs l s = ap length (passed-is k (k + 1) k xs refl l s)

drop-set : (k n : ℕ) (xs : List Bool) → k < n → drop n (slice_set xs k false) ≡ drop n xs
drop-set k zero xs l = absurd (omega arith)
drop-set k (suc n) [] l = refl
drop-set zero (suc n) (x ∷ xs) l = refl
drop-set (suc k) (suc n) (x ∷ xs) l = drop-set k n xs (omega arith)

-- behind the goal that was taken all is as before
pub behind-taken : (Q : ℕ → Type 0) (now new : Waits) (k : ℕ) → IsTaken Q now new (Some k) → length (waiting_from (k + 1) new.still) ≡ length (waiting_from (k + 1) now.still)
behind-taken Q now new k t =
    ap (λ (u : Waits). length (waiting_from (k + 1) u.still)) t.0 ∙ ap (λ (ys : List Bool). length (numbers_of (k + 1) ys)) (drop-set k (k + 1) now.still (omega arith))

-- ---- all ready goals of the waiting ones

pub record AreTaking (P : ℕ → Type 0) (old now : Waits) (ws : List ℕ) : Type 0 where
  pub taking : IsTaking P old.still now.still ws
  pub parked : length now.still ≡ length old.still
  pub keeps : KeepsMoments old now

pub are-start : (P : ℕ → Type 0) (w : Waits) (ws : List ℕ) → ws ≡ [] → AreTaking P w w ws
are-start P w ws e = record { taking = taking-start P w.still ws e; parked = refl; keeps = keeps-self w }

-- one goal more was taken, by a test that says the same
pub are-more : (P Q : ℕ → Type 0) (old now new : Waits) (ws vs : List ℕ) (k : ℕ) → ((j : ℕ) → Q j → P j) → ((j : ℕ) → P j → Q j) → AreTaking P old now ws → IsTaken Q now new (Some k) → vs ≡ ws ++ k ∷ [] → AreTaking P old new vs
are-more P Q old now new ws vs k f g h t e = subst (λ us. AreTaking P old new us) (sym e) (subst (λ u. AreTaking P old u (ws ++ k ∷ [])) (sym t.0) (record {
  taking = taking-more P old.still now.still ws k h.taking t.1.0 (f k t.1.1) (λ j l s p. t.1.2 j l s (g j p));
  parked = length-set now.still k false ∙ h.parked;
  keeps = keeps-then old now (without k now) h.keeps (keeps-taken now k t.1.0);
}))

pub are-whole : (P Q : ℕ → Type 0) (old now new : Waits) (ws : List ℕ) → ((j : ℕ) → P j → Q j) → AreTaking P old now ws → IsTaken Q now new None → Parts P (waiting old) ws (waiting new)
are-whole P Q old now new ws g h t = subst (λ u. Parts P (waiting old) ws (waiting u)) (sym t.0) (taking-whole P old.still now.still ws h.taking (λ j s p. t.1 j s (g j p)))

pub are-fewer : (Q : ℕ → Type 0) (now new : Waits) (k : ℕ) → IsTaken Q now new (Some k) → length (waiting new) < length (waiting now)
are-fewer Q now new k t = subst (λ (u : Waits). length (waiting u) < length (waiting now)) (sym t.0) (fewer 0 k now.still t.1.0)

-- ---- where the next scan begins

-- a test that says the same
pub scan-same : (P Q : ℕ → Type 0) (xs : List Bool) (k : ℕ) → ((j : ℕ) → Q j → P j) → IsScanned P xs k → IsScanned Q xs k
scan-same P Q xs k f h = record { none = λ j l s q. h.none j l s (f j q) }

-- behind the goal that was taken
pub scan-taken : (P Q : ℕ → Type 0) (now new : Waits) (k : ℕ) → ((j : ℕ) → P j → Q j) → IsTaken Q now new (Some k) → IsScanned P new.still (k + 1)
scan-taken P Q now new k f t = subst (λ (u : Waits). IsScanned P u.still (k + 1)) (sym t.0) (record { none = λ j l s p. before j l (still-after now.still k j s) p })
  where
    before : (j : ℕ) → j < k + 1 → (slice_get now.still j ≡ Some true) × (j ≡ k → ⊥) → P j → ⊥
    before j l s p = elim (cases_lt j k) [
      | inl less ↦ t.1.2 j less s.0 (f j p)
      | inr not_less ↦ let e : j ≡ k = omega arith in s.1 e
    ]
