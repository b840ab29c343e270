-- What can be decided.
use Rattle.std.proofs.Common.{◌≡◌, ◌⊎◌, inl, inr, ◌↔◌, ℕ, zero, suc, Bool, true, false, List, [], ◌∷◌, length, refl, sym, ◌∙◌, ap, arith, take, ℤ, pos, negsuc}
use Rattle.std.proofs.lemmas.Bool.{cases_eq}
use Rattle.cb_model.specs.declared.Circuit.{Circuit}
use Rattle.cb_model.specs.Bits.{Each}
use Rattle.cb_model.specs.Circuits.{GateHolds, Consistent}

-- the fact holds or not
abbrev pub Decision : Type 0 → Type 0
Decision P = P ⊎ (P → ⊥)

pub both : {P Q : Type 0} → Decision P → Decision Q → Decision (P × Q)
both (inl p) (inl q) = inl (p, q)
both (inr n) d = inr (λ h. n h.0)
both (inl p) (inr n) = inr (λ h. n h.1)

pub equal_to : {P Q : Type 0} → (P ↔ Q) → Decision Q → Decision P
equal_to e (inl q) = inl (e.1 q)
equal_to e (inr n) = inr (λ p. n (e.0 p))

pub negated : {P : Type 0} → Decision P → Decision (P → ⊥)
negated (inl p) = inr (λ n. n p)
negated (inr n) = inl n

pub each : {A : Type 0} (P : A → Type 0) → ((x : A) → Decision (P x)) → (xs : List A) → Decision (Each P xs)
each P d [] = inl tt
each P d (x ∷ xs) = both (d x) (each P d xs)

pub same_bit : (x y : Bool) → Decision (x ≡ y)
same_bit true true = inl refl
same_bit true false = inr (λ e. cc)
same_bit false true = inr (λ e. cc)
same_bit false false = inl refl

pub same_bits : (xs ys : List Bool) → Decision (xs ≡ ys)
same_bits [] [] = inl refl
same_bits [] (y ∷ ys) = inr (λ e. cc)
same_bits (x ∷ xs) [] = inr (λ e. cc)
same_bits (x ∷ xs) (y ∷ ys) = equal_to ((λ e. (ap (first_or x) e, ap rest e)), λ e. ap (λ z. z ∷ xs) e.0 ∙ ap (λ zs. y ∷ zs) e.1) (both (same_bit x y) (same_bits xs ys))
  where
    first_or : Bool → List Bool → Bool
    first_or x [] = x
    first_or x (y ∷ ys) = y

    rest : List Bool → List Bool
    rest [] = []
    rest (y ∷ ys) = ys

-- some list of n bits has the property
abbrev pub Found : ℕ → (List Bool → Type 0) → Type 0
Found n P = (xs : List Bool) × ((length xs ≡ n) × P xs)

pub search_bits : (n : ℕ) (P : List Bool → Type 0) → ((xs : List Bool) → Decision (P xs)) → Decision (Found n P)
search_bits zero P d = equal_to ((λ f. empty f.0 f.1.0 f.1.1), λ p. ([], (refl, p))) (d [])
  where
    empty : (xs : List Bool) → length xs ≡ 0 → P xs → P []
    empty [] e p = p
    empty (x ∷ xs) e p = absurd (omega arith)
search_bits (suc n) P d = step (search_bits n (λ xs. P (false ∷ xs)) (λ xs. d (false ∷ xs))) (search_bits n (λ xs. P (true ∷ xs)) (λ xs. d (true ∷ xs)))
  where
    step : Decision (Found n (λ xs. P (false ∷ xs))) → Decision (Found n (λ xs. P (true ∷ xs))) → Decision (Found (suc n) P)
    step (inl f) d = inl (false ∷ f.0, (ap suc f.1.0, f.1.1))
    step (inr m) (inl f) = inl (true ∷ f.0, (ap suc f.1.0, f.1.1))
    step (inr m) (inr k) = inr (λ f. never f.0 f.1.0 f.1.1)
      where
        never : (xs : List Bool) → length xs ≡ suc n → P xs → ⊥
        never [] e p = absurd (omega arith)
        never (false ∷ xs) e p = m (xs, ((omega arith), p))
        never (true ∷ xs) e p = k (xs, ((omega arith), p))

-- a valuation of the nets that has the right number is consistent or not
pub consistent : (c : Circuit) (input v : List Bool) → length v ≡ c.nets → Decision (Consistent c input v)
consistent c input v e =
    equal_to ((λ h. (h.inputs, h.gates)), λ h. record { every_net = e; inputs = h.0; gates = h.1 })
    (both (same_bits (take c.inputs v) input) (each (GateHolds v) (λ g. same_bit _ _) c.gates))

pub implied : {P Q : Type 0} → Decision P → Decision Q → Decision (P → Q)
implied (inr n) d = inl (λ p. absurd (n p))
implied (inl p) (inl q) = inl (λ x. q)
implied (inl p) (inr n) = inr (λ f. n (f p))

-- each list of n bits has the property
pub every_row : (n : ℕ) (P : List Bool → Type 0) → ((xs : List Bool) → Decision (P xs)) → Decision ((xs : List Bool) → length xs ≡ n → P xs)
every_row n P d = step (search_bits n (λ xs. P xs → ⊥) (λ xs. negated (d xs)))
  where
    step : Decision (Found n (λ xs. P xs → ⊥)) → Decision ((xs : List Bool) → length xs ≡ n → P xs)
    step (inl f) = inr (λ h. f.1.1 (h f.0 f.1.0))
    step (inr never) = inl (λ xs e. at xs e (d xs))
      where
        at : (xs : List Bool) → length xs ≡ n → Decision (P xs) → P xs
        at xs e (inl p) = p
        at xs e (inr m) = absurd (never (xs, (e, m)))

-- ---- integers

pos_in : ℤ → ℕ
pos_in (pos n) = n
pos_in (negsuc n) = n

is_pos : ℤ → Bool
is_pos (pos n) = true
is_pos (negsuc n) = false

pub one_int : (i j : ℤ) → (i ≡ j) ⊎ (i ≡ j → ⊥)
unfolding pos_in is_pos
one_int (pos n) (pos m) = elim (cases_eq n m) [ inl e ↦ inl (ap pos e) | inr f ↦ inr (λ e. f (ap pos_in e)) ]
one_int (negsuc n) (negsuc m) = elim (cases_eq n m) [ inl e ↦ inl (ap negsuc e) | inr f ↦ inr (λ e. f (ap pos_in e)) ]
one_int (pos n) (negsuc m) = inr (λ e. let x : true ≡ false = ap is_pos e in cc)
one_int (negsuc n) (pos m) = inr (λ e. let x : true ≡ false = ap is_pos (sym e) in cc)
