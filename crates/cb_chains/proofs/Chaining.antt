-- One clause more at the front of those that are chained.
use Rattle.std.specs.Prelude.{slice_set}
use Rattle.std.proofs.Common.{◌≡◌, ◌≢◌, ℕ, zero, suc, ◌+◌, ◌-◌, ◌<◌, ◌≤◌, Bool, true, false, ◌⊎◌, inl, inr, List, [], ◌∷◌, drop, length, get_or, Option, Some, None, slice_get, nat_eq, refl, sym, ◌∙◌, ap, subst, arith, drop-cons, length-set, get_or-set_same, get_or-set_other}
use Rattle.std.specs.Bool.{if◌then◌else◌}
use Rattle.std.proofs.lemmas.Bool.Decides.{nat_tests}
use Rattle.cb_model.specs.declared.Clause.{Clause}
use Rattle.cb_model.specs.Program.{first_from}
use Rattle.cb_chains.specs.Chained.{Chained}

get_here : (cs : List Clause) (i : ℕ) (c x : Clause) → c ≡ get_or cs i c → slice_get cs i ≡ Some x → x ≡ c
get_here [] zero c x at h = absurd (cc)
get_here [] (suc i) c x at h = absurd (cc)
get_here (y ∷ cs) zero c x at h = let e : y ≡ x = cc in sym e ∙ sym at
get_here (y ∷ cs) (suc i) c x at h = get_here cs i c x at h

module _ (cs : List Clause) (count i : ℕ) (F N F' N' : List (Option ℕ)) (c : Clause) (h : i < length cs) (at : c ≡ get_or cs i c) (p : c.pred < count)
    (f : F' ≡ slice_set F c.pred (Some i)) (n : N' ≡ slice_set N i (get_or F c.pred None)) (so : Chained cs count (suc i) F N) where
  opened : (q : ℕ) → first_from q i (drop i cs) ≡ (if nat_eq c.pred q then Some i else first_from q (suc i) (drop (suc i) cs))
  opened q =
      ap (first_from q i) (drop-cons cs i c h) ∙ ap (λ (x : Clause). if nat_eq x.pred q then Some i else first_from q (suc i) (drop (suc i) cs)) (sym at)

  first_on : (q : ℕ) → q < count → (b : Bool) → nat_eq c.pred q ≡ b → get_or F' q None ≡ (if b then Some i else first_from q (suc i) (drop (suc i) cs))
  first_on q k true e =
      let same : q ≡ c.pred = grind (arith, nat_tests) in
      let within : c.pred < length F = omega (arith, so.predicates) in
      ap (λ (l : List (Option ℕ)). get_or l q None) f ∙ ap (λ j. get_or (slice_set F c.pred (Some i)) j None) same ∙ get_or-set_same F c.pred (Some i) None within
  first_on q k false e =
      let other : q ≢ c.pred = grind (arith, nat_tests) in
      ap (λ (l : List (Option ℕ)). get_or l q None) f ∙ get_or-set_other F c.pred q (Some i) None other ∙ so.first q k

  next_on : (m : ℕ) (x : Clause) → (m < i → ⊥) → slice_get cs m ≡ Some x → (b : Bool) → nat_eq m i ≡ b → get_or N' m None ≡ first_from x.pred (suc m) (drop (suc m) cs)
  next_on m x k g true e =
      let same : m ≡ i = grind (arith, nat_tests) in
      let here : x ≡ c = get_here cs i c x at (ap (slice_get cs) (sym same) ∙ g) in
      let within : i < length N = omega (arith, so.all) in
      ap (λ (l : List (Option ℕ)). get_or l m None) n ∙ ap (λ j. get_or (slice_set N i (get_or F c.pred None)) j None) same
      ∙ get_or-set_same N i (get_or F c.pred None) None within ∙ so.first c.pred p
      ∙ ap (λ (y : Clause). first_from y.pred (suc i) (drop (suc i) cs)) (sym here) ∙ ap (λ j. first_from x.pred (suc j) (drop (suc j) cs)) (sym same)
  next_on m x k g false e =
      let other : m ≢ i = grind (arith, nat_tests) in
      let later : m < suc i → ⊥ = λ r. k (omega arith) in
      ap (λ (l : List (Option ℕ)). get_or l m None) n ∙ get_or-set_other N i m (get_or F c.pred None) None other ∙ so.next m x later g

  pub chained_on : Chained cs count i F' N'
  chained_on = record {
    predicates = ap length f ∙ length-set F c.pred (Some i) ∙ so.predicates;
    all = ap length n ∙ length-set N i (get_or F c.pred None) ∙ so.all;
    first = λ q k. first_on q k (nat_eq c.pred q) refl ∙ sym (opened q);
    next = λ m x k g. next_on m x k g (nat_eq m i) refl;
  }

pub chained_before : (cs : List Clause) (count at i : ℕ) (F N F' N' : List (Option ℕ)) (c : Clause) → 0 < at → i ≡ at - 1 → at ≤ length cs → c ≡ get_or cs i c → c.pred < count →
    F' ≡ slice_set F c.pred (Some i) → N' ≡ slice_set N i (get_or F c.pred None) → Chained cs count at F N → Chained cs count i F' N'
chained_before cs count at i F N F' N' c z e w g p f n so =
    let s : at ≡ suc i = omega arith in
    chained_on cs count i F N F' N' c (omega arith) g p f n (subst (λ k. Chained cs count k F N) s so)
