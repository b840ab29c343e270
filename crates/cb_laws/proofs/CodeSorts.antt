-- Whether a value has a sort can be decided, and of a form's value it does not depend on the values of the unknowns.
use Rattle.std.proofs.Common.{◌≡◌, ◌⊎◌, inl, inr, ℕ, Bool, List, [], ◌∷◌, refl, subst, ℤ}
use Rattle.std.specs.Prelude.{FitsSigned, get_or}
use Rattle.std.specs.Int.{w64, int_wrap}
use Rattle.std.proofs.lemmas.Int.{SFits-int_wrap, int_wrap_fits}
use Rattle.cb_model.specs.declared.Sort.{Sort}
use Rattle.cb_model.specs.declared.Sort.TheVariants as sort
use Rattle.cb_model.specs.Values.{Sorts}
use Rattle.cb_laws.proofs.Codes.{BusEnd, ArgumentsEnd, Number, Called, Unknown, ABus, ATerm, Code, Truth, Marked, Join, Form, Open, Formula, Fixed, Both, Truths, Choice, value, IsBusCode, CodeFits, CodesFit, AreFit}
use Rattle.cb_laws.proofs.Search.{one_int}

-- ---- decided

int_fits : (z : ℤ) → FitsSigned w64 z ⊎ (FitsSigned w64 z → ⊥)
int_fits z = elim (one_int (int_wrap w64 z) z) [
  | inl e ↦ inl (subst (FitsSigned w64) e (SFits-int_wrap w64 z))
  | inr n ↦ inr (λ f. n (int_wrap_fits w64 z f))
]

bus_code : (c : Code) → IsBusCode c ⊎ (IsBusCode c → ⊥)
bus_code (Truth x) = inr (λ h. h)
bus_code (Marked BusEnd) = inl tt
bus_code (Marked ArgumentsEnd) = inr (λ h. h)
bus_code (Marked (Number z)) = inr (λ h. h)
bus_code (Marked (Called n)) = inr (λ h. h)
bus_code (Join (Truth x) c) = bus_code c
bus_code (Join (Marked m) c) = inr (λ h. h)
bus_code (Join (Join c d) e) = inr (λ h. h)

mutual
  pub code_fits : (t : Sorts) (s : Sort) (c : Code) → CodeFits t s c ⊎ (CodeFits t s c → ⊥)
  code_fits t sort.Bool (Truth x) = inl tt
  code_fits t sort.Bool (Marked m) = inr (λ h. h)
  code_fits t sort.Bool (Join c d) = inr (λ h. h)
  code_fits t sort.Bus c = bus_code c
  code_fits t sort.Term (Truth x) = inr (λ h. h)
  code_fits t sort.Term (Marked BusEnd) = inr (λ h. h)
  code_fits t sort.Term (Marked ArgumentsEnd) = inr (λ h. h)
  code_fits t sort.Term (Marked (Number z)) = int_fits z
  code_fits t sort.Term (Marked (Called n)) = inr (λ h. h)
  code_fits t sort.Term (Join (Truth x) d) = inr (λ h. h)
  code_fits t sort.Term (Join (Marked BusEnd) d) = inr (λ h. h)
  code_fits t sort.Term (Join (Marked ArgumentsEnd) d) = inr (λ h. h)
  code_fits t sort.Term (Join (Marked (Number z)) d) = inr (λ h. h)
  code_fits t sort.Term (Join (Marked (Called n)) d) = codes_fit t (get_or t n []) d
  code_fits t sort.Term (Join (Join c e) d) = inr (λ h. h)

  pub codes_fit : (t : Sorts) (ss : List Sort) (c : Code) → CodesFit t ss c ⊎ (CodesFit t ss c → ⊥)
  codes_fit t [] (Truth x) = inr (λ h. h)
  codes_fit t [] (Marked BusEnd) = inr (λ h. h)
  codes_fit t [] (Marked ArgumentsEnd) = inl tt
  codes_fit t [] (Marked (Number z)) = inr (λ h. h)
  codes_fit t [] (Marked (Called n)) = inr (λ h. h)
  codes_fit t [] (Join c d) = inr (λ h. h)
  codes_fit t (s ∷ ss) (Truth x) = inr (λ h. h)
  codes_fit t (s ∷ ss) (Marked m) = inr (λ h. h)
  codes_fit t (s ∷ ss) (Join c d) = both (code_fits t s c) (codes_fit t ss d)
    where
      both : CodeFits t s c ⊎ (CodeFits t s c → ⊥) → CodesFit t ss d ⊎ (CodesFit t ss d → ⊥) → CodesFit t (s ∷ ss) (Join c d) ⊎ (CodesFit t (s ∷ ss) (Join c d) → ⊥)
      both (inl h) (inl k) = inl (h, k)
      both (inr h) k = inr (λ x. h x.0)
      both (inl h) (inr k) = inr (λ x. k x.1)

-- ---- a value has one sort

no_bus_term : (t : Sorts) (c : Code) → IsBusCode c → CodeFits t sort.Term c → ⊥
no_bus_term t (Truth x) h k = h
no_bus_term t (Marked BusEnd) h k = k
no_bus_term t (Marked ArgumentsEnd) h k = h
no_bus_term t (Marked (Number z)) h k = h
no_bus_term t (Marked (Called n)) h k = h
no_bus_term t (Join (Truth x) d) h k = k
no_bus_term t (Join (Marked m) d) h k = h
no_bus_term t (Join (Join c e) d) h k = h

no_arguments_bus : (t : Sorts) (ss : List Sort) (c : Code) → IsBusCode c → CodesFit t ss c → ⊥
no_arguments_bus t ss (Truth x) h k = h
no_arguments_bus t [] (Marked BusEnd) h k = k
no_arguments_bus t (s ∷ ss) (Marked BusEnd) h k = k
no_arguments_bus t ss (Marked ArgumentsEnd) h k = h
no_arguments_bus t ss (Marked (Number z)) h k = h
no_arguments_bus t ss (Marked (Called n)) h k = h
no_arguments_bus t [] (Join (Truth x) d) h k = k
no_arguments_bus t (s ∷ ss) (Join (Truth x) d) h k = no_arguments_bus t ss d h k.1
no_arguments_bus t ss (Join (Marked m) d) h k = h
no_arguments_bus t ss (Join (Join c e) d) h k = h

no_arguments_term : (t : Sorts) (ss : List Sort) (c : Code) → CodeFits t sort.Term c → CodesFit t ss c → ⊥
no_arguments_term t ss (Truth x) h k = h
no_arguments_term t ss (Marked BusEnd) h k = h
no_arguments_term t ss (Marked ArgumentsEnd) h k = h
no_arguments_term t [] (Marked (Number z)) h k = k
no_arguments_term t (s ∷ ss) (Marked (Number z)) h k = k
no_arguments_term t ss (Marked (Called n)) h k = h
no_arguments_term t ss (Join (Truth x) d) h k = h
no_arguments_term t ss (Join (Marked BusEnd) d) h k = h
no_arguments_term t ss (Join (Marked ArgumentsEnd) d) h k = h
no_arguments_term t ss (Join (Marked (Number z)) d) h k = h
no_arguments_term t [] (Join (Marked (Called n)) d) h k = k
no_arguments_term t (sort.Bool ∷ ss) (Join (Marked (Called n)) d) h k = k.0
no_arguments_term t (sort.Bus ∷ ss) (Join (Marked (Called n)) d) h k = k.0
no_arguments_term t (sort.Term ∷ ss) (Join (Marked (Called n)) d) h k = k.0
no_arguments_term t ss (Join (Join c e) d) h k = h

-- ---- the sort of a form's value does not depend on the unknowns

module _ (t : Sorts) (f f' : Truths) (b b' : Choice) (hb : AreFit t b) (hb' : AreFit t b') where
  -- an unknown's value is no bit and no mark
  no_bit : (x : Unknown) (y : Bool) → b x ≡ Truth y → ⊥
  no_bit (ABus n) y e = subst IsBusCode e (hb (ABus n))
  no_bit (ATerm n) y e = subst (CodeFits t sort.Term) e (hb (ATerm n))

  no_name : (x : Unknown) (n : ℕ) → b x ≡ Marked (Called n) → ⊥
  no_name (ABus k) n e = subst IsBusCode e (hb (ABus k))
  no_name (ATerm k) n e = subst (CodeFits t sort.Term) e (hb (ATerm k))

  bus_stays : (u : Form) → IsBusCode (value f b u) → IsBusCode (value f' b' u)
  bus_stays (Open (ABus n)) h = hb' (ABus n)
  bus_stays (Open (ATerm n)) h = absurd (no_bus_term t (b (ATerm n)) h (hb (ATerm n)))
  bus_stays (Formula e) h = absurd h
  bus_stays (Fixed m) h = h
  bus_stays (Both (Open x) u) h = from (b x) refl h
    where
      from : (c : Code) → b x ≡ c → IsBusCode (Join c (value f b u)) → IsBusCode (Join (b' x) (value f' b' u))
      from (Truth y) e k = absurd (no_bit x y e)
      from (Marked m) e k = absurd k
      from (Join c d) e k = absurd k
  bus_stays (Both (Formula e) u) h = bus_stays u h
  bus_stays (Both (Fixed m) u) h = absurd h
  bus_stays (Both (Both s v) u) h = absurd h

  mutual
    pub stays_fit : (s : Sort) (u : Form) → CodeFits t s (value f b u) → CodeFits t s (value f' b' u)
    stays_fit sort.Bool (Open x) h = from (b x) refl h
      where
        from : (c : Code) → b x ≡ c → CodeFits t sort.Bool c → CodeFits t sort.Bool (b' x)
        from (Truth y) e k = absurd (no_bit x y e)
        from (Marked m) e k = absurd k
        from (Join c d) e k = absurd k
    stays_fit sort.Bool (Formula e) h = tt
    stays_fit sort.Bool (Fixed m) h = absurd h
    stays_fit sort.Bool (Both s u) h = absurd h
    stays_fit sort.Bus u h = bus_stays u h
    stays_fit sort.Term (Open (ABus n)) h = absurd (no_bus_term t (b (ABus n)) (hb (ABus n)) h)
    stays_fit sort.Term (Open (ATerm n)) h = hb' (ATerm n)
    stays_fit sort.Term (Formula e) h = absurd h
    stays_fit sort.Term (Fixed m) h = h
    stays_fit sort.Term (Both (Open x) u) h = from (b x) refl h
      where
        from : (c : Code) → b x ≡ c → CodeFits t sort.Term (Join c (value f b u)) → CodeFits t sort.Term (Join (b' x) (value f' b' u))
        from (Truth y) e k = absurd k
        from (Marked (Called n)) e k = absurd (no_name x n e)
        from (Marked BusEnd) e k = absurd k
        from (Marked ArgumentsEnd) e k = absurd k
        from (Marked (Number z)) e k = absurd k
        from (Join c d) e k = absurd k
    stays_fit sort.Term (Both (Formula e) u) h = absurd h
    stays_fit sort.Term (Both (Fixed (Called n)) u) h = all_stay (get_or t n []) u h
    stays_fit sort.Term (Both (Fixed BusEnd) u) h = absurd h
    stays_fit sort.Term (Both (Fixed ArgumentsEnd) u) h = absurd h
    stays_fit sort.Term (Both (Fixed (Number z)) u) h = absurd h
    stays_fit sort.Term (Both (Both s v) u) h = absurd h

    all_stay : (ss : List Sort) (u : Form) → CodesFit t ss (value f b u) → CodesFit t ss (value f' b' u)
    all_stay ss (Open (ABus n)) h = absurd (no_arguments_bus t ss (b (ABus n)) (hb (ABus n)) h)
    all_stay ss (Open (ATerm n)) h = absurd (no_arguments_term t ss (b (ATerm n)) (hb (ATerm n)) h)
    all_stay [] (Formula e) h = absurd h
    all_stay (s ∷ ss) (Formula e) h = absurd h
    all_stay [] (Fixed m) h = h
    all_stay (s ∷ ss) (Fixed m) h = absurd h
    all_stay [] (Both v u) h = absurd h
    all_stay (s ∷ ss) (Both v u) h = (stays_fit s v h.0, all_stay ss u h.1)
