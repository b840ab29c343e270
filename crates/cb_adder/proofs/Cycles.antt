-- The generated modules feed no net back.
use Rattle.std.proofs.Common.{◌≡◌, ℕ, zero, suc, ◌+◌, ◌<◌, ◌^◌, Bool, true, false, List, [], ◌∷◌, map, get_or, slice_get, Option, Some, None, ◌⊎◌, inl, inr, refl, sym, ◌∙◌, ap, subst, arith}
use Rattle.std.specs.Prelude.{bytes_eq, decimal, Contains, ◌||◌}
use Rattle.std.specs.List.{list_any}
use Rattle.std.proofs.lemmas.Fmt.{decimal_injective}
use Rattle.std.proofs.lemmas.Option.{same_Some, slice_get_within}
use Rattle.cb_model.specs.Bits.{numbers_from}
use Rattle.cb_model.specs.Text.{Text}
use Rattle.cb_model.specs.Circuits.{Module, Instance}
use Rattle.cb_model.specs.Facts.{Feeds, Leads, feeds, leads_on, HasCycle}
use Rattle.cb_flat.proofs.Places.{Contains-cons, list_any-lost}
use Rattle.cb_adder.proofs.Modules.{a_name, b_name, s_name, c_name, adder_part, adder_module, half, full}

-- where instances feed later ones alone, none comes round
leads-on : (m : Module) → ((i j : ℕ) → Feeds m i j → i < j) → (i j : ℕ) → Leads m i j → i < j
leads-on m f i j (feeds h) = f i j h
leads-on m f i k (leads_on j h l) = let a = f i j h in let b = leads-on m f j k l in omega arith

pub no-round : (m : Module) → ((i j : ℕ) → Feeds m i j → i < j) → HasCycle m → ⊥
no-round m f c = let l = leads-on m f c.0 c.0 c.1 in omega arith

-- ---- the adder

at-part : (k s i : ℕ) (y : Instance) → slice_get (map adder_part (numbers_from s k)) i ≡ Some y → (adder_part (s + i) ≡ y) × (i < k)
at-part zero s i y e = absurd (let l : i < 0 = slice_get_within [] i y e in omega arith)
at-part (suc k) s zero y e = (ap adder_part (let z : s + 0 ≡ s = omega arith in z) ∙ same_Some (adder_part s) y e, omega arith)
at-part (suc k) s (suc i) y e =
    let r = at-part k (suc s) i y e in
    (ap adder_part (let z : s + suc i ≡ suc s + i = omega arith in z) ∙ r.0, let l : i < k = r.1 in omega arith)

abbrev first : Text → ℕ
first t = get_or t 0 0

nothing : (x : Text) → Contains {X = Text} [] x → ⊥
nothing x h = omega arith

in-outs : (i : ℕ) (x : Text) → Contains (s_name i ∷ c_name (suc i) ∷ []) x → (first x ≡ 83) ⊎ (c_name (suc i) ≡ x)
in-outs i x h = elim (Contains-cons x (s_name i) (c_name (suc i) ∷ []) h) [
  | inl e ↦ inl (sym (ap first e))
  | inr t ↦ elim (Contains-cons x (c_name (suc i)) [] t) [ inl e ↦ inr e | inr u ↦ absurd (nothing x u) ]
]

in-ins : (j : ℕ) (x : Text) → Contains (a_name j ∷ b_name j ∷ c_name j ∷ []) x → (first x ≡ 65) ⊎ ((first x ≡ 66) ⊎ (c_name j ≡ x))
in-ins j x h = elim (Contains-cons x (a_name j) (b_name j ∷ c_name j ∷ []) h) [
  | inl e ↦ inl (sym (ap first e))
  | inr t ↦ elim (Contains-cons x (b_name j) (c_name j ∷ []) t) [
    | inl e ↦ inr (inl (sym (ap first e)))
    | inr u ↦ elim (Contains-cons x (c_name j) [] u) [ inl e ↦ inr (inr e) | inr v ↦ absurd (nothing x v) ]
  ]
]

meet : (i j : ℕ) (x : Text) → i < 2 ^ 32 → j < 2 ^ 32 → (first x ≡ 83) ⊎ (c_name (suc i) ≡ x) → (first x ≡ 65) ⊎ ((first x ≡ 66) ⊎ (c_name j ≡ x)) → i < j
meet i j x hi hj (inl p) (inl q) = absurd (omega arith)
meet i j x hi hj (inl p) (inr (inl q)) = absurd (omega arith)
meet i j x hi hj (inl p) (inr (inr q)) = absurd (let f : 67 ≡ first x = ap first q in omega arith)
meet i j x hi hj (inr p) (inl q) = absurd (let f : 67 ≡ first x = ap first p in omega arith)
meet i j x hi hj (inr p) (inr (inl q)) = absurd (let f : 67 ≡ first x = ap first p in omega arith)
meet i j x hi hj (inr p) (inr (inr q)) =
    let same : c_name (suc i) ≡ c_name j = p ∙ sym q in
    let digits : decimal (suc i) ≡ decimal j = cc in
    let r : suc i ≡ j = decimal_injective (suc i) j (omega arith) (omega arith) digits in
    omega arith

adder-feeds : (n : ℕ) → n < 2 ^ 32 → (i j : ℕ) → Feeds (adder_module n) i j → i < j
adder-feeds n small i j f =
    let a = at-part n 0 i f.from f.from_is in
    let b = at-part n 0 j f.to f.to_is in
    let ia : 0 + i ≡ i = omega arith in
    let jb : 0 + j ≡ j = omega arith in
    let out : adder_part i ≡ f.from = ap adder_part (sym ia) ∙ a.0 in
    let ins : adder_part j ≡ f.to = ap adder_part (sym jb) ∙ b.0 in
    let la : i < n = a.1 in
    let lb : j < n = b.1 in
    meet i j f.net (omega arith) (omega arith)
    (in-outs i f.net (subst (λ (y : Instance). Contains y.outs f.net) (sym out) f.given))
    (in-ins j f.net (subst (λ (y : Instance). Contains y.ins f.net) (sym ins) f.taken))

pub adder-no-round : (n : ℕ) → n < 2 ^ 32 → HasCycle (adder_module n) → ⊥
adder-no-round n small = no-round (adder_module n) (adder-feeds n small)

-- ---- the two below

any-has : (p : Text → Bool) (xs : List Text) (x : Text) → Contains xs x → p x ≡ true → list_any p xs ≡ true
any-has p [] x h e = absurd (nothing x h)
any-has p (y ∷ ys) x h e = elim (Contains-cons x y ys h) [ inl q ↦ left (p y) (list_any p ys) (ap p q ∙ e) | inr t ↦ right (p y) (list_any p ys) (any-has p ys x t e) ]
  where
    left : (a b : Bool) → a ≡ true → (a || b) ≡ true
    left true b q = refl
    left false b q = absurd (cc)

    right : (a b : Bool) → b ≡ true → (a || b) ≡ true
    right true b q = refl
    right false b q = q

has-any : (x : Text) (xs : List Text) → Contains xs x → list_any (bytes_eq x) xs ≡ true
has-any x xs h = from (list_any (bytes_eq x) xs) refl
  where
    from : (b : Bool) → list_any (bytes_eq x) xs ≡ b → b ≡ true
    from true e = refl
    from false e = absurd (list_any-lost x xs e h)

-- whether an instance takes an output of another
abbrev takes_from : Option Instance → Option Instance → Bool
takes_from None r = false
takes_from (Some a) None = false
takes_from (Some a) (Some b) = list_any (λ x. list_any (bytes_eq x) b.ins) a.outs

feeds-takes : (m : Module) (i j : ℕ) → Feeds m i j → takes_from (slice_get m.instances i) (slice_get m.instances j) ≡ true
feeds-takes m i j f =
    ap (λ o. takes_from o (slice_get m.instances j)) f.from_is ∙ ap (takes_from (Some f.from)) f.to_is
    ∙ any-has (λ x. list_any (bytes_eq x) f.to.ins) f.from.outs f.net f.given (has-any f.net f.to.ins f.taken)

never : false ≡ true → ⊥
never e = absurd (cc)

half-order : (i j : ℕ) → takes_from (slice_get half.instances i) (slice_get half.instances j) ≡ true → i < j
half-order zero zero e = absurd (never e)
half-order zero (suc j) e = omega arith
half-order (suc zero) zero e = absurd (never e)
half-order (suc zero) (suc zero) e = absurd (never e)
half-order (suc zero) (suc (suc j)) e = omega arith
half-order (suc (suc i)) j e = absurd (never e)

full-order : (i j : ℕ) → takes_from (slice_get full.instances i) (slice_get full.instances j) ≡ true → i < j
full-order zero zero e = absurd (never e)
full-order zero (suc j) e = omega arith
full-order (suc zero) zero e = absurd (never e)
full-order (suc zero) (suc zero) e = absurd (never e)
full-order (suc zero) (suc (suc j)) e = omega arith
full-order (suc (suc zero)) zero e = absurd (never e)
full-order (suc (suc zero)) (suc zero) e = absurd (never e)
full-order (suc (suc zero)) (suc (suc zero)) e = absurd (never e)
full-order (suc (suc zero)) (suc (suc (suc j))) e = omega arith
full-order (suc (suc (suc i))) j e = absurd (never e)

pub half-no-round : HasCycle half → ⊥
half-no-round = no-round half (λ i j f. half-order i j (feeds-takes half i j f))

pub full-no-round : HasCycle full → ⊥
full-no-round = no-round full (λ i j f. full-order i j (feeds-takes full i j f))
