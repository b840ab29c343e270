-- Over all parameters the parametric form gives exactly the lists of bits that the functions reach.
use Rattle.std.proofs.Common.{◌≡◌, inl, inr, ℕ, suc, ◌+◌, ◌<◌, Bool, true, false, not, List, [], ◌∷◌, ◌++◌, length, refl, sym, ap, ◌∙◌, subst, append_assoc, append-nil, length-append, arith}
use Rattle.cb_model.specs.Bits.{Bits}
use Rattle.cb_model.specs.Answers.{Picks, Gen}
use Rattle.cb_boole.specs.Elimination.{Function}
use Rattle.cb_boole.specs.Parametric.{values_at, Reaches}
use Rattle.cb_boole.specs.Laws.{FormDenotesReached}

length_values : (fs : List Function) (p : Bits) → length (values_at fs p) ≡ length fs
length_values [] p = refl
length_values (f ∷ fs) p = ap suc (length_values fs p)

module _ (c : ℕ) (fs : List Function) (a : Bits) where
  abbrev R : List Bool → Type 0
  R = Reaches c fs a

  less : (xs ys : List Bool) → R (xs ++ ys) → R xs
  less xs ys r = record { at = r.at; agrees = r.agrees; more = ys ++ r.more; begins = sym (append_assoc xs ys r.more) ∙ r.begins }

  more : (xs : List Bool) → length xs < length fs → R xs → (w : Bool) × R (xs ++ w ∷ [])
  more xs room r = go r.more r.begins
    where
      go : (rest : List Bool) → xs ++ rest ≡ values_at fs r.at → (w : Bool) × R (xs ++ w ∷ [])
      go [] h =
          let n : length xs ≡ length fs = ap length (sym (append-nil xs) ∙ h) ∙ length_values fs r.at in
          absurd (omega arith)
      go (w ∷ rest) h = (w, record { at = r.at; agrees = r.agrees; more = rest; begins = append_assoc xs (w ∷ []) rest ∙ h })

  itself : (prefix zs : List Bool) → R (prefix ++ zs) → Gen R prefix zs zs
  itself prefix [] r = tt
  itself prefix (z ∷ zs) r =
      let r' : R ((prefix ++ z ∷ []) ++ zs) = subst R (sym (append_assoc prefix (z ∷ []) zs)) r in
      (inl (less (prefix ++ z ∷ []) zs r', refl), itself (prefix ++ z ∷ []) zs r')

  other : (prefix : List Bool) (y w : Bool) → (R (prefix ++ y ∷ []) → ⊥) → R (prefix ++ w ∷ []) → R (prefix ++ not y ∷ [])
  other prefix true true h r = absurd (h r)
  other prefix true false h r = r
  other prefix false true h r = r
  other prefix false false h r = absurd (h r)

  picked : (prefix : List Bool) (y z : Bool) → length prefix < length fs → R prefix → Picks R prefix y z → R (prefix ++ z ∷ [])
  picked prefix y z room r (inl p) = subst (λ b. R (prefix ++ b ∷ [])) (sym p.1) p.0
  picked prefix y z room r (inr p) = let m = more prefix room r in subst (λ b. R (prefix ++ b ∷ [])) (sym p.1) (other prefix y m.0 p.0 m.1)

  holds : (prefix ys zs : List Bool) → length prefix + length ys ≡ length fs → R prefix → Gen R prefix ys zs → R (prefix ++ zs)
  holds prefix [] [] e r g = subst R (sym (append-nil prefix)) r
  holds prefix (y ∷ ys) (z ∷ zs) e r g =
      let room : length prefix < length fs = omega arith in
      let n : length (prefix ++ z ∷ []) + length ys ≡ length fs = omega (arith, length-append prefix (z ∷ [])) in
      subst R (append_assoc prefix (z ∷ []) zs) (holds (prefix ++ z ∷ []) ys zs n (picked prefix y z room r g.0) g.1)
  holds prefix [] (z ∷ zs) e r g = absurd g
  holds prefix (y ∷ ys) [] e r g = absurd g

  nothing : R []
  nothing = record { at = a; agrees = λ k h. refl; more = values_at fs a; begins = refl }

pub form_denotes_reached : FormDenotesReached
form_denotes_reached c fs a zs long = (
  (λ r. (zs, long, itself c fs a [] zs r)),
  (λ w. holds c fs a [] w.0 zs (omega (arith, w.1)) (nothing c fs a) w.2),
)
