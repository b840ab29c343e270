-- The bits that leaves reach are those that the pairs of the store's range give them.
use Rattle.std.proofs.Common.{◌≡◌, ◌↔◌, inl, inr, Bool, List, [], ◌∷◌, ◌++◌, refl, sym, ap₂, ◌∙◌}
use Rattle.cb_model.specs.Bits.{Bits, Each}
use Rattle.cb_model.specs.Answers.{Picks, Gen}
use Rattle.cb_boole.specs.Elimination.{Function}
use Rattle.cb_boole.specs.View.{View, point, InRange, IsFit, IsGood}
use Rattle.cb_boole.proofs.Unify.{at_point}
use Rattle.cb_boole.specs.Parametric.{values_at, Reaches, Allows}

-- at a pair of the range the leaves have the bits that they have where the slots give the pair
values_point : (S : View) → IsGood S → (fs : List Function) → Each (IsFit S) fs → (a b : Bits) (r : InRange S a b) →
    values_at fs (point S.stands a b) ≡ values_at fs r.at
values_point S good [] fit a b r = refl
values_point S good (f ∷ fs) fit a b r = ap₂ ◌∷◌ (at_point S good f fit.0 a b r) (values_point S good fs fit.1 a b r)

pub reaches_allows : (S : View) → IsGood S → (fs : List Function) → Each (IsFit S) fs → (a : Bits) (bits : List Bool) →
    Reaches S.constants fs a bits ↔ Allows S fs a bits
reaches_allows S good fs fit a bits = (
  (λ r.
      let b : Bits = λ x. S.values x r.at in
      let w : InRange S a b = record { at = r.at; agrees = r.agrees; gives = λ x v. refl } in
      record { b = b; in_range = w; more = r.more; begins = r.begins ∙ sym (values_point S good fs fit a b w) }),
  (λ r. record { at = r.in_range.at; agrees = r.in_range.agrees; more = r.more; begins = r.begins ∙ values_point S good fs fit a r.b r.in_range }),
)

-- the parametric form is the same for relations that are the same
pub gen_same : (R Q : List Bool → Type 0) → ((bits : List Bool) → R bits ↔ Q bits) → (prefix ys zs : List Bool) → Gen R prefix ys zs → Gen Q prefix ys zs
gen_same R Q same prefix [] [] g = tt
gen_same R Q same prefix (y ∷ ys) (z ∷ zs) g = (pick g.0, gen_same R Q same (prefix ++ z ∷ []) ys zs g.1)
  where
    pick : Picks R prefix y z → Picks Q prefix y z
    pick (inl p) = inl ((same (prefix ++ y ∷ [])).0 p.0, p.1)
    pick (inr p) = inr ((λ q. p.0 ((same (prefix ++ y ∷ [])).1 q)), p.1)
gen_same R Q same prefix [] (z ∷ zs) g = absurd g
gen_same R Q same prefix (y ∷ ys) [] g = absurd g
