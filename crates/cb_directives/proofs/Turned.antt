-- The same name the other way round.
use Rattle.std.proofs.Common.{◌≡◌, ℕ, Bool, true, false, ◌&&◌, List, bytes_eq, nat_eq, refl, sym, arith}
use Rattle.std.proofs.lemmas.Slice.Eq.{bytes_eq-Decides}
use Rattle.std.proofs.lemmas.Bool.Decides.{nat_tests}
use Rattle.cb_model.specs.Text.{Text}
use Rattle.cb_model.specs.Directives.{Sign, same_sign}

bytes_turned : (x y : Text) → bytes_eq x y ≡ bytes_eq y x
bytes_turned x y = step (bytes_eq x y) (bytes_eq y x) (λ e. (bytes_eq-Decides y x).1 (sym ((bytes_eq-Decides x y).0 e))) (λ e. (bytes_eq-Decides x y).1 (sym ((bytes_eq-Decides y x).0 e)))
  where
    step : (p q : Bool) → (p ≡ true → q ≡ true) → (q ≡ true → p ≡ true) → p ≡ q
    step true q f g = sym (f refl)
    step false true f g = g refl
    step false false f g = refl

nat_turned : (m n : ℕ) → nat_eq m n ≡ nat_eq n m
nat_turned m n = grind (arith, nat_tests)

pub sign_turned : (a b : Sign) → same_sign a b ≡ same_sign b a
sign_turned a b = λ j. bytes_turned a.0 b.0 j && nat_turned a.1 b.1 j
