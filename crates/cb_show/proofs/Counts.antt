-- Tests of lists and counts.
use Rattle.std.proofs.Common.{◌≡◌, ℕ, Bool, true, false, not, List, [], ◌∷◌, length, refl, sym, ◌∙◌, ap, arith, rules}
use Rattle.std.specs.Prelude.{◌==◌, Option, Some, None, is_some}

pub not_empty : {A : Type 0} (r : Bool) (now p : List A) → r ≡ (length now == 0) → r ≡ false → now ≡ p → p ≡ [] → ⊥
not_empty r now p e f g h = let k : true ≡ false = sym (ap (λ xs. length xs == 0) (g ∙ h)) ∙ sym e ∙ f in cc

pub none_there : {A : Type 0} (r : Bool) (o : Option A) → is_some o ≡ not r → r ≡ true → o ≡ None
none_there r None e f = refl
none_there r (Some x) e f = let k : true ≡ false = e ∙ ap not f in absurd (cc)

pub some_there : {A : Type 0} (r : Bool) (o : Option A) → is_some o ≡ not r → r ≡ false → o ≡ None → ⊥
some_there r None e f h = let k : false ≡ true = e ∙ ap not f in cc
some_there r (Some x) e f h = cc

is_zero : (n : ℕ) → (n == 0) ≡ true → n ≡ 0
is_zero n h = search rules

pub nothing_there : {A : Type 0} (r : Bool) (now p : List A) → r ≡ (length now == 0) → r ≡ true → now ≡ p → p ≡ []
nothing_there r now [] e f g = refl
nothing_there r now (x ∷ p) e f g = let k : length (x ∷ p) ≡ 0 = ap length (sym g) ∙ is_zero (length now) (sym e ∙ f) in absurd (omega (arith, k))
