-- The cells of new variables are there.
use Rattle.std.proofs.Common.{◌≡◌, ℕ, ◌<◌, List, [], ◌∷◌, ◌++◌, length, subst}
use Rattle.cb_model.specs.declared.Sort.{Sort}
use Rattle.cb_model.specs.Bits.{Each}
use Rattle.cb_unify.specs.State.{Seen, IsState}
use Rattle.cb_unify.specs.Growth.{IsOpened}

each-right : {A : Type 0} (P : A → Type 0) (xs ys : List A) → Each P (xs ++ ys) → Each P ys
each-right P [] ys e = e
each-right P (x ∷ xs) ys e = each-right P xs ys e.1

pub frame-there : (s u : Seen) (zs : List Sort) (f : List ℕ) → IsState u → IsOpened s u zs f → Each (λ r. r < length u.heap.cells) f
frame-there s u zs f is o = each-right (λ r. r < length u.heap.cells) s.made f (subst (Each (λ r. r < length u.heap.cells)) o.made is.made)
