-- Lists of numbers as graphs.
use Rattle.std.proofs.Common.{◌≡◌, ℕ, zero, suc, ◌<◌, List, [], ◌∷◌, length, slice_index_or, Contains, sym, subst, arith}
use Rattle.std.specs.List.{All, flat_map}
use Rattle.std.proofs.lemmas.List.Elements.{All-contains, Contains-append_left, Contains-append_right}
use Rattle.cb_model.specs.Order.{IsGraph}

contains-in : (g : List (List ℕ)) (i n : ℕ) → Contains (slice_index_or g i []) n → Contains (flat_map (λ xs. xs) g) n
contains-in [] i n c = absurd (omega (arith, c.1))
contains-in (x ∷ xs) zero n c = Contains-append_left x (flat_map (λ ys. ys) xs) n c
contains-in (x ∷ xs) (suc i) n c = Contains-append_right x (flat_map (λ ys. ys) xs) n (contains-in xs i n c)

pub graph-of : (g : List (List ℕ)) (xs : List ℕ) (n : ℕ) → xs ≡ flat_map (λ ys. ys) g → n ≡ length g → All (λ m. m < n) xs → IsGraph g
graph-of g xs n e f h = λ i m c. subst (λ k. m < k) f (All-contains (λ j. j < n) xs m h (subst (λ (ys : List ℕ). Contains ys m) (sym e) (contains-in g i m c)))
