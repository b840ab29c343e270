-- What a list contains.
use Rattle.std.proofs.Common.{◌≡◌, ℕ, zero, suc, ◌+◌, ◌<◌, ◌≤◌, List, [], ◌∷◌, ◌++◌, length, take, get_or, set, replicate, refl, sym, ◌∙◌, ap, arith}
use Rattle.std.specs.Prelude.{Contains}
use Rattle.std.proofs.lemmas.List.{get_or-set_same, take_more}

-- an empty list contains nothing
pub none_in : {X : Type 0} (x : X) → Contains [] x → ⊥
none_in x h = absurd (omega (arith, h.1))

-- a list of one contains that alone
pub one_in : {X : Type 0} (x y : X) → Contains (x ∷ []) y → x ≡ y
one_in x y h = at h.0 h.1 h.2
  where
    at : (k : ℕ) → k < 1 → get_or (x ∷ []) k y ≡ y → x ≡ y
    at zero l e = e
    at (suc k) l e = absurd (omega arith)

-- the list that is written at a place
pub at_place : {X : Type 0} (xs : List X) (i j : ℕ) (v d : X) → i < length xs → j ≡ i → get_or (set xs i v) j d ≡ v
at_place xs i j v d h e = ap (λ n. get_or (set xs i v) n d) e ∙ get_or-set_same xs i v d h

-- the lists of one more item
pub taken : {X : Type 0} (xs : List X) (i : ℕ) (x : X) → i < length xs → x ≡ get_or xs i x → take (i + 1) xs ≡ take i xs ++ x ∷ []
taken {X} xs i x h e = take_more xs i x h ∙ ap (λ (y : X). take i xs ++ y ∷ []) (sym e)

-- a list of equal items has no other
pub replicated : {X : Type 0} (n i : ℕ) (a : X) → get_or (replicate n a) i a ≡ a
replicated zero i a = refl
replicated (suc n) zero a = refl
replicated (suc n) (suc i) a = replicated n i a

-- all of a list
pub take_end : {X : Type 0} (xs : List X) (i : ℕ) → length xs ≤ i → take i xs ≡ xs
take_end [] zero h = refl
take_end [] (suc i) h = refl
take_end (x ∷ xs) zero h = absurd (omega arith)
take_end {X} (x ∷ xs) (suc i) h = ap (λ (l : List X). x ∷ l) (take_end xs i (omega arith))
