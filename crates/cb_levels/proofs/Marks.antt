-- Marks.
use Rattle.std.proofs.Common.{◌≡◌, ℕ, zero, suc, ◌+◌, ◌<◌, Bool, true, false, List, [], ◌∷◌, ◌++◌, length, slice_get, slice_set, get_or, replicate, Option, Some, None, refl, sym, ap, subst, arith, append_assoc}
use Rattle.std.specs.List.Sorted.{IsPermutation}
use Rattle.std.proofs.lemmas.List.Sorted.{IsPermutation-refl, IsPermutation-cons, IsPermutation-trans, IsPermutation-middle, IsPermutation-append_right}
use Rattle.std.proofs.lemmas.Bool.{true≢false}
use Rattle.std.proofs.lemmas.Option.{none-some}
use Rattle.cb_model.specs.declared.Gate.{Gate}
use Rattle.cb_model.specs.Bits.{numbers_from}
use Rattle.cb_levels.specs.Meeting.{unmarked, unmarked_pins}

-- with no mark, all are there
pub none-marked : (at n : ℕ) → unmarked at (replicate n false) ≡ numbers_from at n
none-marked at zero = refl
none-marked at (suc n) = ap (λ l. at ∷ l) (none-marked (suc at) n)

-- one that gets a mark goes in front of the others
pub marked : (at k : ℕ) (ms : List Bool) → k < length ms → get_or ms k true ≡ false → IsPermutation (unmarked at ms) ((at + k) ∷ unmarked at (slice_set ms k true))
marked at k [] l e = absurd (omega (arith, l))
marked at zero (true ∷ ms) l e = absurd (true≢false e)
marked at zero (false ∷ ms) l e =
    let h : at ≡ at + 0 = omega arith in
    subst (λ n. IsPermutation (at ∷ unmarked (suc at) ms) (n ∷ unmarked (suc at) ms)) h (IsPermutation-refl (at ∷ unmarked (suc at) ms))
marked at (suc k) (true ∷ ms) l e =
    let h : suc at + k ≡ at + suc k = omega arith in
    subst (λ n. IsPermutation (unmarked (suc at) ms) (n ∷ unmarked (suc at) (slice_set ms k true))) h (marked (suc at) k ms (omega (arith, l)) e)
marked at (suc k) (false ∷ ms) l e =
    let h : suc at + k ≡ at + suc k = omega arith in
    let p : IsPermutation (unmarked (suc at) ms) ((at + suc k) ∷ unmarked (suc at) (slice_set ms k true)) =
    subst (λ n. IsPermutation (unmarked (suc at) ms) (n ∷ unmarked (suc at) (slice_set ms k true))) h (marked (suc at) k ms (omega (arith, l)) e) in
    IsPermutation-trans (at ∷ unmarked (suc at) ms) (at ∷ (at + suc k) ∷ unmarked (suc at) (slice_set ms k true)) ((at + suc k) ∷ at ∷ unmarked (suc at) (slice_set ms k true))
    (IsPermutation-cons at (unmarked (suc at) ms) ((at + suc k) ∷ unmarked (suc at) (slice_set ms k true)) p)
    (IsPermutation-middle (at ∷ []) (at + suc k) (unmarked (suc at) (slice_set ms k true)))

-- an input that is met goes from the others to the end of those that are met
pub met-next : (all order : List ℕ) (ms : List Bool) (k : ℕ) → k < length ms → get_or ms k true ≡ false → IsPermutation all (order ++ unmarked 0 ms) → IsPermutation all ((order ++ k ∷ []) ++ unmarked 0 (slice_set ms k true))
met-next all order ms k l e p =
    let h : 0 + k ≡ k = omega arith in
    let q : IsPermutation (unmarked 0 ms) (k ∷ unmarked 0 (slice_set ms k true)) = subst (λ n. IsPermutation (unmarked 0 ms) (n ∷ unmarked 0 (slice_set ms k true))) h (marked 0 k ms l e) in
    subst (IsPermutation all) (sym (append_assoc order (k ∷ []) (unmarked 0 (slice_set ms k true))))
    (IsPermutation-trans all (order ++ unmarked 0 ms) (order ++ k ∷ unmarked 0 (slice_set ms k true)) p (IsPermutation-append_right order (unmarked 0 ms) (k ∷ unmarked 0 (slice_set ms k true)) q))

abbrev ins_of : Option Gate → List ℕ
ins_of (Some g) = g.ins
ins_of None = []

-- the pins of a gate that gets a mark
length-is : (h g : Gate) → Some h ≡ Some g → length h.ins ≡ length g.ins
length-is h g e = ap (λ o. length (ins_of o)) e

pub pins-marked : (gs : List Gate) (ms : List Bool) (k : ℕ) (g : Gate) → k < length ms → get_or ms k true ≡ false → slice_get gs k ≡ Some g → unmarked_pins gs (slice_set ms k true) + length g.ins ≡ unmarked_pins gs ms
pins-marked [] ms k g l e is = absurd (none-some g is)
pins-marked (h ∷ gs) [] k g l e is = absurd (omega (arith, l))
pins-marked (h ∷ gs) (true ∷ ms) zero g l e is = absurd (true≢false e)
pins-marked (h ∷ gs) (false ∷ ms) zero g l e is = omega (arith, length-is h g is)
pins-marked (h ∷ gs) (true ∷ ms) (suc k) g l e is = pins-marked gs ms k g (omega (arith, l)) e is
pins-marked (h ∷ gs) (false ∷ ms) (suc k) g l e is = omega (arith, pins-marked gs ms k g (omega (arith, l)) e is)
