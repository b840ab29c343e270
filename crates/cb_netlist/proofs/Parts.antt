-- Instances with their pins.
use Rattle.std.proofs.Common.{◌≡◌, ℕ, zero, suc, ◌<◌, List, [], ◌∷◌, ◌++◌, length, slice_index_or, refl, ap, arith}
use Rattle.cb_netlist.specs.declared.netlist.Instance.{Instance}
use Rattle.cb_netlist.specs.Parts.{filled_is, filled_of}
use Rattle.cb_netlist.specs.Places.{no_filled}

pub filled-long : (is : List Instance) (ps : List (List ℕ)) → length is ≡ length ps → length (filled_of is ps) ≡ length is
filled-long [] ps e = refl
filled-long (i ∷ is) [] e = absurd (omega (arith, e))
filled-long (i ∷ is) (p ∷ ps) e = ap suc (filled-long is ps (omega (arith, e)))

pub filled-at : (is : List Instance) (ps : List (List ℕ)) (k : ℕ) (d : Instance) → length is ≡ length ps → k < length is
    → slice_index_or (filled_of is ps) k no_filled ≡ filled_is (slice_index_or is k d).part (slice_index_or is k d).first (slice_index_or ps k [])
filled-at [] ps k d e l = absurd (omega (arith, l))
filled-at (i ∷ is) [] k d e l = absurd (omega (arith, e))
filled-at (i ∷ is) (p ∷ ps) zero d e l = refl
filled-at (i ∷ is) (p ∷ ps) (suc k) d e l = filled-at is ps k d (omega (arith, e)) (omega (arith, l))

pub filled-pushed : (is : List Instance) (ps : List (List ℕ)) (i : Instance) (p : List ℕ) → length is ≡ length ps
    → filled_of (is ++ i ∷ []) (ps ++ p ∷ []) ≡ filled_of is ps ++ filled_is i.part i.first p ∷ []
filled-pushed [] [] i p e = refl
filled-pushed [] (q ∷ ps) i p e = absurd (omega (arith, e))
filled-pushed (j ∷ is) [] i p e = absurd (omega (arith, e))
filled-pushed (j ∷ is) (q ∷ ps) i p e = ap (λ l. filled_is j.part j.first q ∷ l) (filled-pushed is ps i p (omega (arith, e)))
