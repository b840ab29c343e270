-- Assignments that agree at levels.
use Rattle.std.proofs.Common.{◌≡◌, ℕ, List, [], ◌∷◌, map, refl}
use Rattle.cb_model.specs.Bits.{Bits}
use Rattle.cb_ops.specs.Ops.{Agree}

-- the bits of levels at which assignments agree
pub map-agree : (ks : List ℕ) (a b : Bits) → Agree ks a b → map a ks ≡ map b ks
map-agree [] a b h = refl
map-agree (k ∷ ks) a b h = λ j. h.0 j ∷ map-agree ks a b h.1 j
