-- Rows of bits of the inputs as bits of their levels.
use Rattle.std.proofs.Common.{◌≡◌, ℕ, ◌<◌, ◌≤◌, Bool, false, List, map, take, length, get_or, sym, ◌∙◌, ap, arith}
use Rattle.std.proofs.lemmas.List.{length-map, get_or-map, get_or_default, same_lists, take_all}
use Rattle.std.specs.List.Sorted.{IsPermutation}
use Rattle.cb_model.specs.Bits.{Bits, bits_of, numbers}
use Rattle.cb_levels.specs.Inverse.{IsInverse}
use Rattle.cb_levels.proofs.Inverses.{order-long}
use Rattle.cb_verify.specs.Places.{ArePlaces}

-- the row that its bits by level give back
pub spread-row : (order levels : List ℕ) → IsInverse order levels → (row : List Bool) → length row ≡ length order → map (bits_of (map (bits_of row) order)) levels ≡ row
spread-row order levels inv row long =
    same_lists (map spread levels) row (length-map levels spread ∙ inv.as_many ∙ sym long) (λ i d l.
    let w : i < length levels = omega (arith, l, length-map levels spread) in
    let o : i < length order = omega (arith, w, inv.as_many) in
    let to = inv.to_level i o in
    get_or-map spread levels i 0 d w ∙ get_or-map (bits_of row) order (get_or levels i 0) 0 false to.0 ∙ ap (bits_of row) to.1
    ∙ get_or_default row i false d (omega (arith, o, long)))
  where
    spread : Bits
    spread = bits_of (map (bits_of row) order)

-- all of them
pub all-spread : (order levels : List ℕ) → IsInverse order levels → (row : List Bool) → length row ≡ length order → (bits : List Bool) (i : ℕ) → length order ≤ i → bits ≡ map (bits_of row) (take i order)
    → map (bits_of bits) levels ≡ row
all-spread order levels inv row long bits i last is =
    ap (λ xs. map (bits_of xs) levels) (is ∙ ap (map (bits_of row)) (take_all i order last)) ∙ spread-row order levels inv row long

-- the levels of an order of the inputs
pub places-are : (n : ℕ) (order levels : List ℕ) → IsPermutation (numbers n) order → IsInverse order levels → ArePlaces n order levels
places-are n order levels p inv = record {
  inverse = inv;
  count = inv.as_many ∙ order-long order n p;
}
