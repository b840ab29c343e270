-- The bound of a comparison.
use Rattle.std.proofs.Common.{◌≡◌, ℕ, zero, suc, ◌+◌, ◌*◌, ◌^◌, ◌<◌, ◌≤◌, ap, ◌∙◌, arith, lit≤}
use Rattle.std.proofs.Math.Nat.{pow-suc, mul-le-mul_left}
use Rattle.cb_model.specs.Room.{room_v}

pow-le : (n : ℕ) → (2 * 2 ^ n ≤ 4 ^ (n + 1)) × (1 ≤ 4 ^ (n + 1))
pow-le zero = (lit≤ tt, lit≤ tt)
pow-le (suc n) =
    let h = pow-le n in
    let f : 4 ^ (suc n + 1) ≡ 4 ^ (n + 1) * 4 = ap (λ k. 4 ^ k) (let e : suc n + 1 ≡ suc (n + 1) = omega arith in e) ∙ pow-suc 4 (n + 1) in
    let g : 2 ^ suc n ≡ 2 ^ n * 2 = pow-suc 2 n in
    (omega (arith, h.0, f, g), omega (arith, h.1, f))

-- all operations of a comparison make fewer nodes than the bound
pub room-below : (g s m n k : ℕ) → k ≤ n + (g + s + 2 * m) * (2 * 2 ^ n) → k < room_v g s m n
room-below g s m n k h =
    let q = pow-le n in
    let x : (g + s + 2 * m) * (2 * 2 ^ n) ≤ (g + s + 2 * m) * 4 ^ (n + 1) = mul-le-mul_left (g + s + 2 * m) q.0 in
    let y : n * 1 ≤ n * 4 ^ (n + 1) = mul-le-mul_left n q.1 in
    omega (arith, h, x, y, q.1)
