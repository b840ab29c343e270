-- The bits of the levels, from those of the constants and the parameters.
use Rattle.std.proofs.Common.{◌≡◌, ℕ, zero, suc, ◌+◌, ◌-◌, ◌<◌, ◌≤◌, Bool, List, [], ◌∷◌, map, refl, ap, ap₂, ◌∙◌, arith, lt-ltb}
use Rattle.std.proofs.lemmas.Bool.{le-ltb}
use Rattle.cb_model.specs.Bits.{Bits, numbers_from}
use Rattle.cb_model.specs.Line.{parameters}
use Rattle.cb_boole.specs.Elimination.{Function}
use Rattle.cb_boole.specs.Parametric.{values_at}
use Rattle.cb_show.specs.Levels.{spread}
use Rattle.cb_answer.specs.Lines.{spread_all}

-- the levels of the constants have the bits of the constants
pub spread-constant : (c first : ℕ) (env : Bits) (k : ℕ) → k < c → spread c first env k ≡ env k
spread-constant c first env k below = rw (lt-ltb k c below) refl

-- the levels from the first on have the bits behind the constants
spread-parameter : (c first : ℕ) (env : Bits) (k : ℕ) → c ≤ first → spread c first env (first + k) ≡ env (c + k)
spread-parameter c first env k room =
    let test : c ≤ first + k = omega (arith, room) in
    let same : first + k - first ≡ k = omega arith in
    rw (le-ltb (first + k) c test, same) refl

bits-from : (c first : ℕ) (env : Bits) → c ≤ first → (at n : ℕ) → map (spread c first env) (numbers_from (first + at) n) ≡ map (λ j. env (c + j)) (numbers_from at n)
bits-from c first env room at zero = refl
bits-from c first env room at (suc n) =
    let next : suc (first + at) ≡ first + suc at = omega arith in
    ap₂ (λ (x : Bool) (xs : List Bool). x ∷ xs) (spread-parameter c first env at room)
    (ap (λ k. map (spread c first env) (numbers_from k n)) next ∙ bits-from c first env room (suc at) n)

-- the levels from the first on have the parameters' bits
pub parameters-are : (c first : ℕ) (env : Bits) → c ≤ first → (m : ℕ) → map (spread c first env) (numbers_from first m) ≡ parameters c m env
parameters-are c first env room m =
    let same : first ≡ first + 0 = omega arith in
    ap (λ k. map (spread c first env) (numbers_from k m)) same ∙ bits-from c first env room 0 m

pub values-spread : (c first : ℕ) (env : Bits) (gens : List Function) → values_at gens (spread c first env) ≡ map (λ g. g env) (spread_all c first gens)
values-spread c first env [] = refl
values-spread c first env (g ∷ gens) = ap (λ (xs : List Bool). g (spread c first env) ∷ xs) (values-spread c first env gens)
