-- The images of a solution: each is free of the greater levels that are replaced, and so many of the levels are.
use Rattle.std.proofs.Common.{◌≡◌, ◌⊎◌, inl, inr, ℕ, zero, suc, ◌+◌, ◌*◌, ◌<◌, ◌≤◌, ◌^◌, Bool, true, false, cond, ◌||◌, List, [], ◌∷◌, length, nat_eq, sym, ap, subst, ◌∙◌, arith}
use Rattle.std.proofs.lemmas.Bool.{cases_Bool, cases_eq, eqb-true, true≢false}
use Rattle.std.proofs.lemmas.Nat.{pow-add}
use Rattle.std.proofs.Math.Nat.{mul-le-mul_right}
use Rattle.std.proofs.Math.Pow.{pow-lt}
use Rattle.std.proofs.Math.Path.{fun_ext}
use Rattle.std.specs.List.{list_any, filter}
use Rattle.cb_model.specs.Bits.{Bits, put}
use Rattle.cb_dd.specs.declared.Triple.{Triple}
use Rattle.cb_dd.specs.Diagram.{function_of}
use Rattle.cb_ops.specs.Support.{IsListed}
use Rattle.cb_ops.specs.Substitute.{Images}
use Rattle.cb_ops.specs.Composed.{AreLower}
use Rattle.cb_ops.proofs.Ite.{put-other}
use Rattle.cb_boole.specs.Elimination.{Function, both, solved, DependsOnly}
use Rattle.cb_boole.proofs.Only.{solved_alike, both_drops}
use Rattle.cb_boole.proofs.One.{mended_off}
use Rattle.cb_solution.specs.Solution.{IsFalling, IsSolution}
use Rattle.cb_solution.proofs.Solved.{listed-cases, image-listed, at-some}

-- what is 1 with both bits at a level doesn't depend on it
both-free : (l : ℕ) (f : Function) → DependsOnly (λ k. k ≡ l → ⊥) (both l f)
both-free l f = both_drops (λ k. k ≡ l → ⊥) l f (λ p q h. ap f (fun_ext (λ k. h k (cases_eq k l))))

-- the solution's bit at a level doesn't depend on the greater levels that are eliminated
pub solved-free : (ls : List ℕ) → IsFalling ls → (f : Function) (l k : ℕ) → l < k → IsListed ls k → (p : Bits) (b : Bool) → solved ls f (put k b p) l ≡ solved ls f p l
unfolding solved
solved-free [] falls f l k less there p b = absurd (true≢false (sym there))
solved-free (m ∷ ms) falls f l k less there p b = mended_off m f (solved ms (both m f) (put k b p)) l off ∙ lower (listed-cases m k ms there) (λ later. solved-free ms falls.1 (both m f) l k less later p b) ∙ sym (mended_off m f (solved ms (both m f) p) l off)
  where
    below : (k ≡ m) ⊎ IsListed ms k → l < m
    below (inl same) = omega (arith, less, same)
    below (inr later) = let h = falls.0 k later in omega (arith, less, h)

    off : l ≡ m → ⊥
    off e = let h = below (listed-cases m k ms there) in omega (arith, h, e)

    lower : (k ≡ m) ⊎ IsListed ms k → (IsListed ms k → solved ms (both m f) (put k b p) l ≡ solved ms (both m f) p l) → solved ms (both m f) (put k b p) l ≡ solved ms (both m f) p l
    lower (inl same) next = solved_alike (λ j. j ≡ m → ⊥) ms (both m f) (both-free m f) (put k b p) p (λ j w. put-other p k b j (λ (e : j ≡ k). w (e ∙ same))) l off
    lower (inr later) next = next later

pub solution-lower : (old new : List Triple) (f : ℕ) (levels : List ℕ) (images : Images) → IsFalling levels → IsSolution old new f levels images → AreLower new images
solution-lower old new f levels images falls sol = record {
  free = λ l k m n e g less a b.
      sym (at-some new images (put k b a) l m e)
      ∙ ap (λ (q : Bits). q l) (sol.at (put k b a))
      ∙ solved-free levels falls (function_of old f) l k less (sol.within k (image-listed images k n g)) a b
      ∙ sym (ap (λ (q : Bits). q l) (sol.at a))
      ∙ at-some new images a l m e;
}

-- ---- how many levels are replaced

-- a list has fewer elements that pass where one doesn't
pub passing-less : (p : ℕ → Bool) (ls : List ℕ) (l : ℕ) → IsListed ls l → p l ≡ false → length (filter p ls) + 1 ≤ length ls
passing-less p [] l there fails = absurd (true≢false (sym there))
passing-less p (x ∷ xs) l there fails = elim (cases_Bool (nat_eq l x)) [
  | inl same ↦
      let e : p x ≡ false = ap p (sym (eqb-true l x same)) ∙ fails in
      subst (λ b. length (cond b (x ∷ filter p xs) (filter p xs)) + 1 ≤ length (x ∷ xs)) (sym e) (omega (arith, passing-le xs))
  | inr other ↦
      let m = passing-less p xs l (sym (ap (λ b. b || list_any (nat_eq l) xs) other) ∙ there) fails in
      one (p x) m
]
  where
    passing-le : (ys : List ℕ) → length (filter p ys) ≤ length ys
    passing-le [] = omega arith
    passing-le (y ∷ ys) = elim (p y) as (λ b. length (cond b (y ∷ filter p ys) (filter p ys)) ≤ length (y ∷ ys)) [
      | true ↦ omega (arith, passing-le ys)
      | false ↦ omega (arith, passing-le ys)
    ]

    one : (b : Bool) → length (filter p xs) + 1 ≤ length xs → length (cond b (x ∷ filter p xs) (filter p xs)) + 1 ≤ length (x ∷ xs)
    one true m = omega (arith, m)
    one false m = omega (arith, m)

below-pow : (w : ℕ) → w + 1 ≤ 2 ^ w
below-pow zero = omega arith
below-pow (suc w) = let m = below-pow w in let p : 2 ^ w < 2 ^ suc w = pow-lt (omega arith) in omega (arith, m, p)

three-rows : (w : ℕ) → 3 * w ≤ 2 ^ w + 3
three-rows zero = omega arith
three-rows (suc zero) = omega arith
three-rows (suc (suc w)) =
    let m = below-pow w in
    let e : 2 ^ (w + 2) ≡ 2 ^ w * 2 ^ 2 = pow-add 2 w 2 in
    let s : suc (suc w) ≡ w + 2 = omega arith in
    let k : 3 * (w + 2) ≤ 2 ^ (w + 2) + 3 = omega (arith, m, e) in
    subst (λ n. 3 * n ≤ 2 ^ n + 3) (sym s) k

-- fewer than w times three rows are no more than the square of the rows of w levels
pub rows-squared : (c w : ℕ) → c + 1 ≤ w → c * (3 * 2 ^ w) ≤ 2 ^ w * 2 ^ w
rows-squared c w h =
    let r = three-rows w in
    let t : 3 * c ≤ 2 ^ w = omega (arith, h, r) in
    let m : 3 * c * 2 ^ w ≤ 2 ^ w * 2 ^ w = mul-le-mul_right (2 ^ w) t in
    let e : c * (3 * 2 ^ w) ≡ 3 * c * 2 ^ w = grind arith in
    omega (arith, e, m)
