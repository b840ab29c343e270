-- Lists that are joined by commas, item by item.
use Rattle.std.proofs.Common.{◌≡◌, ℕ, zero, suc, ◌+◌, ◌-◌, ◌<◌, ◌≤◌, List, [], ◌∷◌, ◌++◌, map, codes, flat_map, Result, Ok, Err, OnOk, refl, sym, ap, ◌∙◌, arith, append_assoc, append-nil}
use Rattle.cb_model.specs.Bits.{numbers, numbers_from}
use Rattle.cb_model.specs.Text.{Text, joined}

-- what is said of an answer is said in another way
pub on-ok : {A E : Type 0} {P Q : Type 0} (r : Result A E) → (P → Q) → OnOk r P → OnOk r Q
on-ok (Ok a) f h = f h
on-ok (Err e) f h = h

-- the numbers from one below the end begin with it
pub from-here : (i n : ℕ) → i < n → numbers_from i (n - i) ≡ i ∷ numbers_from (suc i) (n - suc i)
from-here i n h = let e : n - i ≡ suc (n - suc i) = omega arith in ap (numbers_from i) e

pub from-end : (i n : ℕ) → n ≤ i → numbers_from i (n - i) ≡ []
from-end i n h = let e : n - i ≡ 0 = omega arith in ap (numbers_from i) e

joined-more : (a x : Text) (ys : List Text) → joined (codes ",") (a ∷ (ys ++ x ∷ [])) ≡ (a ++ codes ",") ++ joined (codes ",") (ys ++ x ∷ [])
joined-more a x [] = refl
joined-more a x (y ∷ ys) = refl

-- what is left to be joined, from an item on, with a last one
pub left : (ℕ → Text) → Text → ℕ → ℕ → Text
left f x i n = joined (codes ",") (map f (numbers_from i (n - i)) ++ x ∷ [])

pub left-all : (f : ℕ → Text) (x : Text) (n : ℕ) → left f x 0 n ≡ joined (codes ",") (map f (numbers n) ++ x ∷ [])
unfolding left
left-all f x n = ap (λ k. joined (codes ",") (map f (numbers_from 0 k) ++ x ∷ [])) (let e : n - 0 ≡ n = omega arith in e)

pub left-none : (f : ℕ → Text) (x : Text) (i n : ℕ) → n ≤ i → left f x i n ≡ x
unfolding left
left-none f x i n h = ap (λ ks. joined (codes ",") (map f ks ++ x ∷ [])) (from-end i n h)

-- an item and a comma more
pub left-more : (f : ℕ → Text) (x : Text) (i j n : ℕ) (before now : Text) → i < n → j ≡ suc i → now ≡ (before ++ f i) ++ codes "," → now ++ left f x j n ≡ before ++ left f x i n
unfolding left
left-more f x i j n before now h next e =
    ap (λ k. now ++ left f x k n) next ∙
    (let rest = joined (codes ",") (map f (numbers_from (suc i) (n - suc i)) ++ x ∷ []) in
    ap (λ t. t ++ rest) (e ∙ append_assoc before (f i) (codes ",")) ∙ append_assoc before (f i ++ codes ",") rest
    ∙ ap (λ t. before ++ t) (sym (joined-more (f i) x (map f (numbers_from (suc i) (n - suc i)))) ∙ ap (λ ks. joined (codes ",") (map f ks ++ x ∷ [])) (sym (from-here i n h))))

-- all but the last item, and the last
pub last-apart : (f : ℕ → Text) (n : ℕ) → map f (numbers (suc n)) ≡ map f (numbers n) ++ f n ∷ []
last-apart f n = at_end 0 n n (omega arith)
  where
    at_end : (i k m : ℕ) → i + k ≡ m → map f (numbers_from i (suc k)) ≡ map f (numbers_from i k) ++ f m ∷ []
    at_end i zero m e = ap (λ j. f j ∷ []) (let h : i ≡ m = omega arith in h)
    at_end i (suc k) m e = ap (λ t. f i ∷ t) (at_end (suc i) k m (omega arith))

-- the inputs of the bits that are left, each behind a comma
pub pairs : (ℕ → Text) → ℕ → ℕ → Text
pairs f i n = flat_map f (numbers_from i (n - i))

pub pairs-none : (f : ℕ → Text) (i n : ℕ) → n ≤ i → pairs f i n ≡ []
unfolding pairs
pairs-none f i n h = ap (flat_map f) (from-end i n h)

pub pairs-more : (f : ℕ → Text) (i j n : ℕ) (before now : Text) → i < n → j ≡ suc i → now ≡ before ++ f i → now ++ pairs f j n ≡ before ++ pairs f i n
unfolding pairs
pairs-more f i j n before now h next e =
    ap (λ k. now ++ pairs f k n) next ∙ ap (λ t. t ++ flat_map f (numbers_from (suc i) (n - suc i))) e ∙ append_assoc before (f i) (flat_map f (numbers_from (suc i) (n - suc i)))
    ∙ ap (λ ks. before ++ flat_map f ks) (sym (from-here i n h))

-- a first text, and then two for each number, joined
pub joined-pairs : (x : Text) (a b : ℕ → Text) (ks : List ℕ) → joined (codes ",") (x ∷ flat_map (λ i. a i ∷ b i ∷ []) ks) ≡ x ++ flat_map (λ i. 44 ∷ (a i ++ codes "," ++ b i)) ks
joined-pairs x a b [] = sym (append-nil x)
joined-pairs x a b (k ∷ ks) =
    let rest = flat_map (λ i. 44 ∷ (a i ++ codes "," ++ b i)) ks in
    ap (λ t. (x ++ codes ",") ++ ((a k ++ codes ",") ++ t)) (joined-pairs (b k) a b ks)
    ∙ append_assoc x (codes ",") ((a k ++ codes ",") ++ (b k ++ rest))
    ∙ ap (λ t. x ++ (44 ∷ t)) (sym (append_assoc (a k ++ codes ",") (b k) rest))

pub pairs-all : (f : ℕ → Text) (n : ℕ) → pairs f 0 n ≡ flat_map f (numbers n)
unfolding pairs
pairs-all f n = ap (λ k. flat_map f (numbers_from 0 k)) (let e : n - 0 ≡ n = omega arith in e)
