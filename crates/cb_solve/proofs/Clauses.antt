-- The first clause of a predicate is one of the program, and of the predicate.
use Rattle.std.proofs.Common.{◌≡◌, ℕ, zero, suc, ◌+◌, Bool, true, false, List, [], ◌∷◌, drop, length, ◌<◌, Some, refl, sym, subst, arith, zero-add, cond}
use Rattle.std.specs.Prelude.{slice_get, nat_eq}
use Rattle.std.proofs.lemmas.Bool.{eqb-true}
use Rattle.cb_model.specs.declared.Clause.{Clause}
use Rattle.cb_model.specs.Program.{first_from}

pub record Found (pred : ℕ) (cs : List Clause) (at k : ℕ) : Type 0 where
  pub place : ℕ
  pub clause : Clause
  pub is : k ≡ at + place
  pub there : slice_get cs place ≡ Some clause
  pub of : clause.pred ≡ pred

found-at : (pred at k : ℕ) (c : Clause) (cs : List Clause) (b : Bool) → (first_from pred (suc at) cs ≡ Some k → Found pred cs (suc at) k) → nat_eq c.pred pred ≡ b →
    (cond b (Some at) (first_from pred (suc at) cs)) ≡ Some k → Found pred (c ∷ cs) at k
found-at pred at k c cs true ih t e = let h : at ≡ k = cc in record { place = 0; clause = c; is = omega arith; there = refl; of = eqb-true c.pred pred t }
found-at pred at k c cs false ih t e =
    let f = ih e in
    record { place = suc f.place; clause = f.clause; is = let h = f.is in omega arith; there = f.there; of = f.of }

pub found : (pred at k : ℕ) (cs : List Clause) → first_from pred at cs ≡ Some k → Found pred cs at k
found pred at k [] e = absurd (cc)
found pred at k (c ∷ cs) e = found-at pred at k c cs (nat_eq c.pred pred) (λ h. found pred (suc at) k cs h) refl e

pub get-drop : (cs : List Clause) (i j : ℕ) (c : Clause) → slice_get (drop i cs) j ≡ Some c → slice_get cs (i + j) ≡ Some c
get-drop cs zero j c e = subst (λ (x : ℕ). slice_get cs x ≡ Some c) (sym (zero-add j)) e
get-drop [] (suc i) j c e = absurd (cc)
get-drop (d ∷ cs) (suc i) j c e = let h : suc i + j ≡ suc (i + j) = omega arith in subst (λ (x : ℕ). slice_get (d ∷ cs) x ≡ Some c) (sym h) (get-drop cs i j c e)

-- the first clause
pub first-there : (pred k : ℕ) (cs : List Clause) → first_from pred 0 cs ≡ Some k → (c : Clause) × (slice_get cs k ≡ Some c) × (c.pred ≡ pred)
first-there pred k cs e =
    let f = found pred 0 k cs e in
    let h : f.place ≡ k = let i = f.is in omega arith in
    (f.clause, subst (λ (x : ℕ). slice_get cs x ≡ Some f.clause) h f.there, f.of)

-- the next one
pub next-there : (pred n k : ℕ) (cs : List Clause) → first_from pred (suc n) (drop (suc n) cs) ≡ Some k → (c : Clause) × (slice_get cs k ≡ Some c) × (c.pred ≡ pred)
next-there pred n k cs e =
    let f = found pred (suc n) k (drop (suc n) cs) e in
    (f.clause, subst (λ (x : ℕ). slice_get cs x ≡ Some f.clause) (sym f.is) (get-drop cs (suc n) f.place f.clause f.there), f.of)

-- a clause that is there has a number below theirs
pub got-below : (cs : List Clause) (k : ℕ) (c : Clause) → slice_get cs k ≡ Some c → k < length cs
got-below [] k c e = absurd (cc)
got-below (d ∷ cs) zero c e = omega arith
got-below (d ∷ cs) (suc k) c e = let h = got-below cs k c e in omega arith
