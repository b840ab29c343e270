-- The way back to moments.
use Rattle.std.proofs.Common.{◌≡◌, inl, inr, ℕ, zero, suc, ◌<◌, ◌≤◌, Bool, true, false, List, [], ◌∷◌, ◌++◌, length, take, drop, Some, refl, sym, ap, subst, ◌∙◌, arith, length-append}
use Rattle.std.specs.Prelude.{slice_set, slice_get}
use Rattle.std.proofs.lemmas.Bool.{cases_lt}
use Rattle.std.proofs.lemmas.List.{take-set-le, set_past, take-append-le, drop-append-le, length-take, length-set}
use Rattle.std.proofs.Math.Seq.{take-set-lt, take-length, drop-length}
use Rattle.cb_wake.specs.Waits.{Waits, without}
use Rattle.cb_wake.specs.Moments.{Moment, IsMoment, KeepsMoments, moment_of, put_back, reverted}

take-set-any : (k : ℕ) (xs : List Bool) (i : ℕ) (b : Bool) → take k (slice_set xs i b) ≡ slice_set (take k xs) i b
take-set-any k xs i b = elim (cases_lt i k) [
  | inl less ↦ take-set-lt k xs i b less
  | inr more ↦ take-set-le k xs i b more ∙ sym (set_past (take k xs) i b (omega (arith, length-take k xs)))
]

pub take-put : (k : ℕ) (ks : List ℕ) (xs : List Bool) → take k (put_back ks xs) ≡ put_back ks (take k xs)
take-put k [] xs = refl
take-put k (i ∷ ks) xs = take-set-any k (put_back ks xs) i true ∙ ap (λ ys. slice_set ys i true) (take-put k ks xs)

put-append : (ks is : List ℕ) (xs : List Bool) → put_back (ks ++ is) xs ≡ put_back ks (put_back is xs)
put-append [] is xs = refl
put-append (k ∷ ks) is xs = ap (λ ys. slice_set ys k true) (put-append ks is xs)

-- a goal that waited waits again
set-again : (xs : List Bool) (k : ℕ) → slice_get xs k ≡ Some true → slice_set (slice_set xs k false) k true ≡ xs
set-again [] k e = refl
set-again (true ∷ xs) zero e = refl
set-again (false ∷ xs) zero e = absurd (cc)
set-again (x ∷ xs) (suc k) e = ap (λ ys. x ∷ ys) (set-again xs k e)

-- ---- what keeps the moments

pub keeps-self : (w : Waits) → KeepsMoments w w
keeps-self w = record { moments = λ m h. h; same = λ m h. refl }

pub keeps-then : (u v w : Waits) → KeepsMoments u v → KeepsMoments v w → KeepsMoments u w
keeps-then u v w h k = record { moments = λ m i. k.moments m (h.moments m i); same = λ m i. k.same m (h.moments m i) ∙ h.same m i }

-- the same goals
pub keeps-same : (v w : Waits) → w ≡ v → KeepsMoments v w
keeps-same v w e = subst (λ u. KeepsMoments v u) (sym e) (keeps-self v)

-- one goal more
abbrev pub parked_more : Waits → Waits
parked_more w = record w { still = w.still ++ true ∷ [] }

pub keeps-parked : (w : Waits) → KeepsMoments w (parked_more w)
keeps-parked w = record {
  moments = λ m h. record { parked = let a = h.parked in omega (arith, length-append w.still (true ∷ []), a); taken = h.taken };
  same = λ m h. ap (λ xs. record { still = put_back (drop m.taken w.taken) xs; taken = take m.taken w.taken }) (take-append-le m.parked w.still (true ∷ []) h.parked);
}

-- one goal taken
pub keeps-taken : (w : Waits) (k : ℕ) → slice_get w.still k ≡ Some true → KeepsMoments w (without k w)
keeps-taken w k e = record {
  moments = λ m h. record { parked = let a = h.parked in omega (arith, same-length, a); taken = let a = h.taken in omega (arith, length-append w.taken (k ∷ []), a) };
  same = λ m h. (λ i. record { still = still-back m h i; taken = take-append-le m.taken w.taken (k ∷ []) h.taken i });
}
  where
    same-length : length (slice_set w.still k false) ≡ length w.still
    same-length = length-set w.still k false

    still-back : (m : Moment) → IsMoment m w → put_back (drop m.taken (w.taken ++ k ∷ [])) (take m.parked (slice_set w.still k false)) ≡ put_back (drop m.taken w.taken) (take m.parked w.still)
    still-back m h =
        ap (λ ks. put_back ks (take m.parked (slice_set w.still k false))) (drop-append-le m.taken w.taken (k ∷ []) h.taken)
        ∙ put-append (drop m.taken w.taken) (k ∷ []) (take m.parked (slice_set w.still k false))
        ∙ ap (λ xs. put_back (drop m.taken w.taken) xs)
        (sym (take-put m.parked (k ∷ []) (slice_set w.still k false)) ∙ ap (λ xs. take m.parked xs) (set-again w.still k e))

-- ---- one goal put back

pub still-step : (to : ℕ) (taken new : List ℕ) (still : List Bool) (k : ℕ) → taken ≡ new ++ k ∷ [] → to < length taken → put_back (drop to new) (slice_set still k true) ≡ put_back (drop to taken) still
still-step to taken new still k e h =
    sym (ap (λ xs. put_back (drop to xs) still) e
    ∙ ap (λ xs. put_back xs still) (drop-append-le to new (k ∷ []) (let d = ap length e in omega (arith, length-append new (k ∷ []))))
    ∙ put-append (drop to new) (k ∷ []) still)

-- one that is parked no longer
pub still-past : (to : ℕ) (taken new : List ℕ) (still : List Bool) (k : ℕ) → taken ≡ new ++ k ∷ [] → to < length taken → length still ≤ k → put_back (drop to new) still ≡ put_back (drop to taken) still
still-past to taken new still k e h p = ap (λ xs. put_back (drop to new) xs) (sym (set_past still k true p)) ∙ still-step to taken new still k e h

pub taken-step : (to : ℕ) (taken new : List ℕ) (k : ℕ) → taken ≡ new ++ k ∷ [] → to < length taken → take to new ≡ take to taken
taken-step to taken new k e h = sym (ap (λ xs. take to xs) e ∙ take-append-le to new (k ∷ []) (let d = ap length e in omega (arith, length-append new (k ∷ []))))

pub mark-step : (to : ℕ) (taken new : List ℕ) (k : ℕ) → taken ≡ new ++ k ∷ [] → to < length taken → to ≤ length new
mark-step to taken new k e h = let d = ap length e in omega (arith, length-append new (k ∷ []))

-- ---- the whole way back

back-now : (w : Waits) → reverted (moment_of w) w ≡ w
back-now w = (λ i. record { still = still i; taken = take-length w.taken i })
  where
    still : put_back (drop (length w.taken) w.taken) (take (length w.still) w.still) ≡ w.still
    still = ap (λ ks. put_back ks (take (length w.still) w.still)) (drop-length w.taken) ∙ take-length w.still

now-moment : (w : Waits) → IsMoment (moment_of w) w
now-moment w = record { parked = omega arith; taken = omega arith }

pub back-to : (w now : Waits) (m : Moment) → m ≡ moment_of w → KeepsMoments w now → reverted m now ≡ w
back-to w now m e k = ap (λ (n : Moment). reverted n now) e ∙ k.same (moment_of w) (now-moment w) ∙ back-now w

pub undo-is : (now w : Waits) → w ≡ now → (m n : Moment) → n ≡ m → (taken : List ℕ) → taken ≡ take n.taken w.taken → (still : List Bool) → still ≡ take n.parked (put_back (drop n.taken w.taken) w.still) →
    record { still = still; taken = taken } ≡ reverted m now
undo-is now w is m n im taken te still se =
    (λ i. record { still = whole i; taken = te i })
    ∙ (λ i. reverted (im i) (is i))
  where
    whole : still ≡ put_back (drop n.taken w.taken) (take n.parked w.still)
    whole = se ∙ take-put n.parked (drop n.taken w.taken) w.still
