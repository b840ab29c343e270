-- What is left of a list.
use Rattle.std.proofs.Common.{◌≡◌, ℕ, ◌+◌, ◌<◌, ◌≤◌, List, [], ◌∷◌, drop, length, get_or, subst, add-one, drop-cons}
use Rattle.std.proofs.lemmas.List.{drop_all}
use Rattle.cb_circ.specs.Marks.{AreWithin}

pub next : {A : Type 0} (ks : List A) (i : ℕ) (d : A) → i < length ks → drop i ks ≡ get_or ks i d ∷ drop (i + 1) ks
next ks i d l = rw add-one (drop-cons ks i d l)

pub past : {A : Type 0} (ks : List A) (i : ℕ) → length ks ≤ i → drop i ks ≡ []
past ks i l = drop_all i ks l

pub within-here : (n : ℕ) (ks : List ℕ) (i : ℕ) → i < length ks → AreWithin n (drop i ks) → get_or ks i 0 < n
within-here n ks i l w = (subst (AreWithin n) (next ks i 0 l) w).0

pub within-on : (n : ℕ) (ks : List ℕ) (i : ℕ) → i < length ks → AreWithin n (drop i ks) → AreWithin n (drop (i + 1) ks)
within-on n ks i l w = (subst (AreWithin n) (next ks i 0 l) w).1
