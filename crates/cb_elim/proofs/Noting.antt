-- What all slots use, noted one after another.
use Rattle.std.proofs.Common.{◌≡◌, inl, inr, ℕ, zero, suc, ◌+◌, ◌≤◌, List, [], ◌∷◌, length, take, Option, Some, None, sym, ap, subst, arith}
use Rattle.std.specs.Prelude.{slice_get}
use Rattle.cb_model.specs.Bits.{Each}
use Rattle.cb_dd.specs.declared.Triple.{Triple}
use Rattle.cb_trail.specs.declared.uses.Use.{Use}
use Rattle.cb_elim.specs.declared.Change.{Change}
use Rattle.cb_elim.specs.Watch.{KeepsUses, UsesNew}

pub uses-kept : (ts : List Triple) (c old new x t : ℕ) (us vs : List Use) → KeepsUses us vs → UsesNew ts c us old new x t → UsesNew ts c vs old new x t
uses-kept ts c old new x t us vs keeps w l free dead = elim (w l free dead) [ inl u ↦ inl (keeps l x t u) | inr d ↦ inr d ]

pub each-map : (P Q : Change → Type 0) (cs : List Change) → ((d : Change) → P d → Q d) → Each P cs → Each Q cs
each-map P Q [] f h = tt
each-map P Q (c ∷ cs) f h = (f c h.0, each-map P Q cs f h.1)

pub each-next : (P : Change → Type 0) (cs : List Change) (k : ℕ) (c : Change) → slice_get cs k ≡ Some c → Each P (take k cs) → P c → Each P (take (k + 1) cs)
each-next P cs k c e h w = subst (λ j. Each P (take j cs)) (let n : suc k ≡ k + 1 = omega arith in n) (go cs k c e h w)
  where
    go : (cs : List Change) (k : ℕ) (c : Change) → slice_get cs k ≡ Some c → Each P (take k cs) → P c → Each P (take (suc k) cs)
    go [] zero c e h w = tt
    go [] (suc k) c e h w = tt
    go (d ∷ cs) zero c e h w = (subst P (let f : c ≡ d = ap (λ o. some-or o c) (sym e) in f) w, one cs)
      where
        some-or : Option Change → Change → Change
        some-or None x = x
        some-or (Some y) x = y

        one : (cs : List Change) → Each P (take zero cs)
        one [] = tt
        one (x ∷ xs) = tt
    go (d ∷ cs) (suc k) c e h w = (h.0, go cs k c e h.1 w)

pub each-past : (P : Change → Type 0) (cs : List Change) (k : ℕ) → slice_get cs k ≡ None → Each P (take k cs) → Each P (take (k + 1) cs)
each-past P cs k e h = subst (λ j. Each P (take j cs)) (let n : suc k ≡ k + 1 = omega arith in n) (go cs k e h)
  where
    go : (cs : List Change) (k : ℕ) → slice_get cs k ≡ None → Each P (take k cs) → Each P (take (suc k) cs)
    go [] zero e h = tt
    go [] (suc k) e h = tt
    go (d ∷ cs) zero e h = absurd (let q : Some d ≡ None = e in cc)
    go (d ∷ cs) (suc k) e h = (h.0, go cs k e h.1)

pub each-all : (P : Change → Type 0) (cs : List Change) (k : ℕ) → length cs ≤ k → Each P (take k cs) → Each P cs
each-all P [] k le h = tt
each-all P (d ∷ cs) zero le h = absurd (omega arith)
each-all P (d ∷ cs) (suc k) le h = (h.0, each-all P cs k (omega arith) h.1)

pub each-at : (P : Change → Type 0) (cs : List Change) (k : ℕ) (c : Change) → slice_get cs k ≡ Some c → Each P cs → P c
each-at P [] k c e h = absurd (let q : None ≡ Some c = e in cc)
each-at P (d ∷ cs) zero c e h = subst P (let q : Some d ≡ Some c = e in cc) h.0
each-at P (d ∷ cs) (suc k) c e h = each-at P cs k c e h.1

pub each-none : (P : Change → Type 0) (cs : List Change) → Each P (take 0 cs)
each-none P [] = tt
each-none P (c ∷ cs) = tt
