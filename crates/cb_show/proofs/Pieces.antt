-- Pieces that are appended one after another.
use Rattle.std.proofs.Common.{◌≡◌, ℕ, zero, suc, ◌+◌, ◌<◌, ◌≤◌, List, [], ◌∷◌, ◌++◌, map, length, drop, refl, sym, ◌∙◌, ap, subst, arith, append_assoc, append-nil}
use Rattle.std.proofs.lemmas.List.{drop_more}
use Rattle.std.specs.Prelude.{get_or}
use Rattle.cb_model.specs.Text.{Text, joined}
use Rattle.cb_model.specs.Bits.{Each}
use Rattle.cb_show.specs.Steps.{behind}

pub joined_behind : (sep x : Text) (xs : List Text) → joined sep (x ∷ xs) ≡ x ++ behind sep xs
joined_behind sep x [] = sym (append-nil x)
joined_behind sep x (y ∷ ys) =
    ap (λ u. x ++ sep ++ u) (joined_behind sep y ys) ∙ append_assoc x sep (y ++ behind sep ys) ∙ sym (ap (λ u. x ++ u) (append_assoc sep y (behind sep ys)))

pub none_left : {A : Type 0} (xs : List A) (i : ℕ) → length xs ≤ i → drop i xs ≡ []
none_left [] zero h = refl
none_left [] (suc i) h = refl
none_left (x ∷ xs) zero h = absurd (omega arith)
none_left (x ∷ xs) (suc i) h = none_left xs i (omega arith)

pub each_at : {A : Type 0} (P : A → Type 0) (xs : List A) (i : ℕ) (d : A) → Each P xs → i < length xs → P (get_or xs i d)
each_at P [] i d e h = absurd (omega arith)
each_at P (x ∷ xs) zero d e h = e.0
each_at P (x ∷ xs) (suc i) d e h = each_at P xs i d e.1 (omega arith)

-- ---- the pieces of a list, each with its text

module _ {A : Type 0} (sep : Text) (text : A → Text) where
  -- what was appended so far, and what is left, are the whole
  abbrev pub Left : Text → Text → List A → List A → Type 0
  Left start now left all = now ++ behind sep (map text left) ≡ start ++ behind sep (map text all)

  -- a separator and the next piece
  pub one_more : (start now mid new : Text) (x : A) (left all : List A) → Left start now (x ∷ left) all → mid ≡ now ++ sep → new ≡ mid ++ text x → Left start new left all
  one_more start now mid new x left all h e f =
      ap (λ u. u ++ behind sep (map text left)) (f ∙ ap (λ u. u ++ text x) e)
      ∙ ap (λ u. u ++ behind sep (map text left)) (append_assoc now sep (text x)) ∙ append_assoc now (sep ++ text x) (behind sep (map text left)) ∙ h

  pub next_at : (start now mid new : Text) (i : ℕ) (d : A) (all : List A) → i < length all → Left start now (drop i all) all → mid ≡ now ++ sep →
      new ≡ mid ++ text (get_or all i d) → Left start new (drop (i + 1) all) all
  next_at start now mid new i d all l h e f =
      one_more start now mid new (get_or all i d) (drop (i + 1) all) all (subst (λ ys. Left start now ys all) (drop_more all i d l) h) e f

  -- none is left
  pub whole : (old start now : Text) (x : A) (left all : List A) → Left start now left all → left ≡ [] → start ≡ old ++ text x → now ≡ old ++ joined sep (map text (x ∷ all))
  whole old start now x left all h e f =
      sym (append-nil now) ∙ sym (ap (λ ys. now ++ behind sep (map text ys)) e) ∙ h ∙ ap (λ u. u ++ behind sep (map text all)) f
      ∙ append_assoc old (text x) (behind sep (map text all)) ∙ sym (ap (λ u. old ++ u) (joined_behind sep (text x) (map text all)))
