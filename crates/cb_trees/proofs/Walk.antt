-- Written terms, one after another, with each `_` a variable of its own.
use Rattle.std.proofs.Common.{◌≡◌, ℕ, suc, ◌+◌, ◌<◌, ◌≤◌, Bool, true, false, ◌&&◌, List, [], ◌∷◌, ◌++◌, map, drop, length, get_or, refl, sym, ◌∙◌, ap, add-one, drop-cons}
use Rattle.std.proofs.lemmas.List.{append-nil, append_assoc}
use Rattle.cb_model.specs.declared.RawTerm.{RawTerm}
use Rattle.cb_model.specs.declared.Expr.{Expr}
use Rattle.cb_model.specs.Grammar.{Forms, More}
use Rattle.cb_model.specs.Forms.{form_of, forms_of}
use Rattle.cb_model.specs.Written.{is_written, are_written}
use Rattle.cb_model.specs.Sorts.{apart, apart_all, Numbering, as_expr, as_exprs}
use Rattle.cb_directives.proofs.Reading.{drop_past}

-- the forms of terms
abbrev pub all_forms : List RawTerm → Forms
all_forms ts = forms_of (map form_of ts)

and_left : (a b : Bool) → (a && b) ≡ true → a ≡ true
and_left true b h = refl
and_left false b h = absurd (cc)

and_right : (a b : Bool) → (a && b) ≡ true → b ≡ true
and_right true b h = h
and_right false b h = absurd (cc)

-- the terms from a place on are in the written form, and what the walk makes of all is what it makes of these
abbrev pub OwnSoFar : List RawTerm → ℕ → ℕ → ℕ → Type 0
OwnSoFar ts start i own = (apart_all (all_forms ts) start).1 ≡ (apart_all (all_forms (drop i ts)) own).1

abbrev pub ExprsSoFar : Numbering → List RawTerm → ℕ → ℕ → ℕ → List Expr → List Expr → Type 0
ExprsSoFar n ts start i own before now = before ++ as_exprs n (apart_all (all_forms ts) start).0 ≡ now ++ as_exprs n (apart_all (all_forms (drop i ts)) own).0

module _ (ts : List RawTerm) (i : ℕ) (t : RawTerm) (h : i < length ts) (at : t ≡ get_or ts i t) where
  pub opened : all_forms (drop i ts) ≡ More (form_of t) (all_forms (drop (i + 1) ts))
  opened =
      ap all_forms (drop-cons ts i t h) ∙ ap (λ (u : RawTerm). More (form_of u) (all_forms (drop (suc i) ts))) (sym at)
      ∙ ap (λ n. More (form_of t) (all_forms (drop n ts))) (sym (add-one i))

  pub written_here : are_written (all_forms (drop i ts)) ≡ true → is_written (form_of t) ≡ true
  written_here w = and_left (is_written (form_of t)) (are_written (all_forms (drop (i + 1) ts))) (sym (ap are_written opened) ∙ w)

  pub written_on : are_written (all_forms (drop i ts)) ≡ true → are_written (all_forms (drop (i + 1) ts)) ≡ true
  written_on w = and_right (is_written (form_of t)) (are_written (all_forms (drop (i + 1) ts))) (sym (ap are_written opened) ∙ w)

  pub own_on : (start own next : ℕ) → OwnSoFar ts start i own → next ≡ (apart (form_of t) own).1 → OwnSoFar ts start (i + 1) next
  own_on start own next so e =
      so ∙ ap (λ (fs : Forms). (apart_all fs own).1) opened ∙ ap (λ k. (apart_all (all_forms (drop (i + 1) ts)) k).1) (sym e)

  pub exprs_on : (n : Numbering) (start own next : ℕ) (before now then' : List Expr) (x : Expr) → ExprsSoFar n ts start i own before now → x ≡ as_expr n (apart (form_of t) own).0 →
      next ≡ (apart (form_of t) own).1 → then' ≡ now ++ x ∷ [] → ExprsSoFar n ts start (i + 1) next before then'
  exprs_on n start own next before now then' x so e k p =
      so ∙ ap (λ (fs : Forms). now ++ as_exprs n (apart_all fs own).0) opened
      ∙ ap (λ (y : Expr). now ++ y ∷ as_exprs n (apart_all (all_forms (drop (i + 1) ts)) (apart (form_of t) own).1).0) (sym e)
      ∙ ap (λ m. now ++ x ∷ as_exprs n (apart_all (all_forms (drop (i + 1) ts)) m).0) (sym k)
      ∙ sym (append_assoc now (x ∷ []) (as_exprs n (apart_all (all_forms (drop (i + 1) ts)) next).0))
      ∙ ap (λ (l : List Expr). l ++ as_exprs n (apart_all (all_forms (drop (i + 1) ts)) next).0) (sym p)

pub own_end : (ts : List RawTerm) (start i own : ℕ) → length ts ≤ i → OwnSoFar ts start i own → own ≡ (apart_all (all_forms ts) start).1
own_end ts start i own h so = sym (so ∙ ap (λ (l : List RawTerm). (apart_all (all_forms l) own).1) (drop_past ts i h))

pub exprs_end : (n : Numbering) (ts : List RawTerm) (start i own : ℕ) (before now : List Expr) → length ts ≤ i → ExprsSoFar n ts start i own before now →
    now ≡ before ++ as_exprs n (apart_all (all_forms ts) start).0
exprs_end n ts start i own before now h so =
    sym (so ∙ ap (λ (l : List RawTerm). now ++ as_exprs n (apart_all (all_forms l) own).0) (drop_past ts i h) ∙ append-nil now)
