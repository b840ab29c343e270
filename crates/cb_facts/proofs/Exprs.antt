-- Expressions over the inputs of a specification, one after another.
use Rattle.std.proofs.Common.{◌≡◌, ℕ, suc, ◌+◌, ◌<◌, ◌≤◌, Bool, true, false, ◌&&◌, List, [], ◌∷◌, ◌++◌, map, length, drop, get_or, Option, Some, None, refl, sym, ◌∙◌, ap, subst, arith, append_assoc, append-nil}
use Rattle.cb_model.specs.declared.RawTerm.{RawTerm}
use Rattle.cb_model.specs.declared.Expr.{Expr}
use Rattle.cb_model.specs.Text.{Text}
use Rattle.cb_model.specs.Grammar.{Form, Forms, Last, More}
use Rattle.cb_model.specs.Forms.{form_of, forms_of}
use Rattle.cb_model.specs.Sorts.{apart, apart_all, as_expr, as_exprs}
use Rattle.cb_model.specs.Facts.{is_spec, are_spec}
use Rattle.cb_directives.proofs.Reading.{drop_past}
use Rattle.cb_trees.proofs.Walk.{all_forms, opened}
use Rattle.cb_facts.specs.Specs.{over}

-- the terms before a place are expressions over the inputs
pub record SpecSoFar (xs : List Text) (ts : List RawTerm) (start i own : ℕ) (es : List Expr) : Type 0 where
  pub test : are_spec xs (apart_all (all_forms ts) start).0 ≡ are_spec xs (apart_all (all_forms (drop i ts)) own).0
  pub exprs : as_exprs (over xs) (apart_all (all_forms ts) start).0 ≡ es ++ as_exprs (over xs) (apart_all (all_forms (drop i ts)) own).0

module _ (xs : List Text) (ts : List RawTerm) (start : ℕ) where
  pub spec-init : (es : List Expr) → es ≡ [] → SpecSoFar xs ts start 0 start es
  spec-init es e = record { test = refl; exprs = ap (λ (l : List Expr). l ++ as_exprs (over xs) (apart_all (all_forms ts) start).0) (sym e) }

  pub spec-on : (i : ℕ) (t : RawTerm) → i < length ts → t ≡ get_or ts i t → (own next : ℕ) (es es2 : List Expr) (e : Expr) → SpecSoFar xs ts start i own es
      → (is_spec xs (apart (form_of t) own).0 ≡ true) × (e ≡ as_expr (over xs) (apart (form_of t) own).0) → next ≡ (apart (form_of t) own).1 → es2 ≡ es ++ e ∷ [] → SpecSoFar xs ts start (i + 1) next es2
  spec-on i t l at own next es es2 e so is k p = record {
    test = so.test ∙ ap (λ (fs : Forms). are_spec xs (apart_all fs own).0) (opened ts i t l at) ∙ ap (λ b. b && are_spec xs (apart_all (all_forms (drop (i + 1) ts)) (apart (form_of t) own).1).0) is.0
        ∙ ap (λ n. are_spec xs (apart_all (all_forms (drop (i + 1) ts)) n).0) (sym k);
    exprs = so.exprs ∙ ap (λ (fs : Forms). es ++ as_exprs (over xs) (apart_all fs own).0) (opened ts i t l at)
        ∙ ap (λ (y : Expr). es ++ y ∷ as_exprs (over xs) (apart_all (all_forms (drop (i + 1) ts)) (apart (form_of t) own).1).0) (sym is.1)
        ∙ ap (λ n. es ++ e ∷ as_exprs (over xs) (apart_all (all_forms (drop (i + 1) ts)) n).0) (sym k)
        ∙ sym (append_assoc es (e ∷ []) (as_exprs (over xs) (apart_all (all_forms (drop (i + 1) ts)) next).0))
        ∙ ap (λ (l : List Expr). l ++ as_exprs (over xs) (apart_all (all_forms (drop (i + 1) ts)) next).0) (sym p);
  }

  pub spec-stop : (i : ℕ) (t : RawTerm) → i < length ts → t ≡ get_or ts i t → (own : ℕ) (es : List Expr) → SpecSoFar xs ts start i own es → is_spec xs (apart (form_of t) own).0 ≡ false → are_spec xs (apart_all (all_forms ts) start).0 ≡ false
  spec-stop i t l at own es so n = so.test ∙ ap (λ (fs : Forms). are_spec xs (apart_all fs own).0) (opened ts i t l at) ∙ ap (λ b. b && are_spec xs (apart_all (all_forms (drop (i + 1) ts)) (apart (form_of t) own).1).0) n

  pub spec-end : (i : ℕ) → length ts ≤ i → (own : ℕ) (es : List Expr) → SpecSoFar xs ts start i own es → (are_spec xs (apart_all (all_forms ts) start).0 ≡ true) × (es ≡ as_exprs (over xs) (apart_all (all_forms ts) start).0)
  spec-end i l own es so = (
    so.test ∙ ap (λ (us : List RawTerm). are_spec xs (apart_all (all_forms us) own).0) (drop_past ts i l),
    sym (so.exprs ∙ ap (λ (us : List RawTerm). es ++ as_exprs (over xs) (apart_all (all_forms us) own).0) (drop_past ts i l) ∙ append-nil es),
  )
