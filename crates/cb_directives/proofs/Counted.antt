-- How many sorts are declared.
use Rattle.std.proofs.Common.{◌≡◌, ℕ, zero, suc, Bool, true, false, ◌&&◌, List, [], ◌∷◌, ◌++◌, map, length, Option, Some, None, refl, sym, ◌∙◌, ap, subst, arith, eqb, bytes_eq}
use Rattle.std.specs.Prelude.{unwrap_or}
use Rattle.std.specs.Bool.{if◌then◌else◌}
use Rattle.std.proofs.lemmas.Bool.{and_parts, eqb-true}
use Rattle.cb_model.specs.Text.{Text}
use Rattle.cb_model.specs.declared.Sort.{Sort}
use Rattle.cb_model.specs.declared.RawTerm.{RawTerm}
use Rattle.cb_model.specs.Grammar.{Form, Forms, Last, More}
use Rattle.cb_model.specs.Forms.{form_of, forms_of}
use Rattle.cb_model.specs.Directives.{Sign, same_sign, count_of, looked_up, Declared, nothing, both, atom_word, all_words, sort_words, sorts_of}
use Rattle.cb_directives.specs.Kept.{AreCounted}
use Rattle.cb_directives.proofs.Reading.{count_forms}

module _ (a b : Sign) (ss : List Sort) (n : length ss ≡ a.1) where
  abbrev Fits : List (Sign × List Sort) → Type 0
  Fits es = (ts : List Sort) → looked_up es b ≡ Some ts → length ts ≡ b.1

  one_more : (es : List (Sign × List Sort)) → Fits es → Fits (es ++ (a, ss) ∷ [])
  one_more [] h ts l = step (same_sign b a) refl l
    where
      step : (c : Bool) → same_sign b a ≡ c → (if c then Some ss else None) ≡ Some ts → length ts ≡ b.1
      step true e l =
          let same : b.1 ≡ a.1 = eqb-true b.1 a.1 (and_parts (bytes_eq b.0 a.0) (eqb b.1 a.1) e).1 in
          let lists : ss ≡ ts = cc in
          sym (ap length lists) ∙ n ∙ sym same
      step false e l = absurd (cc)
  one_more (e ∷ es) h ts l = step (same_sign b e.0) h (one_more es) ts l
    where
      step : (c : Bool) → ((ts : List Sort) → (if c then Some e.1 else looked_up es b) ≡ Some ts → length ts ≡ b.1) → (Fits es → Fits (es ++ (a, ss) ∷ [])) →
          (ts : List Sort) → (if c then Some e.1 else looked_up (es ++ (a, ss) ∷ []) b) ≡ Some ts → length ts ≡ b.1
      step true h r = h
      step false h r = r h

pub counted_more : (es more : List (Sign × List Sort)) (a : Sign) (ss : List Sort) → more ≡ es ++ (a, ss) ∷ [] → AreCounted es → length ss ≡ a.1 → AreCounted more
counted_more es more a ss e h n b ts l = one_more a b ss n es (h b) ts (sym (ap (λ (m : List (Sign × List Sort)). looked_up m b) e) ∙ l)

words_of : (fs : Forms) (ss : List Sort) → all_words sort_words fs ≡ Some ss → length ss ≡ count_of fs
words_of Last [] h = refl
words_of Last (s ∷ ss) h = absurd (cc)
words_of (More f fs) ss h = step (atom_word sort_words f) (all_words sort_words fs) (words_of fs) ss h
  where
    step : (o : Option Sort) (r : Option (List Sort)) → ((ts : List Sort) → r ≡ Some ts → length ts ≡ count_of fs) → (ss : List Sort) → both o r ≡ Some ss → length ss ≡ suc (count_of fs)
    step None r g ss h = absurd (cc)
    step (Some s) None g ss h = absurd (cc)
    step (Some s) (Some ts) g [] h = absurd (cc)
    step (Some s) (Some ts) g (t ∷ us) h = let same : ts ≡ us = cc in ap suc (g us (ap Some same))

pub words_count : (ts : List RawTerm) (ss : List Sort) → all_words sort_words (forms_of (map form_of ts)) ≡ Some ss → length ss ≡ length ts
words_count ts ss h = words_of (forms_of (map form_of ts)) ss h ∙ count_forms ts

plain_count : (x : Text) (n : ℕ) → length (sorts_of nothing (x, n)) ≡ n
plain_count x zero = refl
plain_count x (suc n) = ap suc (plain_count x n)

pub counted_law : (d : Declared) → AreCounted d.sorts → (a : Sign) → length (sorts_of d a) ≡ a.1
counted_law d h a = step (looked_up d.sorts a) (h a)
  where
    step : (o : Option (List Sort)) → ((ss : List Sort) → o ≡ Some ss → length ss ≡ a.1) → length (unwrap_or o (sorts_of nothing (a.0, a.1))) ≡ a.1
    step None g = plain_count a.0 a.1
    step (Some ss) g = g ss refl
