-- The words of directives, one after another.
use Rattle.std.proofs.Common.{◌≡◌, ◌≢◌, ℕ, zero, suc, ◌+◌, ◌<◌, ◌≤◌, Bool, true, false, List, [], ◌∷◌, ◌++◌, map, drop, length, get_or, Option, Some, None, bytes_eq, slice_get, refl, sym, ◌∙◌, ap, subst, arith, add-one, drop-cons, nat_eq}
use Rattle.std.specs.Prelude.{unwrap_or}
use Rattle.std.specs.Option.{option_copied}
use Rattle.std.specs.Bool.{if◌then◌else◌}
use Rattle.std.specs.List.{list_any}
use Rattle.std.specs.Borrow.{Bor}
use Rattle.std.proofs.lemmas.List.{append_assoc}
use Rattle.std.proofs.lemmas.Slice.Eq.{bytes_eq-Decides}
use Rattle.cb_model.specs.Text.{Text}
use Rattle.cb_model.specs.declared.RawTerm.{RawTerm}
use Rattle.cb_model.specs.declared.Sort.{Sort}
use Rattle.cb_model.specs.declared.Sort.TheVariants as sort
use Rattle.cb_model.specs.declared.When.{When}
use Rattle.cb_model.specs.declared.When.TheVariants as when
use Rattle.cb_model.specs.Grammar.{Form, Forms, Variable, Integer, Name, Closed, Open, Not, And, Xor, Or, Last, More}
use Rattle.cb_model.specs.Forms.{form_of, forms_of}
use Rattle.cb_model.specs.Written.{is_name}
use Rattle.cb_model.specs.Directives.{Declared, nothing, Sign, sorts_of, looked_up, atom_word, all_words, worded, both, nonvar_at_bool, count_of}
use Rattle.cb_directives.specs.Refusals.{is_atom, is_nonvar_bool, is_nonvar_at}

-- a word that was no other
pub not_word : (name other w : Text) → false ≡ bytes_eq name other → other ≡ w → bytes_eq w name ≡ false
not_word name other w h e = step (bytes_eq w name) refl
  where
    step : (b : Bool) → bytes_eq w name ≡ b → b ≡ false
    step false s = refl
    step true s =
        let same : name ≡ other = sym ((bytes_eq-Decides w name).0 s) ∙ sym e in
        let yes : bytes_eq name other ≡ true = (bytes_eq-Decides name other).1 same in absurd (cc)

pub none_of : {A : Type 0} (a b c d : Bool) (w x y z : A) → a ≡ false → b ≡ false → c ≡ false → d ≡ false →
    None ≡ (if a then Some w else (if b then Some x else (if c then Some y else (if d then Some z else None))))
none_of a b c d w x y z p q r s = rw (p, q, r, s) refl

pub not_atom : (f : Form) (x : Text) (ts : List RawTerm) → f ≡ Name x (forms_of (map form_of ts)) → false ≡ nat_eq (length ts) 0 → is_atom f ≡ false
not_atom f x [] e h = absurd (cc)
not_atom f x (t ∷ ts) e h = ap is_atom e

-- the form of what is no name
pub word_of_atom : {A : Type 0} (ws : List (Text × A)) (f : Form) → is_atom f ≡ false → None ≡ atom_word ws f
word_of_atom ws (Variable x) h = refl
word_of_atom ws (Integer z) h = refl
word_of_atom ws (Name x Last) h = absurd (cc)
word_of_atom ws (Name x (More f fs)) h = refl
word_of_atom ws (Closed fs) h = refl
word_of_atom ws (Open fs f) h = refl
word_of_atom ws (Not f) h = refl
word_of_atom ws (And fs) h = refl
word_of_atom ws (Xor fs) h = refl
word_of_atom ws (Or fs) h = refl

-- ---- lists of words

-- items in front of a list that is there
abbrev pub prepend : {A : Type 0} → List A → Option (List A) → Option (List A)
prepend xs None = None
prepend xs (Some ys) = Some (xs ++ ys)

module _ {A : Type 0} (ws : List (Text × A)) where
  abbrev Of : List RawTerm → Option (List A)
  Of ts = all_words ws (forms_of (map form_of ts))

  prepend_none : (r : Option (List A)) → r ≡ prepend [] r
  prepend_none None = refl
  prepend_none (Some xs) = refl

  pub words_init : (ts : List RawTerm) (xs : List A) → xs ≡ [] → Of ts ≡ prepend xs (Of (drop 0 ts))
  words_init ts xs e = subst (λ (l : List A). Of ts ≡ prepend l (Of ts)) (sym e) (prepend_none (Of ts))

  prepend_both : (xs : List A) (x : A) (r : Option (List A)) → prepend xs (both (Some x) r) ≡ prepend (xs ++ x ∷ []) r
  prepend_both xs x None = refl
  prepend_both xs x (Some ys) = ap Some (sym (append_assoc xs (x ∷ []) ys))

  opened : (ts : List RawTerm) (i : ℕ) (t : RawTerm) → i < length ts → Of (drop i ts) ≡ both (atom_word ws (form_of (get_or ts i t))) (Of (drop (suc i) ts))
  opened ts i t h = ap Of (drop-cons ts i t h)

  pub words_on : (ts : List RawTerm) (i : ℕ) (xs ys : List A) (t : RawTerm) (x : A) → i < length ts → Of ts ≡ prepend xs (Of (drop i ts)) → t ≡ get_or ts i t →
      Some x ≡ atom_word ws (form_of t) → ys ≡ xs ++ x ∷ [] → Of ts ≡ prepend ys (Of (drop (i + 1) ts))
  words_on ts i xs ys t x h so at is e =
      let here : atom_word ws (form_of (get_or ts i t)) ≡ Some x = ap (λ (u : RawTerm). atom_word ws (form_of u)) (sym at) ∙ sym is in
      let next : Of (drop (suc i) ts) ≡ Of (drop (i + 1) ts) = ap (λ n. Of (drop n ts)) (sym (add-one i)) in
      so ∙ ap (prepend xs) (opened ts i t h ∙ ap (λ (r : Option A). both r (Of (drop (suc i) ts))) here) ∙ prepend_both xs x (Of (drop (suc i) ts))
      ∙ ap (λ (l : List A). prepend l (Of (drop (suc i) ts))) (sym e) ∙ ap (prepend ys) next

  both_none : (r : Option (List A)) → both None r ≡ None
  both_none None = refl
  both_none (Some xs) = refl

  pub words_none : (ts : List RawTerm) (i : ℕ) (xs : List A) (t : RawTerm) → i < length ts → Of ts ≡ prepend xs (Of (drop i ts)) → t ≡ get_or ts i t →
      None ≡ atom_word ws (form_of t) → Of ts ≡ None
  words_none ts i xs t h so at is =
      let here : atom_word ws (form_of (get_or ts i t)) ≡ None = ap (λ (u : RawTerm). atom_word ws (form_of u)) (sym at) ∙ sym is in
      so ∙ ap (prepend xs) (opened ts i t h ∙ ap (λ (r : Option A). both r (Of (drop (suc i) ts))) here ∙ both_none (Of (drop (suc i) ts)))

  pub words_end : (ts : List RawTerm) (i : ℕ) (xs : List A) → Of ts ≡ prepend xs (Of (drop i ts)) → drop i ts ≡ [] → Of ts ≡ Some xs
  words_end ts i xs so e = so ∙ ap (λ (l : List RawTerm). prepend xs (Of l)) e ∙ ap Some (nil xs)
    where
      nil : (l : List A) → l ++ [] ≡ l
      nil [] = refl
      nil (y ∷ ys) = ap (λ (l : List A). y ∷ l) (nil ys)

pub count_forms : (ts : List RawTerm) → count_of (forms_of (map form_of ts)) ≡ length ts
count_forms [] = refl
count_forms (t ∷ ts) = ap suc (count_forms ts)

-- ---- `nonvar` at Boolean places

abbrev bool_here : When → List Sort → Bool
bool_here w [] = false
bool_here w (s ∷ ss) = is_nonvar_bool w s

abbrev tail_of : List Sort → List Sort
tail_of [] = []
tail_of (s ∷ ss) = ss

nonvar_none : (ws : List When) → nonvar_at_bool ws [] ≡ false
nonvar_none [] = refl
nonvar_none (when.Any ∷ ws) = refl
nonvar_none (when.Known ∷ ws) = refl
nonvar_none (when.Fixed ∷ ws) = refl
nonvar_none (when.Nonvar ∷ ws) = refl

-- the default sorts never clash
pub nonvar_of_terms : (x : Text) (n : ℕ) (ws : List When) → nonvar_at_bool ws (sorts_of nothing (x, n)) ≡ false
nonvar_of_terms x zero ws = nonvar_none ws
nonvar_of_terms x (suc n) [] = refl
nonvar_of_terms x (suc n) (when.Any ∷ ws) = nonvar_of_terms x n ws
nonvar_of_terms x (suc n) (when.Known ∷ ws) = nonvar_of_terms x n ws
nonvar_of_terms x (suc n) (when.Fixed ∷ ws) = nonvar_of_terms x n ws
nonvar_of_terms x (suc n) (when.Nonvar ∷ ws) = nonvar_of_terms x n ws

nonvar_cons : (w : When) (ws : List When) (ss : List Sort) → bool_here w ss ≡ false → nonvar_at_bool (w ∷ ws) ss ≡ nonvar_at_bool ws (tail_of ss)
nonvar_cons w ws [] h = nonvar_none (w ∷ ws) ∙ sym (nonvar_none ws)
nonvar_cons when.Any ws (s ∷ ss) h = refl
nonvar_cons when.Known ws (s ∷ ss) h = refl
nonvar_cons when.Fixed ws (s ∷ ss) h = refl
nonvar_cons when.Nonvar ws (sort.Bool ∷ ss) h = absurd (cc)
nonvar_cons when.Nonvar ws (sort.Bus ∷ ss) h = refl
nonvar_cons when.Nonvar ws (sort.Term ∷ ss) h = refl

slice_get-get_or : (ws : List When) (n : ℕ) (w : When) → Some w ≡ slice_get ws n → w ≡ get_or ws n when.Any
slice_get-get_or [] zero w h = absurd (cc)
slice_get-get_or [] (suc n) w h = absurd (cc)
slice_get-get_or (x ∷ xs) zero w h = cc
slice_get-get_or (x ∷ xs) (suc n) w h = slice_get-get_or xs n w h

slice_get-past : (ws : List When) (n : ℕ) → None ≡ slice_get ws n → when.Any ≡ get_or ws n when.Any
slice_get-past [] zero h = refl
slice_get-past [] (suc n) h = refl
slice_get-past (x ∷ xs) zero h = absurd (cc)
slice_get-past (x ∷ xs) (suc n) h = slice_get-past xs n h

-- the word at a place, or `any` where there is none
pub at_word : (r : Option (List When)) (ws l : List When) (n : ℕ) (w : When) → Some ws ≡ r → l ≡ ws → Some w ≡ slice_get l n → w ≡ get_or (unwrap_or r []) n when.Any
at_word r ws l n w p q h = slice_get-get_or l n w h ∙ ap (λ (k : List When). get_or k n when.Any) q ∙ ap (λ (o : Option (List When)). get_or (unwrap_or o []) n when.Any) p

pub past_words : (r : Option (List When)) (ws l : List When) (n : ℕ) → Some ws ≡ r → l ≡ ws → None ≡ slice_get l n → when.Any ≡ get_or (unwrap_or r []) n when.Any
past_words r ws l n p q h = slice_get-past l n h ∙ ap (λ (k : List When). get_or k n when.Any) q ∙ ap (λ (o : Option (List When)). get_or (unwrap_or o []) n when.Any) p

pub no_words : (r : Option (List When)) (n : ℕ) → None ≡ r → when.Any ≡ get_or (unwrap_or r []) n when.Any
no_words r zero h = ap (λ (o : Option (List When)). get_or (unwrap_or o []) zero when.Any) h
no_words r (suc n) h = ap (λ (o : Option (List When)). get_or (unwrap_or o []) (suc n) when.Any) h

nonvar_yes : (w : When) (ws : List When) (ss : List Sort) → bool_here w ss ≡ true → nonvar_at_bool (w ∷ ws) ss ≡ true
nonvar_yes w ws [] h = absurd (cc)
nonvar_yes when.Any ws (s ∷ ss) h = absurd (cc)
nonvar_yes when.Known ws (s ∷ ss) h = absurd (cc)
nonvar_yes when.Fixed ws (s ∷ ss) h = absurd (cc)
nonvar_yes when.Nonvar ws (sort.Bool ∷ ss) h = refl
nonvar_yes when.Nonvar ws (sort.Bus ∷ ss) h = absurd (cc)
nonvar_yes when.Nonvar ws (sort.Term ∷ ss) h = absurd (cc)

bool_at : (w : When) (o : Option (Bor Sort)) (ss : List Sort) (i : ℕ) → option_copied o ≡ slice_get ss i → is_nonvar_at w o ≡ bool_here w (drop i ss)
bool_at w None [] i h = sym (nothing_here i)
  where
    nothing_here : (i : ℕ) → bool_here w (drop i []) ≡ false
    nothing_here zero = refl
    nothing_here (suc i) = refl
bool_at w (Some s) [] zero h = absurd (cc)
bool_at w (Some s) [] (suc i) h = absurd (cc)
bool_at w None (t ∷ ss) zero h = absurd (cc)
bool_at w (Some s) (t ∷ ss) zero h = let same : s.now ≡ t = cc in ap (is_nonvar_bool w) same
bool_at w o (t ∷ ss) (suc i) h = bool_at w o ss i h

tail_drop : (ss : List Sort) (i : ℕ) → tail_of (drop i ss) ≡ drop (suc i) ss
tail_drop [] zero = refl
tail_drop [] (suc i) = refl
tail_drop (s ∷ ss) zero = refl
tail_drop (s ∷ ss) (suc i) = tail_drop ss i

-- nothing is left behind the end
pub drop_past : {A : Type 0} (xs : List A) (i : ℕ) → length xs ≤ i → drop i xs ≡ []
drop_past [] zero h = refl
drop_past [] (suc i) h = refl
drop_past (x ∷ xs) zero h = absurd (omega arith)
drop_past (x ∷ xs) (suc i) h = drop_past xs i (omega arith)

module _ (ws : List When) (ss : List Sort) (i : ℕ) where
  abbrev NonvarLeft : Type 0
  NonvarLeft = nonvar_at_bool ws ss ≡ nonvar_at_bool (drop i ws) (drop i ss)

  pub nonvar_found : (d : When) (o : Option (Bor Sort)) → i < length ws → option_copied o ≡ slice_get ss i → NonvarLeft → true ≡ is_nonvar_at (get_or ws i d) o → true ≡ nonvar_at_bool ws ss
  nonvar_found d o h at so is =
      sym (so ∙ ap (λ (l : List When). nonvar_at_bool l (drop i ss)) (drop-cons ws i d h)
      ∙ nonvar_yes (get_or ws i d) (drop (suc i) ws) (drop i ss) (sym (bool_at (get_or ws i d) o ss i at) ∙ sym is))

  pub nonvar_on : (d : When) (o : Option (Bor Sort)) → i < length ws → option_copied o ≡ slice_get ss i → NonvarLeft → false ≡ is_nonvar_at (get_or ws i d) o →
      nonvar_at_bool ws ss ≡ nonvar_at_bool (drop (i + 1) ws) (drop (i + 1) ss)
  nonvar_on d o h at so is =
      so ∙ ap (λ (l : List When). nonvar_at_bool l (drop i ss)) (drop-cons ws i d h)
      ∙ nonvar_cons (get_or ws i d) (drop (suc i) ws) (drop i ss) (sym (bool_at (get_or ws i d) o ss i at) ∙ sym is)
      ∙ ap (nonvar_at_bool (drop (suc i) ws)) (tail_drop ss i)
      ∙ ap (λ n. nonvar_at_bool (drop n ws) (drop n ss)) (sym (add-one i))

  pub nonvar_end : length ws ≤ i → NonvarLeft → false ≡ nonvar_at_bool ws ss
  nonvar_end h so = sym (so ∙ ap (λ (l : List When). nonvar_at_bool l (drop i ss)) (drop_past ws i h))
