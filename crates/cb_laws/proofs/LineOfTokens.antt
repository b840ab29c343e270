-- The line of each token is that of its first byte.
use Rattle.std.proofs.Common.{◌≡◌, ℕ, ◌+◌, Bool, true, false, ◌&&◌, ◌⊎◌, List, [], ◌∷◌, ◌++◌, length, take, drop, refl, sym, ◌∙◌, ap, subst, inl, inr, arith, rules, append_assoc, length-append}
use Rattle.std.proofs.Math.Seq.{take-append_seam}
use Rattle.std.proofs.lemmas.List.{take-append-drop, length-take-le}
use Rattle.std.proofs.lemmas.List.Sums.{sum_by-cons, sum_by-append}
use Rattle.std.specs.Prelude.{Option, Some, ◌==◌, if◌then◌else◌, bytes_eq, count_by, pos, neg_ℤ}
use Rattle.std.specs.List.{list_all}
use Rattle.cb_model.specs.declared.Kind.{Kind}
use Rattle.cb_model.specs.declared.Kind.TheVariants as kind
use Rattle.cb_model.specs.Bits.{Each}
use Rattle.cb_model.specs.Text.{Text, is_small, is_capital, is_digit, is_word}
use Rattle.cb_model.specs.Tokens.{Token, Fault, Lexes, ended, layout, comment, token, number, quote, byte, spelled, is_quotable, is_quoted, is_number, marks, mark_named, from_newline, line_at, digits_value}
use Rattle.cb_laws.specs.Laws.{TokenLines}
use Rattle.cb_laws.proofs.Decided.{and_true}

-- ---- bytes 10

abbrev ends : Text → ℕ
ends s = count_by (λ x. x == 10) s

abbrev one_end : Bool → ℕ
one_end b = if b then 1 else 0

ends_cons : (x : ℕ) (xs : Text) → ends (x ∷ xs) ≡ one_end (x == 10) + ends xs
ends_cons x xs = sum_by-cons (λ y. one_end (y == 10)) x xs

ends_append : (xs ys : Text) → ends (xs ++ ys) ≡ ends xs + ends ys
ends_append xs ys = sum_by-append (λ y. one_end (y == 10)) xs ys

same_number : (n m : ℕ) → (n == m) ≡ true → n ≡ m
same_number n m h = search rules

-- a byte of a class without the byte 10 is not it
not_end : (P : ℕ → Bool) (x : ℕ) → P 10 ≡ false → P x ≡ true → (x == 10) ≡ false
not_end P x e h = go (x == 10) refl
  where
    go : (b : Bool) → (x == 10) ≡ b → b ≡ false
    go false k = refl
    go true k = let z : true ≡ false = sym h ∙ ap P (same_number x 10 k) ∙ e in absurd (cc)

no_ends : (P : ℕ → Bool) (s : Text) → P 10 ≡ false → list_all P s ≡ true → ends s ≡ 0
no_ends P [] e h = refl
no_ends P (x ∷ xs) e h =
    ends_cons x xs ∙ ap (λ b. one_end b + ends xs) (not_end P x e (and_true _ _ h).0) ∙ ap (λ k. 0 + k) (no_ends P xs e (and_true _ _ h).1)

first_no_end : (P : ℕ → Bool) (x : ℕ) (xs : Text) → P 10 ≡ false → P x ≡ true → ends xs ≡ 0 → ends (x ∷ xs) ≡ 0
first_no_end P x xs e h k = ends_cons x xs ∙ ap (λ b. one_end b + ends xs) (not_end P x e h) ∙ ap (λ k. 0 + k) k

-- ---- no token has one

split_if : {A : Type 0} (b : Bool) (u v w : A) → (if b then u else v) ≡ w → (b ≡ true) ⊎ (v ≡ w)
split_if true u v w h = inl refl
split_if false u v w h = inr h

same_bytes : (xs ys : Text) → bytes_eq xs ys ≡ true → xs ≡ ys
same_bytes xs ys h = search rules

quoted_ends : (s : Text) → is_quoted s ≡ true → ends s ≡ 0
quoted_ends [] h = absurd (cc)
quoted_ends (x ∷ []) h = first_no_end (λ y. y == 39) x [] refl h refl
quoted_ends (x ∷ y ∷ ys) h = first_no_end is_quotable x (y ∷ ys) refl (and_true _ _ h).0 (quoted_ends (y ∷ ys) (and_true _ _ h).1)

number_ends : (s : Text) → is_number s ≡ true → ends s ≡ 0
number_ends [] h = absurd (cc)
number_ends (x ∷ xs) h = no_ends is_digit (x ∷ xs) refl h

one_mark : (x s : Text) (r : Option Kind) (k : Kind) → ends x ≡ 0 → (r ≡ Some k → ends s ≡ 0) → (bytes_eq x s ≡ true) ⊎ (r ≡ Some k) → ends s ≡ 0
one_mark x s r k e go (inl b) = ap ends (sym (same_bytes x s b)) ∙ e
one_mark x s r k e go (inr h) = go h

mark_ends : (ms : List (Text × Kind)) → Each (λ m. ends m.0 ≡ 0) ms → (s : Text) (k : Kind) → mark_named ms s ≡ Some k → ends s ≡ 0
mark_ends [] e s k h = absurd (cc)
mark_ends (m ∷ ms) e s k h =
    one_mark m.0 s (mark_named ms s) k e.0 (λ r. mark_ends ms e.1 s k r) (split_if (bytes_eq m.0 s) (Some m.1) (mark_named ms s) (Some k) h)

module _ (x : ℕ) (xs : Text) (k : Kind) where
  abbrev Ends : Type 0
  Ends = ends (x ∷ xs) ≡ 0

  by_mark : mark_named marks (x ∷ xs) ≡ Some k → Ends
  by_mark h = mark_ends marks (refl, (refl, (refl, (refl, (refl, (refl, (refl, (refl, (refl, (refl, (refl, (refl, (refl, (refl, tt)))))))))))))) (x ∷ xs) k h

  by_minus : (x == 45 && is_number xs ≡ true) ⊎ (mark_named marks (x ∷ xs) ≡ Some k) → Ends
  by_minus (inl h) = first_no_end (λ y. y == 45) x xs refl (and_true _ _ h).0 (number_ends xs (and_true _ _ h).1)
  by_minus (inr h) = by_mark h

  abbrev Minus : Type 0
  Minus = (if x == 45 && is_number xs then Some (kind.Integer (neg_ℤ (pos (digits_value 0 xs)))) else mark_named marks (x ∷ xs)) ≡ Some k

  by_number : (is_number (x ∷ xs) ≡ true) ⊎ Minus → Ends
  by_number (inl h) = number_ends (x ∷ xs) h
  by_number (inr h) = by_minus (split_if (x == 45 && is_number xs) _ _ _ h)

  abbrev Number : Type 0
  Number =
      (if is_number (x ∷ xs) then Some (kind.Integer (pos (digits_value 0 (x ∷ xs))))
      else (if x == 45 && is_number xs then Some (kind.Integer (neg_ℤ (pos (digits_value 0 xs)))) else mark_named marks (x ∷ xs))) ≡ Some k

  by_quote : (x == 39 && is_quoted xs ≡ true) ⊎ Number → Ends
  by_quote (inl h) = first_no_end (λ y. y == 39) x xs refl (and_true _ _ h).0 (quoted_ends xs (and_true _ _ h).1)
  by_quote (inr h) = by_number (split_if (is_number (x ∷ xs)) _ _ _ h)

  by_small : (is_small x && list_all is_word xs ≡ true) ⊎ ((if x == 39 && is_quoted xs then Some kind.Quoted else (if is_number (x ∷ xs) then Some (kind.Integer (pos (digits_value 0 (x ∷ xs))))
      else (if x == 45 && is_number xs then Some (kind.Integer (neg_ℤ (pos (digits_value 0 xs)))) else mark_named marks (x ∷ xs)))) ≡ Some k) → Ends
  by_small (inl h) = first_no_end is_small x xs refl (and_true _ _ h).0 (no_ends is_word xs refl (and_true _ _ h).1)
  by_small (inr h) = by_quote (split_if (x == 39 && is_quoted xs) _ _ _ h)

  by_capital : (is_capital x && list_all is_word xs ≡ true) ⊎ ((if is_small x && list_all is_word xs then Some kind.Atom else (if x == 39 && is_quoted xs then Some kind.Quoted
      else (if is_number (x ∷ xs) then Some (kind.Integer (pos (digits_value 0 (x ∷ xs))))
      else (if x == 45 && is_number xs then Some (kind.Integer (neg_ℤ (pos (digits_value 0 xs)))) else mark_named marks (x ∷ xs))))) ≡ Some k) → Ends
  by_capital (inl h) = first_no_end is_capital x xs refl (and_true _ _ h).0 (no_ends is_word xs refl (and_true _ _ h).1)
  by_capital (inr h) = by_small (split_if (is_small x && list_all is_word xs) _ _ _ h)

token_ends : (s : Text) (k : Kind) → spelled s ≡ Some k → ends s ≡ 0
token_ends [] k h = absurd (cc)
token_ends (x ∷ xs) k h = by_capital x xs k (split_if (is_capital x && list_all is_word xs) _ _ _ h)

-- ---- a comment has none before the end of its line

before_newline : (s : Text) → (c : Text) × (c ++ from_newline s ≡ s) × (ends c ≡ 0)
before_newline [] = ([], refl, refl)
before_newline (x ∷ xs) = go (x == 10) refl (before_newline xs)
  where
    go : (b : Bool) → (x == 10) ≡ b → (c : Text) × (c ++ from_newline xs ≡ xs) × (ends c ≡ 0) →
        (c : Text) × (c ++ (if b then x ∷ xs else from_newline xs) ≡ x ∷ xs) × (ends c ≡ 0)
    go true e r = ([], refl, refl)
    go false e r = (x ∷ r.0, ap (λ l. x ∷ l) r.1, ends_cons x r.0 ∙ ap (λ b. one_end b + ends r.0) e ∙ ap (λ k. 0 + k) r.2)

-- ---- lines

abbrev Lined : Text → Token → Type 0
Lined source t = t.line ≡ line_at source t.start

next_line : (x line : ℕ) (pre : Text) → line ≡ 1 + ends pre → (if x == 10 then line + 1 else line) ≡ 1 + ends (pre ++ x ∷ [])
next_line x line pre h = go (x == 10) refl
  where
    go : (b : Bool) → (x == 10) ≡ b → (if b then line + 1 else line) ≡ 1 + ends (pre ++ x ∷ [])
    go true e = omega (arith, ends_append pre (x ∷ []), ends_cons x [], ap one_end e)
    go false e = omega (arith, ends_append pre (x ∷ []), ends_cons x [], ap one_end e)

lined : {at line : ℕ} {s : Text} {ts : List Token} {f : Option Fault} (pre : Text) → at ≡ length pre → line ≡ 1 + ends pre → Lexes at line s ts f → Each (Lined (pre ++ s)) ts
lined pre a l ended = tt
lined {line = line} {ts = ts} pre a l (layout {x = x} {s = s} h r) =
    let c : _ ≡ length (pre ++ x ∷ []) = omega (arith, length-append pre (x ∷ [])) in
    subst (λ u. Each (Lined u) ts) (append_assoc pre (x ∷ []) s) (lined (pre ++ x ∷ []) c (next_line x line pre l) r)
lined {ts = ts} pre a l (comment {s = s} r) =
    let c = before_newline s in
    let long : length s ≡ length c.0 + length (from_newline s) = sym (ap length c.1) ∙ length-append c.0 (from_newline s) in
    let at : _ ≡ length (pre ++ (37 ∷ c.0)) = omega (arith, length-append pre (37 ∷ c.0)) in
    let none : ends (37 ∷ c.0) ≡ 0 = ends_cons 37 c.0 ∙ ap (λ k. 0 + k) c.2 in
    let line : _ ≡ 1 + ends (pre ++ (37 ∷ c.0)) = omega (arith, ends_append pre (37 ∷ c.0), none, l) in
    let whole : (pre ++ (37 ∷ c.0)) ++ from_newline s ≡ pre ++ (37 ∷ s) = append_assoc pre (37 ∷ c.0) (from_newline s) ∙ ap (λ u. pre ++ (37 ∷ u)) c.1 in
    subst (λ u. Each (Lined u) ts) whole (lined (pre ++ (37 ∷ c.0)) at line r)
lined pre a l (token {s = s} {ts = ts} n k t h i e r) =
    let p = take n s in
    let at : _ ≡ length (pre ++ p) = omega (arith, length-append pre p, length-take-le n s h.within) in
    let line : _ ≡ 1 + ends (pre ++ p) = omega (arith, ends_append pre p, token_ends p k h.token, l) in
    let whole : (pre ++ p) ++ drop n s ≡ pre ++ s = append_assoc pre p (drop n s) ∙ ap (λ u. pre ++ u) (take-append-drop n s) in
    let here : Lined (pre ++ s) t = ap (λ t. t.line) e ∙ l ∙ sym (ap (λ u. 1 + ends u) (ap (λ k. take k (pre ++ s)) (ap (λ t. t.start) e ∙ a) ∙ take-append_seam pre s)) in
    (here, subst (λ u. Each (Lined u) ts) whole (lined (pre ++ p) at line r))
lined pre a l (number n k h i) = tt
lined pre a l (quote h) = tt
lined pre a l (byte h i j k) = tt

pub token_lines : TokenLines
token_lines source ts f r = lined [] refl refl r
