-- A text has one list of tokens: whatever begins one derivation begins each derivation of the same text.
use Rattle.std.specs.Prelude.{◌≢◌, ◌==◌, ◌||◌, if◌then◌else◌}
use Rattle.std.proofs.lemmas.Bool.{cases_order}
use Rattle.std.proofs.lemmas.Bool.Decides.{eqb_tells}
use Rattle.std.proofs.Common.{◌≡◌, ℕ, suc, zero, ◌+◌, ◌-◌, Bool, true, false, List, [], ◌∷◌, length, take, drop, ⊎_elim, Option, Some, None, refl, sym, ◌∙◌, ap, subst, arith}
use Rattle.cb_model.specs.declared.Kind.{Kind}
use Rattle.cb_model.specs.Text.{Text}
use Rattle.cb_model.specs.Tokens.{Token, Fault, Lexes, Longest, NoToken, InRange, spelled, is_layout, from_newline, ended, layout, comment, token, number, quote, byte, Number, Quote, Byte}

-- no token begins with this byte
abbrev Never : ℕ → Type 0
Never x = (xs : Text) → spelled (x ∷ xs) ≡ None

-- so none is the longest match
pub none_at : {x n : ℕ} {s : Text} {k : Kind} → Never x → Longest (x ∷ s) n k → ⊥
none_at {x} {n} {s} {k} h a = goes n a.token
  where
    goes : (n : ℕ) → spelled (take n (x ∷ s)) ≡ Some k → ⊥
    goes zero e = cc
    goes (suc n) e = let g = h (take n s) in cc

-- where no token begins there is no longest match
none_begins : {n : ℕ} {s : Text} {k : Kind} → NoToken s → Longest s n k → ⊥
none_begins {n} h a = let e = h n a.within in let g = a.token in cc

-- a text of no bytes begins no token
none_empty : {n : ℕ} {k : Kind} → Longest [] n k → ⊥
none_empty {n} {k} a = goes n a.token
  where
    goes : (n : ℕ) → spelled (take n []) ≡ Some k → ⊥
    goes zero e = cc
    goes (suc n) e = cc

-- the longest match has one length
one_length : {s : Text} {n m : ℕ} {k j : Kind} → Longest s n k → Longest s m j → n ≡ m
one_length {s} {n} {m} a b = ⊎_elim (λ e. e) (λ o. ⊎_elim (λ lt. let e = a.longest m lt b.within in let g = b.token in absurd (cc)) (λ lt. let e = b.longest n lt a.within in let g = a.token in absurd (cc)) o) (cases_order n m)

-- and one kind
one_kind : {s : Text} {n m : ℕ} {k j : Kind} → Longest s n k → Longest s m j → k ≡ j
one_kind {s} {n} {m} a b = let e = one_length a b in let g = a.token in let h = b.token in cc

-- a byte of layout is one of four
is_one : (P : ℕ → Type 0) → P 32 → P 9 → P 10 → P 13 → (x : ℕ) → is_layout x ≡ true → P x
is_one P a b c d x h =
    ⊎_elim (λ t. subst P (sym t.1) a) (λ t. ⊎_elim (λ u. subst P (sym u.1) b) (λ u. ⊎_elim (λ v. subst P (sym v.1) c) (λ v. ⊎_elim (λ w. subst P (sym w.1) d)
    (λ w. absurd (none_holds (x == 32) (x == 9) (x == 10) (x == 13) h t.0 u.0 v.0 w.0)) (eqb_tells x 13)) (eqb_tells x 10)) (eqb_tells x 9)) (eqb_tells x 32)
  where
    none_holds : (a b c d : Bool) → (a || b || c || d) ≡ true → a ≡ false → b ≡ false → c ≡ false → d ≡ false → ⊥
    none_holds false false false false h p q r s = cc
    none_holds true b c d h p q r s = cc
    none_holds false true c d h p q r s = cc
    none_holds false false true d h p q r s = cc
    none_holds false false false true h p q r s = cc

layout_never : (x : ℕ) → is_layout x ≡ true → Never x
layout_never x h = is_one Never (λ xs. refl) (λ xs. refl) (λ xs. refl) (λ xs. refl) x h

comment_never : {x : ℕ} → x ≡ 37 → Never x
comment_never e = subst Never (sym e) (λ xs. refl)

-- no layout is 37
not_layout : {x : ℕ} → x ≡ 37 → is_layout x ≡ true → ⊥
not_layout {x} e h = let g : is_layout 37 ≡ true = subst (λ y. is_layout y ≡ true) e h in cc

pub after_layout : {at line x : ℕ} {s : Text} {ts : List Token} {f : Option Fault} → is_layout x ≡ true → Lexes at line (x ∷ s) ts f → Lexes (at + 1) (if x == 10 then line + 1 else line) s ts f
after_layout h (layout g l) = l
after_layout h (comment l) = absurd (cc)
after_layout {x = x} h (token n k t a r e l) = absurd (none_at (layout_never x h) a)
after_layout {x = x} h (number n k a r) = absurd (none_at (layout_never x h) a)
after_layout h (quote a) = absurd (cc)
after_layout h (byte g c q a) = absurd (cc)

pub after_comment : {at line x : ℕ} {s : Text} {ts : List Token} {f : Option Fault} → x ≡ 37 → Lexes at line (x ∷ s) ts f → Lexes (at + (length s + 1 - length (from_newline s))) line (from_newline s) ts f
after_comment h (layout g l) = absurd (not_layout h g)
after_comment h (comment l) = l
after_comment h (token n k t a r e l) = absurd (none_at (comment_never h) a)
after_comment h (number n k a r) = absurd (none_at (comment_never h) a)
after_comment h (quote a) = absurd (omega arith)
after_comment h (byte g c q a) = absurd (c h)

-- what a token is followed by
pub record Followed (at line : ℕ) (s : Text) (n : ℕ) (k : Kind) (ts : List Token) (f : Option Fault) : Type 0 where
  pub rest : List Token
  pub begins : ts ≡ record { kind = k; text = take n s; start = at; stop = at + n; line = line } ∷ rest
  pub lexes : Lexes (at + n) line (drop n s) rest f

pub after_token : {at line n : ℕ} {s : Text} {k : Kind} {ts : List Token} {f : Option Fault} → Longest s n k → InRange k → Lexes at line s ts f → Followed at line s n k ts f
after_token h i ended = absurd (none_empty h)
after_token h i (layout {x = x} g l) = absurd (none_at (layout_never x g) h)
after_token h i (comment l) = absurd (none_at (comment_never refl) h)
after_token {at} {line} {n} {s} {k} {f = f} h i (token {ts = us} m j t a r e l) =
    let same : m ≡ n = one_length a h in let kind : j ≡ k = one_kind a h in
    let whole : (m : ℕ) → m ≡ n → (j : Kind) → j ≡ k → (t : Token) → t ≡ record { kind = j; text = take m s; start = at; stop = at + m; line = line } → Lexes (at + m) line (drop m s) us f → Followed at line s n k (t ∷ us) f =
    λ m p j q t e l. record {
      rest = us;
      begins = ap (λ (v : Token). v ∷ us) (e ∙ ap (λ (i : ℕ). let v : Token = record { kind = j; text = take i s; start = at; stop = at + i; line = line } in v) p ∙ ap (λ (i : Kind). let v : Token = record { kind = i; text = take n s; start = at; stop = at + n; line = line } in v) q);
      lexes = subst (λ (i : ℕ). Lexes (at + i) line (drop i s) us f) p l;
    } in
    whole m same j kind t e l
after_token h i (number m j a r) = absurd (r (subst InRange (one_kind h a) i))
after_token h i (quote a) = absurd (none_begins a h)
after_token h i (byte g c q a) = absurd (none_begins a h)

-- a text that ends with a fault at once
abbrev pub Only : List Token → Option Fault → Option Fault → Type 0
Only ts f g = (ts ≡ []) × (f ≡ g)

pub at_end : {at line : ℕ} {ts : List Token} {f : Option Fault} → Lexes at line [] ts f → Only ts f None
at_end ended = (refl, refl)
at_end (token n k t a r e l) = absurd (none_empty a)
at_end (number n k a r) = absurd (none_empty a)

pub at_number : {at line n : ℕ} {s : Text} {k : Kind} {ts : List Token} {f : Option Fault} → Longest s n k → (InRange k → ⊥) → Lexes at line s ts f → Only ts f (Some (Number at))
at_number h i ended = absurd (none_empty h)
at_number h i (layout {x = x} g l) = absurd (none_at (layout_never x g) h)
at_number h i (comment l) = absurd (none_at (comment_never refl) h)
at_number h i (token m j t a r e l) = absurd (i (subst InRange (one_kind a h) r))
at_number h i (number m j a r) = (refl, refl)
at_number h i (quote a) = absurd (none_begins a h)
at_number h i (byte g c q a) = absurd (none_begins a h)

pub at_quote : {at line x : ℕ} {s : Text} {ts : List Token} {f : Option Fault} → x ≡ 39 → NoToken (x ∷ s) → Lexes at line (x ∷ s) ts f → Only ts f (Some (Quote at))
at_quote {x = x} h i (layout g l) = let e : is_layout 39 ≡ true = subst (λ y. is_layout y ≡ true) h g in absurd (cc)
at_quote h i (comment l) = absurd (omega arith)
at_quote h i (token m j t a r e l) = absurd (none_begins i a)
at_quote h i (number m j a r) = absurd (none_begins i a)
at_quote h i (quote a) = (refl, refl)
at_quote h i (byte g c q a) = absurd (q h)

pub at_byte : {at line x : ℕ} {s : Text} {ts : List Token} {f : Option Fault} → is_layout x ≡ false → x ≢ 37 → x ≢ 39 → NoToken (x ∷ s) → Lexes at line (x ∷ s) ts f → Only ts f (Some (Byte at))
at_byte p c q i (layout g l) = absurd (cc)
at_byte p c q i (comment l) = absurd (c refl)
at_byte p c q i (token m j t a r e l) = absurd (none_begins i a)
at_byte p c q i (number m j a r) = absurd (none_begins i a)
at_byte p c q i (quote a) = absurd (q refl)
at_byte p c q i (byte g d e a) = (refl, refl)

same_fault : {ts : List Token} {f g : Option Fault} → Only ts f g → ([] ≡ ts) × (g ≡ f)
same_fault o = (sym o.0, sym o.1)

same_lists : {t u : Token} {ts us vs : List Token} → t ≡ u → ts ≡ us → vs ≡ u ∷ us → t ∷ ts ≡ vs
same_lists a b c = cc

-- a text has one list of tokens, and one fault or none
pub one_list : {at line : ℕ} {s : Text} {ts us : List Token} {f g : Option Fault} → Lexes at line s ts f → Lexes at line s us g → (ts ≡ us) × (f ≡ g)
one_list ended m = same_fault (at_end m)
one_list (layout h l) m = one_list l (after_layout h m)
one_list (comment l) m = one_list l (after_comment refl m)
one_list (token n k t a r e l) m =
    let w = after_token a r m in let p = one_list l w.lexes in
    (same_lists e p.0 w.begins, p.1)
one_list (number n k a r) m = same_fault (at_number a r m)
one_list (quote a) m = same_fault (at_quote refl a m)
one_list (byte g c q a) m = same_fault (at_byte g c q a m)
