-- Layout and comments between tokens.
use Rattle.std.specs.Prelude.{◌==◌, if◌then◌else◌, cond, not, ◌≢◌}
use Rattle.std.specs.List.{position_or_len}
use Rattle.std.proofs.lemmas.List.{drop_more, drop-drop}
use Rattle.std.proofs.Common.{◌≡◌, ℕ, suc, zero, ◌+◌, ◌-◌, ◌<◌, ◌≤◌, Bool, true, false, [], ◌∷◌, length, length-drop, get_or, take, drop, refl, sym, ◌∙◌, ap, subst, arith}
use Rattle.cb_model.specs.Text.{Text}
use Rattle.cb_model.specs.Tokens.{Lexes, is_layout, from_newline, layout, comment}
use Rattle.cb_lex.specs.Scans.{IsSkipped, SameTokens}
use Rattle.cb_lex.proofs.OneList.{after_layout, after_comment}

pub here : (at line : ℕ) (s : Text) → SameTokens at line s at line s
here at line s = record { forth = λ ts f l. l; back = λ ts f l. l }

joined : {a b c l m n : ℕ} {s t u : Text} → SameTokens a l s b m t → SameTokens b m t c n u → SameTokens a l s c n u
joined p q = record { forth = λ ts f l. p.forth ts f (q.forth ts f l); back = λ ts f l. q.back ts f (p.back ts f l) }

past_layout : (at line x : ℕ) (s : Text) → is_layout x ≡ true → SameTokens at line (x ∷ s) (at + 1) (if x == 10 then line + 1 else line) s
past_layout at line x s h = record { forth = λ ts f l. layout h l; back = λ ts f l. after_layout h l }

past_comment : (at line x : ℕ) (s : Text) → x ≡ 37 → SameTokens at line (x ∷ s) (at + (length s + 1 - length (from_newline s))) line (from_newline s)
past_comment at line x s h = record {
  forth = λ ts f l. subst (λ (y : ℕ). Lexes at line (y ∷ s) ts f) (sym h) (comment l);
  back = λ ts f l. after_comment h l;
}

-- the rest of the line
line_end : Text → ℕ
line_end s = position_or_len (λ x. x == 10) s

from_line_end : (s : Text) → from_newline s ≡ drop (position_or_len (λ x. x == 10) s) s
from_line_end [] = refl
from_line_end (x ∷ s) = by (x == 10) (from_line_end s)
  where
    by : (b : Bool) → from_newline s ≡ drop (position_or_len (λ x. x == 10) s) s →
        (if b then x ∷ s else from_newline s) ≡ drop (cond (not b) (1 + position_or_len (λ x. x == 10) s) 0) (x ∷ s)
    by true h = refl
    by false h = let e : 1 + position_or_len (λ x. x == 10) s ≡ suc (position_or_len (λ x. x == 10) s) = omega arith in h ∙ sym (ap (λ (i : ℕ). drop i (x ∷ s)) e)

pub all_behind : (s : Text) (n : ℕ) → length s ≤ n → take n s ≡ s
all_behind [] zero le = refl
all_behind [] (suc n) le = refl
all_behind (x ∷ s) zero le = absurd (omega arith)
all_behind (x ∷ s) (suc n) le = ap (λ (t : Text). x ∷ t) (all_behind s n (omega arith))

-- the loop's steps
pub more_layout : {from start : ℕ} {t : Text} (source : Text) (at line line' : ℕ) → at < length source → is_layout (get_or source at 0) ≡ true → line' ≡ (if get_or source at 0 == 10 then line + 1 else line) →
    SameTokens from start t at line (drop at source) → SameTokens from start t (at + 1) line' (drop (at + 1) source)
more_layout {from} {start} {t} source at line line' lt h e p =
    subst (λ (i : ℕ). SameTokens from start t (at + 1) i (drop (at + 1) source)) (sym e)
    (joined p (subst (λ (s : Text). SameTokens at line s (at + 1) (if get_or source at 0 == 10 then line + 1 else line) (drop (at + 1) source)) (sym (drop_more source at 0 lt))
    (past_layout at line (get_or source at 0) (drop (at + 1) source) h)))

pub more_comment : {from start : ℕ} {t : Text} (source : Text) (at line n : ℕ) → at < length source → get_or source at 0 ≡ 37 → n ≡ position_or_len (λ x. x == 10) (take (length source - (at + 1)) (drop (at + 1) source)) →
    n ≤ length (take (length source - (at + 1)) (drop (at + 1) source)) →
    SameTokens from start t at line (drop at source) → SameTokens from start t (at + (1 + n)) line (drop (at + (1 + n)) source)
more_comment {from} {start} {t} source at line n lt h e le p =
    let u = drop (at + 1) source in
    let whole : take (length source - (at + 1)) u ≡ u = all_behind u (length source - (at + 1)) (omega (arith, length-drop (at + 1) source)) in
    let count : n ≡ position_or_len (λ x. x == 10) u = e ∙ ap (position_or_len (λ x. x == 10)) whole in
    let within : n ≤ length u = subst (λ (s : Text). n ≤ length s) whole le in
    let rest : from_newline u ≡ drop n u = from_line_end u ∙ ap (λ (i : ℕ). drop i u) (sym count) in
    let long : length (from_newline u) ≡ length u - n = ap length rest ∙ length-drop n u in
    let far : length u + 1 - length (from_newline u) ≡ 1 + n = omega arith in
    let place : at + 1 + n ≡ at + (1 + n) = omega arith in
    let behind : from_newline u ≡ drop (at + (1 + n)) source = rest ∙ drop-drop n (at + 1) source ∙ ap (λ (i : ℕ). drop i source) place in
    let front : drop at source ≡ get_or source at 0 ∷ u = drop_more source at 0 lt in
    let step = past_comment at line (get_or source at 0) u h in
    joined p (subst (λ (s : Text). SameTokens at line s (at + (1 + n)) line (drop (at + (1 + n)) source)) (sym front)
    (subst (λ (s : Text). SameTokens at line (get_or source at 0 ∷ u) (at + (1 + n)) line s) behind
    (subst (λ (i : ℕ). SameTokens at line (get_or source at 0 ∷ u) (at + i) line (from_newline u)) far step)))

-- no layout and no comment
pub skipped : (source : Text) (at : ℕ) → at < length source → is_layout (get_or source at 0) ≡ false → get_or source at 0 ≢ 37 → IsSkipped (drop at source)
skipped source at lt h g = subst IsSkipped (sym (drop_more source at 0 lt)) (h, g)

pub skipped_end : (source : Text) (at : ℕ) → length source ≤ at → IsSkipped (drop at source)
skipped_end [] zero le = tt
skipped_end [] (suc n) le = tt
skipped_end (x ∷ s) zero le = absurd (omega arith)
skipped_end (x ∷ s) (suc n) le = skipped_end s n (omega arith)
