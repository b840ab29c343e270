-- The token at the front of a text, as the code finds it: one lemma for each exit.
use Rattle.std.specs.Prelude.{◌&&◌, ◌==◌, ◌≢◌, if◌then◌else◌, bytes_eq, nat_eq, pos, neg_ℤ, ℤ, MatchOption, FitsSigned}
use Rattle.std.specs.Int.{w64}
use Rattle.std.specs.List.{list_all, prefix_len}
use Rattle.std.specs.Option.{SomeIff}
use Rattle.std.proofs.lemmas.Bool.Decides.{eqb_tells}
use Rattle.std.proofs.Common.{◌≡◌, ℕ, suc, zero, ◌+◌, ◌-◌, ◌^◌, ◌<◌, ◌≤◌, Bool, true, false, List, [], ◌∷◌, length, get_or, take, drop, Option, Some, None, refl, sym, ◌∙◌, ap, subst, arith, ⊎_elim}
use Rattle.cb_model.specs.declared.Kind.{Kind}
use Rattle.cb_model.specs.declared.Kind.TheVariants as kind
use Rattle.cb_model.specs.Text.{Text, is_small, is_capital, is_digit, is_word}
use Rattle.cb_model.specs.Tokens.{Lexes, Longest, NoToken, InRange, spelled, is_quoted, is_quotable, is_number, digits_value, marks, mark_named, number, quote, byte, Number, Quote, Byte}
use Rattle.cb_lex.specs.Digits.{Writes}
use Rattle.cb_lex.specs.Scans.{IsSkipped, HeadPasses}
use Rattle.cb_lex.proofs.Bools.{and_false, false_and}
use Rattle.cb_lex.proofs.Runs.{run, run-prefix_len, run_yes, run_within, run_all, run_past}
use Rattle.cb_lex.proofs.Quotes.{closes, past_quote, never_closes, Unclosed}
use Rattle.cb_lex.proofs.Classes.{Class, class_longest, class_none, capital_class, small_class, digit_class, minus_class, quote_class, neck_class, pick_mark, mark_step}

-- ---- runs

run_longest : {x : ℕ} {named : Text → Kind} (p : ℕ → Bool) (s : Text) → Class x (list_all p) named → Longest (x ∷ s) (1 + run p s) (named (take (run p s) s))
run_longest p s c = class_longest s (run p s) c (run_within p s) (run_all p s) (run_past p s)

as_run : (p : ℕ → Bool) (s : Text) (n : ℕ) → n ≡ prefix_len p s → n ≡ run p s
as_run p s n e = e ∙ run-prefix_len p s

pub variable_longest : (x : ℕ) (s : Text) (n : ℕ) → is_capital x ≡ true → n ≡ prefix_len is_word s → Longest (x ∷ s) (1 + n) kind.Variable
variable_longest x s n h e = subst (λ (i : ℕ). Longest (x ∷ s) (1 + i) kind.Variable) (sym (as_run is_word s n e)) (run_longest is_word s (capital_class x h))

pub atom_longest : (x : ℕ) (s : Text) (n : ℕ) → is_small x ≡ true → n ≡ prefix_len is_word s → Longest (x ∷ s) (1 + n) kind.Atom
atom_longest x s n h e = subst (λ (i : ℕ). Longest (x ∷ s) (1 + i) kind.Atom) (sym (as_run is_word s n e)) (run_longest is_word s (small_class x h))

-- ---- integers

pub number_longest : (s : Text) (n : ℕ) → HeadPasses is_digit s → n ≡ prefix_len is_digit s → Longest s n (kind.Integer (pos (digits_value 0 (take n s))))
number_longest [] n h e = absurd h
number_longest (x ∷ s) n h e =
    let l = run_longest is_digit s (digit_class x h) in
    let same : n ≡ suc (run is_digit s) = as_run is_digit (x ∷ s) n e ∙ run_yes is_digit x s h in
    let one : 1 + run is_digit s ≡ suc (run is_digit s) = omega arith in
    subst (λ (i : ℕ). Longest (x ∷ s) i (kind.Integer (pos (digits_value 0 (take i (x ∷ s)))))) (sym same)
    (subst (λ (i : ℕ). Longest (x ∷ s) i (kind.Integer (pos (digits_value 0 (x ∷ take (run is_digit s) s))))) one l)

is_number_from : (s : Text) (b : Bool) → 0 < length s → list_all is_digit s ≡ b → is_number s ≡ b
is_number_from [] b lt h = absurd (omega arith)
is_number_from (x ∷ s) b lt h = h

no_number : (s : Text) → list_all is_digit s ≡ false → is_number s ≡ false
no_number [] h = refl
no_number (x ∷ s) h = h

front_some : (n : ℕ) (s : Text) → 0 < n → n ≤ length s → 0 < length (take n s)
front_some zero s lt le = absurd (omega arith)
front_some (suc n) [] lt le = absurd (omega arith)
front_some (suc n) (x ∷ s) lt le = omega arith

pub negative_longest : (s : Text) (n : ℕ) → 0 < n → n ≡ prefix_len is_digit s → Longest (45 ∷ s) (1 + n) (kind.Integer (neg_ℤ (pos (digits_value 0 (take n s)))))
negative_longest s n lt e =
    let same = as_run is_digit s n e in
    let some : 0 < run is_digit s = omega arith in
    subst (λ (i : ℕ). Longest (45 ∷ s) (1 + i) (kind.Integer (neg_ℤ (pos (digits_value 0 (take i s)))))) (sym same)
    (class_longest s (run is_digit s) minus_class (run_within is_digit s)
    (is_number_from (take (run is_digit s) s) true (front_some (run is_digit s) s some (run_within is_digit s)) (run_all is_digit s))
    (λ m past le. no_number (take m s) (run_past is_digit s m past le)))

pub minus_none : (s : Text) (n : ℕ) → n ≡ 0 → n ≡ prefix_len is_digit s → NoToken (45 ∷ s)
minus_none s n z e = class_none s minus_class fronts
  where
    same : run is_digit s ≡ 0
    same = sym (as_run is_digit s n e) ∙ z

    fronts : (m : ℕ) → m ≤ length s → is_number (take m s) ≡ false
    fronts zero le = refl
    fronts (suc m) le = no_number (take (suc m) s) (run_past is_digit s (suc m) (omega (arith, same)) le)

-- where the number is an i64, and where it isn't
fits_pos : (n : ℕ) → FitsSigned w64 (pos n) → n < 2 ^ 64
fits_pos n f = let h = f.sfits in omega arith

fits_neg : (n : ℕ) → FitsSigned w64 (neg_ℤ (pos n)) → n < 2 ^ 64
fits_neg zero f = omega arith
fits_neg (suc n) f = let h = f.sfits in omega arith

pub integer_fits : (write : ℕ → ℤ) (s : Text) (magnitude : Option ℕ) (value : ℤ) → Writes s magnitude → MatchOption magnitude (Some value ≡ None) (λ n. SomeIff (Some value) (FitsSigned w64 (write n)) (write n)) →
    (value ≡ write (digits_value 0 s)) × FitsSigned w64 value
integer_fits write s None value w e = absurd (cc)
integer_fits write s (Some n) value w e = (e.1 ∙ ap write (sym w), subst (FitsSigned w64) (sym e.1) e.0)

pub integer_past : (write : ℕ → ℤ) → ((n : ℕ) → FitsSigned w64 (write n) → n < 2 ^ 64) → (s : Text) (magnitude : Option ℕ) → Writes s magnitude →
    MatchOption magnitude (◌≡◌ {A = Option ℤ} None None) (λ n. SomeIff {T = ℤ} None (FitsSigned w64 (write n)) (write n)) → FitsSigned w64 (write (digits_value 0 s)) → ⊥
integer_past write below s None w e f = let h = below (digits_value 0 s) f in omega arith
integer_past write below s (Some n) w e f = e (subst (λ (i : ℕ). FitsSigned w64 (write i)) w f)

-- ---- quoted atoms

pub quoted_longest : (s : Text) (n : ℕ) → n ≡ prefix_len is_quotable s → n < length s → get_or s n 0 ≡ 39 → Longest (39 ∷ s) (n + 2) kind.Quoted
quoted_longest s n e lt c =
    let same = as_run is_quotable s n e in
    let within : run is_quotable s < length s = omega arith in
    let quote : get_or s (run is_quotable s) 0 ≡ 39 = subst (λ (i : ℕ). get_or s i 0 ≡ 39) same c in
    let long : 1 + suc (run is_quotable s) ≡ n + 2 = omega arith in
    subst (λ (i : ℕ). Longest (39 ∷ s) i kind.Quoted) long
    (class_longest s (suc (run is_quotable s)) quote_class (omega arith) (closes s within quote) (λ m past le. past_quote s m quote past le))

pub unclosed_none : (s : Text) (n : ℕ) → n ≡ prefix_len is_quotable s → Unclosed s n → NoToken (39 ∷ s)
unclosed_none s n e u = class_none s quote_class (λ m le. never_closes s m (subst (Unclosed s) (as_run is_quotable s n e) u))

-- ---- `:-`

pub neck_longest : (s : Text) → 0 < length s → get_or s 0 0 ≡ 45 → Longest (58 ∷ s) 2 kind.Neck
neck_longest [] lt e = absurd (omega arith)
neck_longest (y ∷ s) lt e = class_longest (y ∷ s) 1 neck_class (omega arith) (ap (λ z. bytes_eq (45 ∷ []) (z ∷ [])) e) past
  where
    past : (m : ℕ) → 1 < m → m ≤ length (y ∷ s) → bytes_eq (45 ∷ []) (take m (y ∷ s)) ≡ false
    past zero lt le = absurd (omega arith)
    past (suc zero) lt le = absurd (omega arith)
    past (suc (suc m)) lt le = longer s m (omega arith)
      where
        longer : (s : Text) (m : ℕ) → suc m ≤ length s → bytes_eq (45 ∷ []) (y ∷ take (suc m) s) ≡ false
        longer [] m le = absurd (omega arith)
        longer (z ∷ s) m le = and_false (nat_eq 45 y) false refl

pub colon_none : (s : Text) → (0 < length s → get_or s 0 0 ≢ 45) → NoToken (58 ∷ s)
colon_none s h = class_none s neck_class (fronts s h)
  where
    fronts : (s : Text) → (0 < length s → get_or s 0 0 ≢ 45) → (m : ℕ) → m ≤ length s → bytes_eq (45 ∷ []) (take m s) ≡ false
    fronts s h zero le = refl
    fronts [] h (suc m) le = refl
    fronts (y ∷ s) h (suc m) le = false_and (nat_eq 45 y) (bytes_eq [] (take m s)) (⊎_elim (λ t. absurd (h (omega arith) (sym t.1))) (λ t. t.0) (eqb_tells 45 y))

-- ---- other marks

-- the first byte is none that a longer token begins with
pub record Alone (x : ℕ) : Type 0 where
  pub no_capital : is_capital x ≡ false
  pub no_small : is_small x ≡ false
  pub no_digit : is_digit x ≡ false
  pub no_quote : x ≢ 39
  pub no_minus : x ≢ 45
  pub no_colon : x ≢ 58

no_test : (x c : ℕ) → x ≢ c → (x == c) ≡ false
no_test x c h = ⊎_elim (λ t. absurd (h t.1)) (λ t. t.0) (eqb_tells x c)

spelled_mark : (x : ℕ) (xs : Text) → Alone x → spelled (x ∷ xs) ≡ mark_named marks (x ∷ xs)
spelled_mark x xs a = pick_mark (is_capital x) (is_small x) (list_all is_word xs) (x == 39 && is_quoted xs) (is_number (x ∷ xs)) (x == 45 && is_number xs) _ _ (mark_named marks (x ∷ xs))
    a.no_capital a.no_small (false_and (x == 39) (is_quoted xs) (no_test x 39 a.no_quote)) (false_and (is_digit x) (list_all is_digit xs) a.no_digit) (false_and (x == 45) (is_number xs) (no_test x 45 a.no_minus))

-- each mark is one byte, or begins with another one
abbrev Lone : ℕ → List (Text × Kind) → Type 0
Lone x [] = Unit {0}
Lone x (m ∷ ms) = lone m.0 × Lone x ms
  where
    lone : Text → Type 0
    lone [] = ⊥
    lone (c ∷ []) = Unit {0}
    lone (c ∷ d ∷ ds) = nat_eq c x ≡ false

lone_none : (x y : ℕ) (ys : Text) → x ≢ 58 → mark_named marks (x ∷ y ∷ ys) ≡ None
lone_none x y ys h = goes marks (tt, (tt, (tt, (tt, (tt, (tt, (tt, (⊎_elim (λ t. absurd (h (sym t.1))) (λ t. t.0) (eqb_tells 58 x), (tt, (tt, (tt, (tt, (tt, (tt, tt))))))))))))))
  where
    goes : (ms : List (Text × Kind)) → Lone x ms → mark_named ms (x ∷ y ∷ ys) ≡ None
    goes [] f = refl
    goes (([], k) ∷ ms) f = absurd f.0
    goes ((c ∷ [], k) ∷ ms) f = mark_step (nat_eq c x && false) k (mark_named ms (x ∷ y ∷ ys)) (and_false (nat_eq c x) false refl) (goes ms f.1)
    goes ((c ∷ d ∷ ds, k) ∷ ms) f = mark_step (bytes_eq (c ∷ d ∷ ds) (x ∷ y ∷ ys)) k (mark_named ms (x ∷ y ∷ ys)) (false_and (nat_eq c x) (bytes_eq (d ∷ ds) (y ∷ ys)) f.0) (goes ms f.1)

is_empty : Text → Bool
is_empty [] = true
is_empty (x ∷ xs) = false

pub mark_longest : (x : ℕ) (s : Text) (k : Kind) → Alone x → Some k ≡ mark_named marks (x ∷ []) → Longest (x ∷ s) 1 k
unfolding is_empty
mark_longest x s k a e = class_longest s 0 only (omega arith) refl past
  where
    only : Class x is_empty (λ xs. k)
    only = record { is = passes; not_is = fails }
      where
        passes : (xs : Text) → is_empty xs ≡ true → spelled (x ∷ xs) ≡ Some k
        passes [] h = spelled_mark x [] a ∙ sym e
        passes (y ∷ ys) h = absurd (cc)

        fails : (xs : Text) → is_empty xs ≡ false → spelled (x ∷ xs) ≡ None
        fails [] h = absurd (cc)
        fails (y ∷ ys) h = spelled_mark x (y ∷ ys) a ∙ lone_none x y ys a.no_colon

    past : (m : ℕ) → 0 < m → m ≤ length s → is_empty (take m s) ≡ false
    past zero lt le = absurd (omega arith)
    past (suc m) lt le = some s (omega arith)
      where
        some : (s : Text) → suc m ≤ length s → is_empty (take (suc m) s) ≡ false
        some [] le = absurd (omega arith)
        some (y ∷ s) le = refl

pub other_none : (x : ℕ) (s : Text) → Alone x → None ≡ mark_named marks (x ∷ []) → NoToken (x ∷ s)
other_none x s a e zero le = refl
other_none x s a e (suc m) le = by (take m s)
  where
    by : (xs : Text) → spelled (x ∷ xs) ≡ None
    by [] = spelled_mark x [] a ∙ sym e
    by (y ∷ ys) = spelled_mark x (y ∷ ys) a ∙ lone_none x y ys a.no_colon

-- ---- the exits of the code, where the tail is what stands behind the first byte

all_behind : (s : Text) → take (length s) s ≡ s
all_behind [] = refl
all_behind (x ∷ s) = ap (λ (t : Text). x ∷ t) (all_behind s)

behind : (x : ℕ) (s : Text) → take (length (x ∷ s) - 1) (drop 1 (x ∷ s)) ≡ s
behind x s = let e : length (x ∷ s) - 1 ≡ length s = omega arith in ap (λ (n : ℕ). take n s) e ∙ all_behind s

pub variable_front : (s : Text) (n : ℕ) → 0 < length s → is_capital (get_or s 0 0) ≡ true → n ≡ prefix_len is_word (take (length s - 1) (drop 1 s)) → Longest s (1 + n) kind.Variable
variable_front [] n lt h e = absurd (omega arith)
variable_front (x ∷ s) n lt h e = variable_longest x s n h (e ∙ ap (prefix_len is_word) (behind x s))

pub atom_front : (s : Text) (n : ℕ) → 0 < length s → is_small (get_or s 0 0) ≡ true → n ≡ prefix_len is_word (take (length s - 1) (drop 1 s)) → Longest s (1 + n) kind.Atom
atom_front [] n lt h e = absurd (omega arith)
atom_front (x ∷ s) n lt h e = atom_longest x s n h (e ∙ ap (prefix_len is_word) (behind x s))

not_integer : (k : Kind) (x : ℕ) → Some k ≡ mark_named marks (x ∷ []) → InRange k
not_integer k x e = goes marks (tt, (tt, (tt, (tt, (tt, (tt, (tt, (tt, (tt, (tt, (tt, (tt, (tt, (tt, tt)))))))))))))) e
  where
    each : List (Text × Kind) → Type 0
    each [] = Unit {0}
    each (m ∷ ms) = InRange m.1 × each ms

    goes : (ms : List (Text × Kind)) → each ms → Some k ≡ mark_named ms (x ∷ []) → InRange k
    goes [] h e = absurd (cc)
    goes (m ∷ ms) h e = by (bytes_eq m.0 (x ∷ [])) (goes ms h.1) e
      where
        by : (b : Bool) → (Some k ≡ mark_named ms (x ∷ []) → InRange k) → Some k ≡ (if b then Some m.1 else mark_named ms (x ∷ [])) → InRange k
        by true g e = let same : m.1 ≡ k = cc in subst InRange same h.0
        by false g e = g e

pub mark_front : (s : Text) (k : Kind) → 0 < length s → Alone (get_or s 0 0) → Some k ≡ mark_named marks (get_or s 0 0 ∷ []) → Longest s 1 k × InRange k
mark_front [] k lt a e = absurd (omega arith)
mark_front (x ∷ s) k lt a e = (mark_longest x s k a e, not_integer k x e)

pub other_front : (at line : ℕ) (s : Text) → 0 < length s → IsSkipped s → Alone (get_or s 0 0) → None ≡ mark_named marks (get_or s 0 0 ∷ []) → Lexes at line s [] (Some (Byte at))
other_front at line [] lt p a e = absurd (omega arith)
other_front at line (x ∷ s) lt p a e = byte p.0 p.1 a.no_quote (other_none x s a e)

-- ---- integers that are i64, and those that aren't

pub number_found : (s : Text) (n : ℕ) (magnitude : Option ℕ) (value z : ℤ) → HeadPasses is_digit s → n ≡ prefix_len is_digit s → Writes (take n s) magnitude →
    MatchOption magnitude (Some value ≡ None) (λ i. SomeIff (Some value) (FitsSigned w64 (pos i)) (pos i)) → (FitsSigned w64 value → z ≡ value) → Longest s n (kind.Integer z) × FitsSigned w64 z
number_found s n magnitude value z h e w m same =
    let f = integer_fits (λ i. pos i) (take n s) magnitude value w m in let g = same f.1 in
    (subst (λ (v : ℤ). Longest s n (kind.Integer v)) (sym (g ∙ f.0)) (number_longest s n h e), subst (FitsSigned w64) (sym g) f.1)

pub number_past : (at line : ℕ) (s : Text) (n : ℕ) (magnitude : Option ℕ) → HeadPasses is_digit s → n ≡ prefix_len is_digit s → Writes (take n s) magnitude →
    MatchOption magnitude (◌≡◌ {A = Option ℤ} None None) (λ i. SomeIff {T = ℤ} None (FitsSigned w64 (pos i)) (pos i)) → Lexes at line s [] (Some (Number at))
number_past at line s n magnitude h e w m = number n (kind.Integer (pos (digits_value 0 (take n s)))) (number_longest s n h e) (integer_past (λ i. pos i) fits_pos (take n s) magnitude w m)

pub negative_found : (s : Text) (n : ℕ) (magnitude : Option ℕ) (value z : ℤ) → (n ≡ 0 → ⊥) → n ≡ prefix_len is_digit s → Writes (take n s) magnitude →
    MatchOption magnitude (Some value ≡ None) (λ i. SomeIff (Some value) (FitsSigned w64 (neg_ℤ (pos i))) (neg_ℤ (pos i))) → (FitsSigned w64 value → z ≡ value) → Longest (45 ∷ s) (1 + n) (kind.Integer z) × FitsSigned w64 z
negative_found s n magnitude value z h e w m same =
    let f = integer_fits (λ i. neg_ℤ (pos i)) (take n s) magnitude value w m in let g = same f.1 in
    (subst (λ (v : ℤ). Longest (45 ∷ s) (1 + n) (kind.Integer v)) (sym (g ∙ f.0)) (negative_longest s n (omega arith) e), subst (FitsSigned w64) (sym g) f.1)

pub negative_past : (at line : ℕ) (s : Text) (n : ℕ) (magnitude : Option ℕ) → (n ≡ 0 → ⊥) → n ≡ prefix_len is_digit s → Writes (take n s) magnitude →
    MatchOption magnitude (◌≡◌ {A = Option ℤ} None None) (λ i. SomeIff {T = ℤ} None (FitsSigned w64 (neg_ℤ (pos i))) (neg_ℤ (pos i))) → Lexes at line (45 ∷ s) [] (Some (Number at))
negative_past at line s n magnitude h e w m =
    number (1 + n) (kind.Integer (neg_ℤ (pos (digits_value 0 (take n s))))) (negative_longest s n (omega arith) e) (integer_past (λ i. neg_ℤ (pos i)) fits_neg (take n s) magnitude w m)

pub lone_minus : (at line : ℕ) (s : Text) (n : ℕ) → n ≡ 0 → n ≡ prefix_len is_digit s → Lexes at line (45 ∷ s) [] (Some (Byte at))
lone_minus at line s n z e = byte refl (λ h. omega arith) (λ h. omega arith) (minus_none s n z e)

pub lone_colon : (at line : ℕ) (s : Text) → (0 < length s → get_or s 0 0 ≢ 45) → Lexes at line (58 ∷ s) [] (Some (Byte at))
lone_colon at line s h = byte refl (λ h. omega arith) (λ h. omega arith) (colon_none s h)

pub open_quote : (at line : ℕ) (s : Text) (n : ℕ) → n ≡ prefix_len is_quotable s → Unclosed s n → Lexes at line (39 ∷ s) [] (Some (Quote at))
open_quote at line s n e u = quote (unclosed_none s n e u)
