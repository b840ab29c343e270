-- Tokens one behind another: names, and marks of one byte.
use Rattle.std.proofs.Common.{◌≡◌, ℕ, zero, suc, ◌+◌, ◌<◌, ◌≤◌, ◌^◌, true, false, List, [], ◌∷◌, ◌++◌, length, take, sum, Some, None, refl, sym, ◌∙◌, ap, subst, arith, length-append}
use Rattle.std.specs.Prelude.{All, decimal, ◌%◌}
use Rattle.std.specs.List.{list_all}
use Rattle.std.proofs.Math.Seq.{take-append_seam, drop-append_seam}
use Rattle.std.proofs.lemmas.Bool.Decides.{nat_tests}
use Rattle.std.proofs.lemmas.Fmt.{decimal_by_steps}
use Rattle.std.proofs.lemmas.List.Elements.{All-cons}
use Rattle.std.proofs.lemmas.List.Folds.{list_all-append}
use Rattle.cb_lex.proofs.Bools.{false_and, and_false, both}
use Rattle.cb_lex.proofs.Classes.{class_longest, capital_class, small_class}
use Rattle.cb_model.specs.declared.Kind.{Kind}
use Rattle.cb_model.specs.declared.Kind.TheVariants as kind
use Rattle.cb_model.specs.Text.{Text, is_word, is_capital, is_small}
use Rattle.cb_model.specs.Tokens.{Token, spelled, Longest, InRange, Lexes, token}
use Rattle.cb_model.specs.Grammar.{nest, nestings, depth}

-- ---- names

-- the text doesn't go on with a letter, a digit or `_`
abbrev pub Stops : Text → Type 0
Stops [] = Unit {0}
Stops (y ∷ ys) = is_word y ≡ false

past-word : (xs rest : Text) → Stops rest → (m : ℕ) → length xs < m → m ≤ length (xs ++ rest) → list_all is_word (take m (xs ++ rest)) ≡ false
past-word [] [] s m l u = absurd (omega arith)
past-word [] (y ∷ ys) s zero l u = absurd (omega arith)
past-word [] (y ∷ ys) s (suc m) l u = false_and (is_word y) (list_all is_word (take m ys)) s
past-word (x ∷ xs) rest s zero l u = absurd (omega arith)
past-word (x ∷ xs) rest s (suc m) l u = and_false (is_word x) (list_all is_word (take m (xs ++ rest))) (past-word xs rest s m (omega arith) (omega arith))

-- a name: a variable or an atom
abbrev pub IsName : Kind → Text → Type 0
IsName kind.Variable (x ∷ xs) = (is_capital x ≡ true) × (list_all is_word xs ≡ true)
IsName kind.Atom (x ∷ xs) = (is_small x ≡ true) × (list_all is_word xs ≡ true)
IsName _ _ = ⊥

abbrev pub token_of : Kind → Text → ℕ → ℕ → Token
token_of k w at line = record { kind = k; text = w; start = at; stop = at + length w; line = line }

within-append : (xs rest : Text) → length xs ≤ length (xs ++ rest)
within-append xs rest = omega (arith, length-append xs rest)

one-suc : (n : ℕ) → 1 + n ≡ suc n
one-suc n = omega arith

name-token : (k : Kind) (x : ℕ) (xs rest : Text) (at line : ℕ) (ts : List Token) → Longest (x ∷ (xs ++ rest)) (1 + length xs) k → InRange k → Lexes (at + length (x ∷ xs)) line rest ts None →
    Lexes at line (x ∷ (xs ++ rest)) (token_of k (x ∷ xs) at line ∷ ts) None
name-token k x xs rest at line ts l r h =
    token (suc (length xs)) k (token_of k (x ∷ xs) at line) (subst (λ n. Longest (x ∷ (xs ++ rest)) n k) (one-suc (length xs)) l) r
    (ap (λ (w : Text). record { kind = k; text = x ∷ w; start = at; stop = at + suc (length xs); line = line }) (sym (take-append_seam xs rest)))
    (subst (λ (w : Text). Lexes (at + suc (length xs)) line w ts None) (sym (drop-append_seam xs rest)) h)

pub name-lexes : (k : Kind) (w rest : Text) (at line : ℕ) (ts : List Token) → IsName k w → Stops rest → Lexes (at + length w) line rest ts None → Lexes at line (w ++ rest) (token_of k w at line ∷ ts) None
name-lexes kind.Variable (x ∷ xs) rest at line ts (c, a) s h =
    name-token kind.Variable x xs rest at line ts (class_longest (xs ++ rest) (length xs) (capital_class x c) (within-append xs rest) (ap (list_all is_word) (take-append_seam xs rest) ∙ a) (past-word xs rest s)) tt h
name-lexes kind.Atom (x ∷ xs) rest at line ts (c, a) s h =
    name-token kind.Atom x xs rest at line ts (class_longest (xs ++ rest) (length xs) (small_class x c) (within-append xs rest) (ap (list_all is_word) (take-append_seam xs rest) ∙ a) (past-word xs rest s)) tt h
name-lexes _ w rest at line ts n s h = absurd n

-- digits go on a name
digit-word : (n : ℕ) → n < 10 → is_word (48 + n) ≡ true
digit-word n l = grind (arith, nat_tests)

pub digits-word : (n : ℕ) → n < 2 ^ 64 → list_all is_word (decimal n) ≡ true
digits-word = decimal_by_steps (λ m ds. list_all is_word ds ≡ true) (λ m l. both (is_word (48 + m)) true (digit-word m l) refl)
    (λ m ds l h. list_all-append is_word ds ((48 + m % 10) ∷ []) ∙ both (list_all is_word ds) (list_all is_word ((48 + m % 10) ∷ [])) h (both (is_word (48 + m % 10)) true (digit-word (m % 10) (omega arith)) refl))

-- ---- marks

-- a byte that is a token, and never the first of a longer one
pub record Mark (c : ℕ) (k : Kind) : Type 0 where
  pub one : spelled (c ∷ []) ≡ Some k
  pub alone : (y : ℕ) (ys : Text) → spelled (c ∷ y ∷ ys) ≡ None
  pub fits : InRange k

pub mark-lexes : (c : ℕ) (k : Kind) (rest : Text) (at line : ℕ) (ts : List Token) → Mark c k → Lexes (at + 1) line rest ts None → Lexes at line (c ∷ rest) (token_of k (c ∷ []) at line ∷ ts) None
mark-lexes c k rest at line ts m h = token 1 k (token_of k (c ∷ []) at line) (record { within = omega arith; token = m.one; longest = past rest }) m.fits refl h
  where
    past : (rest : Text) (n : ℕ) → 1 < n → n ≤ length (c ∷ rest) → spelled (take n (c ∷ rest)) ≡ None
    past rest zero l u = absurd (omega arith)
    past rest (suc zero) l u = absurd (omega arith)
    past [] (suc (suc n)) l u = absurd (omega arith)
    past (y ∷ ys) (suc (suc n)) l u = m.alone y (take n ys)

pub left_paren : Mark 40 kind.LeftParen
left_paren = record { one = refl; alone = λ y ys. refl; fits = tt }

pub right_paren : Mark 41 kind.RightParen
right_paren = record { one = refl; alone = λ y ys. refl; fits = tt }

pub left_bracket : Mark 91 kind.LeftBracket
left_bracket = record { one = refl; alone = λ y ys. refl; fits = tt }

pub right_bracket : Mark 93 kind.RightBracket
right_bracket = record { one = refl; alone = λ y ys. refl; fits = tt }

pub comma : Mark 44 kind.Comma
comma = record { one = refl; alone = λ y ys. refl; fits = tt }

pub dot : Mark 46 kind.Dot
dot = record { one = refl; alone = λ y ys. refl; fits = tt }

pub hash : Mark 35 kind.Hash
hash = record { one = refl; alone = λ y ys. refl; fits = tt }

pub star : Mark 42 kind.Star
star = record { one = refl; alone = λ y ys. refl; fits = tt }

pub plus : Mark 43 kind.Plus
plus = record { one = refl; alone = λ y ys. refl; fits = tt }

-- ---- nesting

abbrev pub reps : ℕ → List ℕ
reps zero = []
reps (suc d) = 0 ∷ reps d

abbrev pub Shallow : ℕ → List Token → Type 0
Shallow d ts = All (λ n. n < 257) (nestings (0 ∷ reps d) ts)

reps-long : (d : ℕ) → length (reps d) ≡ d
reps-long zero = refl
reps-long (suc d) = ap suc (reps-long d)

reps-sum : (d : ℕ) → sum (reps d) ≡ 0
reps-sum zero = refl
reps-sum (suc d) = let e = reps-sum d in omega (arith, e)

depth-is : (d : ℕ) → depth (0 ∷ reps d) ≡ d
depth-is d = omega (arith, reps-long d, reps-sum d)

-- a token more
pub shallow-more : (d e : ℕ) (t : Token) (ts : List Token) → nest t.kind ts (0 ∷ reps d) ≡ 0 ∷ reps e → e < 257 → Shallow e ts → Shallow d (t ∷ ts)
shallow-more d e t ts q l h =
    subst (λ (ns : List ℕ). All (λ n. n < 257) (depth ns ∷ nestings ns ts)) (sym q)
    (All-cons (λ n. n < 257) (depth (0 ∷ reps e)) (nestings (0 ∷ reps e) ts) (let z = depth-is e in omega (arith, z, l)) h)
