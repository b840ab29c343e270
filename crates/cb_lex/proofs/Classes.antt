-- The longest match, by the first byte.
use Rattle.std.specs.Prelude.{◌&&◌, ◌==◌, if◌then◌else◌, bytes_eq, nat_eq, pos, neg_ℤ}
use Rattle.std.specs.List.{list_all}
use Rattle.std.proofs.lemmas.Bool.Decides.{nat_tests, eqb_tells}
use Rattle.std.proofs.Common.{◌≡◌, ℕ, suc, zero, ◌+◌, ◌<◌, ◌≤◌, Bool, true, false, List, [], ◌∷◌, length, take, ⊎_elim, Option, Some, None, refl, ◌∙◌, ap, arith}
use Rattle.cb_lex.proofs.Bools.{and_false, false_and, both}
use Rattle.cb_model.specs.declared.Kind.{Kind}
use Rattle.cb_model.specs.declared.Kind.TheVariants as kind
use Rattle.cb_model.specs.Text.{Text, is_small, is_capital, is_digit, is_word}
use Rattle.cb_model.specs.Tokens.{spelled, is_quoted, is_number, digits_value, marks, mark_named, Longest, NoToken}

-- ---- a first byte, and a test of what follows it

-- the tokens that begin with a byte: what follows it passes a test
pub record Class (x : ℕ) (test : Text → Bool) (named : Text → Kind) : Type 0 where
  pub is : (xs : Text) → test xs ≡ true → spelled (x ∷ xs) ≡ Some (named xs)
  pub not_is : (xs : Text) → test xs ≡ false → spelled (x ∷ xs) ≡ None

pub class_longest : {x : ℕ} {test : Text → Bool} {named : Text → Kind} (s : Text) (n : ℕ) → Class x test named → n ≤ length s → test (take n s) ≡ true →
    ((m : ℕ) → n < m → m ≤ length s → test (take m s) ≡ false) → Longest (x ∷ s) (1 + n) (named (take n s))
class_longest {x} {test} {named} s n c le passes past = record { within = omega arith; token = at_stop; longest = beyond }
  where
    one_more : 1 + n ≡ suc n
    one_more = omega arith

    at_stop : spelled (take (1 + n) (x ∷ s)) ≡ Some (named (take n s))
    at_stop = ap (λ (i : ℕ). spelled (take i (x ∷ s))) one_more ∙ c.is (take n s) passes

    beyond : (m : ℕ) → 1 + n < m → m ≤ length (x ∷ s) → spelled (take m (x ∷ s)) ≡ None
    beyond zero lt le = absurd (omega arith)
    beyond (suc m) lt le = c.not_is (take m s) (past m (omega arith) (omega arith))

pub class_none : {x : ℕ} {test : Text → Bool} {named : Text → Kind} (s : Text) → Class x test named → ((m : ℕ) → m ≤ length s → test (take m s) ≡ false) → NoToken (x ∷ s)
class_none s c past zero le = refl
class_none s c past (suc m) le = c.not_is (take m s) (past m (omega arith))

-- ---- the tests of a text, apart from the text

abbrev pick : Bool → Bool → Bool → Bool → Bool → Bool → Option Kind → Option Kind → Option Kind → Option Kind
pick c s w q n d i j m = if c && w then Some kind.Variable else (if s && w then Some kind.Atom else (if q then Some kind.Quoted else (if n then i else (if d then j else m))))

pick_variable : (c s w q n d : Bool) (i j m : Option Kind) → c ≡ true → w ≡ true → pick c s w q n d i j m ≡ Some kind.Variable
pick_variable true s true q n d i j m a b = refl
pick_variable false s w q n d i j m a b = absurd (cc)
pick_variable true s false q n d i j m a b = absurd (cc)

pick_atom : (c s w q n d : Bool) (i j m : Option Kind) → c ≡ false → s ≡ true → w ≡ true → pick c s w q n d i j m ≡ Some kind.Atom
pick_atom false true true q n d i j m a b e = refl
pick_atom true s w q n d i j m a b e = absurd (cc)
pick_atom false false w q n d i j m a b e = absurd (cc)
pick_atom false true false q n d i j m a b e = absurd (cc)

pick_number : (c s w q n d : Bool) (i j m : Option Kind) → c ≡ false → s ≡ false → q ≡ false → n ≡ true → pick c s w q n d i j m ≡ i
pick_number false false w false true d i j m a b e f = refl
pick_number true s w q n d i j m a b e f = absurd (cc)
pick_number false true w q n d i j m a b e f = absurd (cc)
pick_number false false w true n d i j m a b e f = absurd (cc)
pick_number false false w false false d i j m a b e f = absurd (cc)

-- a byte that begins no word and no number
pub pick_mark : (c s w q n d : Bool) (i j m : Option Kind) → c ≡ false → s ≡ false → q ≡ false → n ≡ false → d ≡ false → pick c s w q n d i j m ≡ m
pick_mark false false w false false false i j m a b e f g = refl
pick_mark true s w q n d i j m a b e f g = absurd (cc)
pick_mark false true w q n d i j m a b e f g = absurd (cc)
pick_mark false false w true n d i j m a b e f g = absurd (cc)
pick_mark false false w false true d i j m a b e f g = absurd (cc)
pick_mark false false w false false true i j m a b e f g = absurd (cc)

-- a byte that begins a word, before what is no word
pick_no_word : (c s w q n d : Bool) (i j m : Option Kind) → w ≡ false → q ≡ false → n ≡ false → d ≡ false → pick c s w q n d i j m ≡ m
pick_no_word true true false false false false i j m a b e f = refl
pick_no_word true false false false false false i j m a b e f = refl
pick_no_word false true false false false false i j m a b e f = refl
pick_no_word false false false false false false i j m a b e f = refl
pick_no_word c s true q n d i j m a b e f = absurd (cc)
pick_no_word c s false true n d i j m a b e f = absurd (cc)
pick_no_word c s false false true d i j m a b e f = absurd (cc)
pick_no_word c s false false false true i j m a b e f = absurd (cc)

-- ---- a byte that passes a test differs from one that doesn't

differs : (P : ℕ → Bool) (x c : ℕ) → P x ≡ true → P c ≡ false → nat_eq c x ≡ false
differs P x c a b = ⊎_elim (λ t. let h : P c ≡ P x = ap P t.1 in absurd (cc)) (λ t. t.0) (eqb_tells c x)

differs_to : (P : ℕ → Bool) (x c : ℕ) → P x ≡ true → P c ≡ false → nat_eq x c ≡ false
differs_to P x c a b = ⊎_elim (λ t. let h : P x ≡ P c = ap P t.1 in absurd (cc)) (λ t. t.0) (eqb_tells x c)

no_digit_capital : (x : ℕ) → is_capital x ≡ true → is_digit x ≡ false
no_digit_capital x h = grind (arith, nat_tests)

no_digit_small : (x : ℕ) → is_small x ≡ true → is_digit x ≡ false
no_digit_small x h = grind (arith, nat_tests)

capital_small : (x : ℕ) → is_small x ≡ true → is_capital x ≡ false
capital_small x h = grind (arith, nat_tests)

digit_capital : (x : ℕ) → is_digit x ≡ true → is_capital x ≡ false
digit_capital x h = grind (arith, nat_tests)

digit_small : (x : ℕ) → is_digit x ≡ true → is_small x ≡ false
digit_small x h = grind (arith, nat_tests)

-- ---- marks

pub mark_step : (b : Bool) (k : Kind) (o : Option Kind) → b ≡ false → o ≡ None → (if b then Some k else o) ≡ None
mark_step false k o a e = e
mark_step true k o a e = absurd (cc)

-- the first byte of each mark fails a test
abbrev Fails : (ℕ → Bool) → List (Text × Kind) → Type 0
Fails P [] = Unit {0}
Fails P (m ∷ ms) = first_fails P m.0 × Fails P ms
  where
    first_fails : (ℕ → Bool) → Text → Type 0
    first_fails P [] = ⊥
    first_fails P (c ∷ cs) = P c ≡ false

abbrev AllFail : (ℕ → Bool) → Type 0
AllFail P = Fails P marks

no_mark : (P : ℕ → Bool) (x : ℕ) (xs : Text) → P x ≡ true → AllFail P → mark_named marks (x ∷ xs) ≡ None
no_mark P x xs h f = goes marks f
  where
    goes : (ms : List (Text × Kind)) → Fails P ms → mark_named ms (x ∷ xs) ≡ None
    goes [] f = refl
    goes (([], k) ∷ ms) f = absurd f.0
    goes ((c ∷ cs, k) ∷ ms) f = mark_step (bytes_eq (c ∷ cs) (x ∷ xs)) k (mark_named ms (x ∷ xs)) (false_and (nat_eq c x) (bytes_eq cs xs) (differs P x c h f.0)) (goes ms f.1)

-- ---- words

no_word : (P : ℕ → Bool) (x : ℕ) (xs : Text) → P x ≡ true → AllFail P → P 39 ≡ false → P 45 ≡ false → is_digit x ≡ false → list_all is_word xs ≡ false → spelled (x ∷ xs) ≡ None
no_word P x xs h f q d n w =
    pick_no_word (is_capital x) (is_small x) (list_all is_word xs) (x == 39 && is_quoted xs) (is_number (x ∷ xs)) (x == 45 && is_number xs) _ _ (mark_named marks (x ∷ xs)) w
    (false_and (x == 39) (is_quoted xs) (differs_to P x 39 h q))
    (false_and (is_digit x) (list_all is_digit xs) n)
    (false_and (x == 45) (is_number xs) (differs_to P x 45 h d)) ∙ no_mark P x xs h f

pub capital_class : (x : ℕ) → is_capital x ≡ true → Class x (list_all is_word) (λ xs. kind.Variable)
capital_class x h = record {
  is = λ xs w. pick_variable (is_capital x) (is_small x) (list_all is_word xs) (x == 39 && is_quoted xs) (is_number (x ∷ xs)) (x == 45 && is_number xs) _ _ (mark_named marks (x ∷ xs)) h w;
  not_is = λ xs w. no_word is_capital x xs h (refl, (refl, (refl, (refl, (refl, (refl, (refl, (refl, (refl, (refl, (refl, (refl, (refl, (refl, tt)))))))))))))) refl refl (no_digit_capital x h) w;
}

pub small_class : (x : ℕ) → is_small x ≡ true → Class x (list_all is_word) (λ xs. kind.Atom)
small_class x h = record {
  is = λ xs w. pick_atom (is_capital x) (is_small x) (list_all is_word xs) (x == 39 && is_quoted xs) (is_number (x ∷ xs)) (x == 45 && is_number xs) _ _ (mark_named marks (x ∷ xs)) (capital_small x h) h w;
  not_is = λ xs w. no_word is_small x xs h (refl, (refl, (refl, (refl, (refl, (refl, (refl, (refl, (refl, (refl, (refl, (refl, (refl, (refl, tt)))))))))))))) refl refl (no_digit_small x h) w;
}

-- ---- integers

pub digit_class : (x : ℕ) → is_digit x ≡ true → Class x (list_all is_digit) (λ xs. kind.Integer (pos (digits_value 0 (x ∷ xs))))
digit_class x h = record {
  is = λ xs a. pick_number (is_capital x) (is_small x) (list_all is_word xs) (x == 39 && is_quoted xs) (is_number (x ∷ xs)) (x == 45 && is_number xs) _ _ (mark_named marks (x ∷ xs))
      (digit_capital x h) (digit_small x h) (false_and (x == 39) (is_quoted xs) (differs_to is_digit x 39 h refl)) (both (is_digit x) (list_all is_digit xs) h a);
  not_is = λ xs a. pick_mark (is_capital x) (is_small x) (list_all is_word xs) (x == 39 && is_quoted xs) (is_number (x ∷ xs)) (x == 45 && is_number xs) _ _ (mark_named marks (x ∷ xs))
      (digit_capital x h) (digit_small x h) (false_and (x == 39) (is_quoted xs) (differs_to is_digit x 39 h refl)) (and_false (is_digit x) (list_all is_digit xs) a)
      (false_and (x == 45) (is_number xs) (differs_to is_digit x 45 h refl)) ∙ no_mark is_digit x xs h (refl, (refl, (refl, (refl, (refl, (refl, (refl, (refl, (refl, (refl, (refl, (refl, (refl, (refl, tt))))))))))))));
}

if_true : (b : Bool) (k : Kind) → b ≡ true → (if b then Some k else None) ≡ Some k
if_true true k h = refl
if_true false k h = absurd (cc)

if_false : (b : Bool) (k : Kind) → b ≡ false → (if b then Some k else None) ≡ None
if_false false k h = refl
if_false true k h = absurd (cc)

pub minus_class : Class 45 is_number (λ xs. kind.Integer (neg_ℤ (pos (digits_value 0 xs))))
minus_class = record {
  is = λ xs h. if_true (is_number xs) (kind.Integer (neg_ℤ (pos (digits_value 0 xs)))) h;
  not_is = λ xs h. if_false (is_number xs) (kind.Integer (neg_ℤ (pos (digits_value 0 xs)))) h;
}

-- ---- quoted atoms, and `:-`

pub quote_class : Class 39 is_quoted (λ xs. kind.Quoted)
quote_class = record {
  is = λ xs h. if_true (is_quoted xs) kind.Quoted h;
  not_is = λ xs h. if_false (is_quoted xs) kind.Quoted h;
}

pub neck_class : Class 58 (bytes_eq (45 ∷ [])) (λ xs. kind.Neck)
neck_class = record {
  is = λ xs h. if_true (bytes_eq (45 ∷ []) xs) kind.Neck h;
  not_is = λ xs h. if_false (bytes_eq (45 ∷ []) xs) kind.Neck h;
}
