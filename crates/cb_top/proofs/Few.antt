-- The words of a command name few bits.
use Rattle.std.proofs.Common.{◌≡◌, ℕ, ◌≤◌, ◌<◌, Bool, true, false, ◌&&◌, not, nat_le, if◌then◌else◌, List, [], ◌∷◌, Option, Some, None, inl, inr, refl, sym, ap, ◌∙◌, arith, codes, bytes_eq}
use Rattle.std.specs.Option.{option_map}
use Rattle.std.proofs.lemmas.Bool.{and_parts, cases_lt, true≢false}
use Rattle.std.proofs.lemmas.Bool.Decides.{nat_tests}
use Rattle.cb_model.specs.Text.{Text}
use Rattle.cb_model.specs.Tokens.{is_number, digits_value}
use Rattle.cb_model.specs.Commands.{Command, Check, Run, Verify, Same, Make, Nodes, leads_zero, number_upto, nodes_of, with_two, command_of}
use Rattle.cb_top.specs.Top.{MakesFew}

gt-test : (a b : ℕ) → b < a → nat_le a b ≡ false
gt-test a b l = grind (arith, nat_tests)

le-true : (a b : ℕ) → nat_le a b ≡ true → a ≤ b
le-true a b e = elim (cases_lt b a) [ inl lt ↦ absurd (true≢false (sym e ∙ gt-test a b lt)) | inr ge ↦ ge ]

-- a number that is read is within its limits
abbrev IsWithin : ℕ → Option ℕ → Type 0
IsWithin limit None = Unit {0}
IsWithin limit (Some n) = (1 ≤ n) × (n ≤ limit)

chosen-within : (limit n : ℕ) (a b : Bool) → IsWithin limit (if a && b && nat_le 1 n && nat_le n limit then Some n else None)
chosen-within limit n a b = by_case (a && b && nat_le 1 n && nat_le n limit) (λ e. e)
  where
    by_case : (x : Bool) → (x ≡ true → a && b && nat_le 1 n && nat_le n limit ≡ true) → IsWithin limit (if x then Some n else None)
    by_case false f = tt
    by_case true f =
        let h = and_parts (a && b && nat_le 1 n) (nat_le n limit) (f refl) in
        let k = and_parts (a && b) (nat_le 1 n) h.0 in
        (le-true 1 n k.1, le-true n limit h.1)

number-within : (limit : ℕ) (x : Text) → IsWithin limit (number_upto limit x)
number-within limit x = chosen-within limit (digits_value 0 x) (is_number x) (not (leads_zero x))

two-few : (b : Option ℕ) (n : Option Nodes) → IsWithin 64 b → MakesFew (with_two Make b n)
two-few None n h = tt
two-few (Some b) None h = tt
two-few (Some b) (Some n) h = h

if-few : (x : Bool) (c : Option Command) → MakesFew c → MakesFew (if x then c else None)
if-few true c h = h
if-few false c h = tt

run-few : (f : Text) (r : Option ℕ) (n : Option Nodes) → MakesFew (with_two (Run f) r n)
run-few f None n = tt
run-few f (Some r) None = tt
run-few f (Some r) (Some n) = tt

map-few : (f : Nodes → Command) → ((n : Nodes) → MakesFew (Some (f n))) → (n : Option Nodes) → MakesFew (option_map f n)
map-few f h None = tt
map-few f h (Some n) = h n

four-few : (a b : Bool) (c d : Option Command) → MakesFew c → MakesFew d → MakesFew (if a then c else (if b then d else None))
four-few true b c d h k = h
four-few false b c d h k = if-few b d k

-- the circuit that the words ask for has so few bits
pub words-few : (words : List Text) → MakesFew (command_of words)
words-few [] = tt
words-few (c ∷ []) = tt
words-few (c ∷ f ∷ []) = if-few (bytes_eq c (codes "check")) (Some (Check f)) tt
words-few (c ∷ f ∷ r ∷ []) = if-few (bytes_eq c (codes "make")) _ (two-few (number_upto 64 f) (nodes_of r) (number-within 64 f))
words-few (c ∷ f ∷ r ∷ n ∷ []) =
    four-few (bytes_eq c (codes "run")) (bytes_eq c (codes "verify")) _ _ (run-few f (number_upto 10000000 r) (nodes_of n)) (map-few (Verify f r) (λ k. tt) (nodes_of n))
words-few (c ∷ f ∷ a ∷ b ∷ n ∷ []) = if-few (bytes_eq c (codes "same")) _ (map-few (Same f a b) (λ k. tt) (nodes_of n))
words-few (c ∷ f ∷ a ∷ b ∷ n ∷ x ∷ xs) = tt
