-- The pieces of the generated text, with their marks apart.
use Rattle.std.proofs.Common.{◌≡◌, [], ◌∷◌, ◌++◌, codes, append_assoc}
use Rattle.cb_model.specs.Text.{Text, joined}

-- a list in brackets, a name with its arguments, and what follows the first with a comma between
abbrev pub bracketed : Text → Text
bracketed x = 91 ∷ (x ++ (93 ∷ []))

abbrev pub called : Text → Text → Text
called w x = w ++ (40 ∷ (x ++ (41 ∷ [])))

abbrev pub then_comma : Text → Text → Text
then_comma x y = x ++ (44 ∷ y)

-- the carry behind a bit
abbrev pub carry_shape : Text → Text → Text → Text
carry_shape a b k = 40 ∷ (((a ++ (42 ∷ b)) ++ (43 ∷ ((40 ∷ ((a ++ (43 ∷ b)) ++ (41 ∷ []))) ++ (42 ∷ k)))) ++ (41 ∷ []))

pub carry-shape : (a b k : Text) → codes "(" ++ a ++ codes "*" ++ b ++ codes "+(" ++ a ++ codes "+" ++ b ++ codes ")*" ++ k ++ codes ")" ≡ carry_shape a b k
carry-shape a b k = simp append_assoc

pub sum-shape : (a b k : Text) → a ++ codes "#" ++ b ++ codes "#" ++ k ≡ a ++ (35 ∷ (b ++ (35 ∷ k)))
sum-shape a b k = simp append_assoc

-- a full adder
pub part-shape : (a b c s d : Text) → codes "full([" ++ a ++ codes "," ++ b ++ codes "," ++ c ++ codes "],[" ++ s ++ codes "," ++ d ++ codes "])"
    ≡ called (codes "full") (then_comma (bracketed (joined (codes ",") (a ∷ b ∷ c ∷ []))) (bracketed (joined (codes ",") (s ∷ d ∷ []))))
part-shape a b c s d = simp append_assoc

-- the line of the module and that of the specification
pub module-shape : (p o q rest : Text) → codes "module(adder,[" ++ p ++ codes "],[" ++ o ++ codes "],[" ++ q ++ codes "])." ++ rest
    ≡ called (codes "module") (then_comma (codes "adder") (then_comma (bracketed p) (then_comma (bracketed o) (bracketed q)))) ++ (46 ∷ rest)
module-shape p o q rest = simp append_assoc

pub spec-shape : (p e rest : Text) → codes "spec(adder,[" ++ p ++ codes "],[" ++ e ++ codes "])." ++ rest
    ≡ called (codes "spec") (then_comma (codes "adder") (then_comma (bracketed p) (bracketed e))) ++ (46 ∷ rest)
spec-shape p e rest = simp append_assoc
