-- Parts of printed lines.
use Rattle.std.specs.Prelude.{ℕ, Bool, List, [], ◌∷◌, ◌++◌, codes, decimal}
use Rattle.cb_model.specs.Text.{Text, name_text}
use Rattle.cb_model.specs.Verdicts.{bit_text}
use Rattle.cb_lines.specs.declared.lines.Pair.{Pair}
use Rattle.cb_lines.specs.declared.lines.Pair.TheVariants as pair

-- each text behind a space
abbrev pub spaced : List Text → Text
spaced [] = []
spaced (x ∷ xs) = (32 ∷ x) ++ spaced xs

-- the end of the line of a difference, with the output counted from 1
abbrev pub output_text : ℕ → Bool → Bool → Text
output_text output got wanted =
    codes ": output " ++ decimal output ++ codes " is " ++ bit_text got ++ codes ", wanted " ++ bit_text wanted ++ (10 ∷ [])

-- the word of a pair whose sides agree
abbrev pub word_text : Pair → Text
word_text (pair.Specified name) = codes "verified "
word_text (pair.Modules one two) = codes "same "

-- the names of a pair
abbrev pub names_text : Pair → Text
names_text (pair.Specified name) = name_text name.now
names_text (pair.Modules one two) = name_text one.now ++ codes " " ++ name_text two.now

-- how large an adder is that is right
abbrev pub adder_size_text : ℕ → ℕ → ℕ → Text
adder_size_text inputs outputs gates =
    codes "verified adder: inputs " ++ decimal inputs ++ codes ", outputs " ++ decimal outputs ++ codes ", gates " ++ decimal gates
