-- Parts of the generated text.
use Rattle.std.specs.Prelude.{ℕ, ◌++◌, codes, map}
use Rattle.cb_model.specs.Bits.{numbers}
use Rattle.cb_model.specs.Text.{Text, joined}
use Rattle.cb_model.specs.Adder.{named, part_text}

-- the two inputs of a bit with a sign between them
abbrev pub pair_text : ℕ → Text → Text
pair_text i sign = named (codes "A") i ++ sign ++ named (codes "B") i

-- the full adders
abbrev pub parts_text : ℕ → Text
parts_text n = joined (codes ",") (map part_text (numbers n))
