-- Names with their numbers of arguments, wherever they lie in memory.
use Rattle.std.specs.Prelude.{ℕ, List, [], ◌∷◌, ◌++◌, if◌then◌else◌}
use Rattle.std.specs.Borrow.{Bor}
use Rattle.cb_model.specs.Text.{Text}
use Rattle.cb_model.specs.Directives.{Sign, has_sign}

-- a name with its number of arguments
abbrev pub key_sign : Bor Text × ℕ → Sign
key_sign k = (k.0.now, k.1)

-- a name at the end, where it isn't there yet
abbrev pub add_sign : List Sign → Sign → List Sign
add_sign xs a = if has_sign xs a then xs else xs ++ a ∷ []
