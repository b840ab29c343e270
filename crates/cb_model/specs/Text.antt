-- Texts: numbers, names and lists of pieces.
use Rattle.std.specs.Prelude.{◌≡◌, ℕ, Bool, true, false, not, ◌&&◌, ◌||◌, nat_le, ◌==◌, if◌then◌else◌, List, [], ◌∷◌, ◌++◌, take, codes, bytes_eq}
use Rattle.std.specs.List.{list_all, list_any}

-- a list of bytes
abbrev pub Text : Type 0
Text = List ℕ

-- the pieces with a separator between them
abbrev pub joined : Text → List Text → Text
joined sep [] = []
joined sep (x ∷ []) = x
joined sep (x ∷ y ∷ xs) = x ++ sep ++ joined sep (y ∷ xs)

-- a letter `a` to `z`
abbrev pub is_small : ℕ → Bool
is_small x = nat_le 97 x && nat_le x 122

-- a digit
abbrev pub is_digit : ℕ → Bool
is_digit x = nat_le 48 x && nat_le x 57

-- a letter `A` to `Z` or `_`
abbrev pub is_capital : ℕ → Bool
is_capital x = (nat_le 65 x && nat_le x 90) || x == 95

-- a letter, a digit or `_`
abbrev pub is_word : ℕ → Bool
is_word x = is_small x || is_capital x || is_digit x

-- a small letter, and then letters, digits and `_`
abbrev pub is_plain : Text → Bool
is_plain [] = false
is_plain (x ∷ xs) = is_small x && list_all is_word xs

-- a letter `A` to `Z` or `_`, and then letters, digits and `_`
abbrev pub is_variable : Text → Bool
is_variable [] = false
is_variable (x ∷ xs) = is_capital x && list_all is_word xs

-- plain where it can be, else in quotes
abbrev pub name_text : Text → Text
name_text x = if is_plain x then x else codes "'" ++ x ++ codes "'"

-- A variable's name as it stands in the text. Each `_` is a variable of its own, which carries `_`, a byte 0 and a
-- number as its name, and stands in the text as `_` again.
abbrev pub shown_name : Text → Text
shown_name x = if bytes_eq (take 2 x) (95 ∷ 0 ∷ []) then codes "_" else x

-- no name stands twice
abbrev pub all_different : List Text → Bool
all_different [] = true
all_different (x ∷ xs) = not (list_any (bytes_eq x) xs) && all_different xs

-- each line ends with one byte 10
abbrev pub lines_text : List Text → Text
lines_text [] = []
lines_text (x ∷ xs) = x ++ (10 ∷ lines_text xs)

-- one text begins the other
abbrev pub IsPrefix : Text → Text → Type 0
IsPrefix x y = (z : Text) × (x ++ z ≡ y)
