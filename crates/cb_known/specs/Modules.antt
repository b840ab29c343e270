-- The modules of a file, by name.
use Rattle.std.specs.Prelude.{◌≡◌, ℕ, if◌then◌else◌, List, [], ◌∷◌, ◌++◌, map, Option, Some, None}
use Rattle.std.specs.Borrow.{Bor}
use Rattle.std.specs.Option.{option_map}
use Rattle.cb_model.specs.Text.{Text}
use Rattle.cb_model.specs.Directives.{Sign, has_sign, looked_up}
use Rattle.cb_model.specs.Loading.{module_number}

-- the number of a module
abbrev pub number_of : List (Sign × ℕ) → Text → Option ℕ
number_of es x = looked_up es (x, 0)

-- each name has the number of the first module with it
abbrev pub AreNumbers : List (Option Text) → List (Sign × ℕ) → Type 0
AreNumbers ms es = (x : Text) → number_of es x ≡ module_number ms x

-- a fact's name, if it is a fact, is what the list has
abbrev pub Names : Option (Option (Bor Text)) → List (Option Text) → Type 0
Names None ms = ms ≡ []
Names (Some x) ms = ms ≡ option_map (λ b. b.now) x ∷ []

-- a module's number, where it has a name and no earlier one has it
abbrev pub with_module : List (Sign × ℕ) → Option Text → ℕ → List (Sign × ℕ)
with_module es None n = es
with_module es (Some x) n = if has_sign (map (λ e. e.0) es) (x, 0) then es else es ++ ((x, 0), n) ∷ []
