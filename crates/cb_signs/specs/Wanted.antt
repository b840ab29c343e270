-- The names that terms, goals and clauses have, put behind those before.
use Rattle.std.specs.Prelude.{◌≡◌, if◌then◌else◌, List, [], ◌∷◌, ◌++◌}
use Rattle.cb_model.specs.Grammar.{Forms, Name, Last, More, FormClause, Directive, Rule}
use Rattle.cb_model.specs.Directives.{Sign, count_of}
use Rattle.cb_model.specs.Loading.{is_fact, signs_of, goals_signs}
use Rattle.cb_names.specs.Keys.{add_sign}

-- names at the end, each where it isn't there yet
abbrev pub add_signs : List Sign → List Sign → List Sign
add_signs xs [] = xs
add_signs xs (a ∷ as') = add_signs (add_sign xs a) as'

-- behind a list of names that stays, these were added
abbrev pub Adds : List Sign → List Sign → List Sign → List Sign → Type 0
Adds base old new as' = base ++ new ≡ add_signs (base ++ old) as'

-- the names of the arguments that are names
abbrev pub argument_signs : Forms → List Sign
argument_signs Last = []
argument_signs (More (Name x fs) rest) = (x, count_of fs) ∷ argument_signs rest
argument_signs (More f rest) = argument_signs rest

-- the names that directives speak of
abbrev pub directive_signs : List FormClause → List Sign
directive_signs [] = []
directive_signs (Directive line word fs ∷ cs) = argument_signs fs ++ directive_signs cs
directive_signs (c ∷ cs) = directive_signs cs

-- the names that directives speak of, and those in rules other than facts, in the order of the text
abbrev pub named_signs : List FormClause → List Sign
named_signs [] = []
named_signs (Directive line word fs ∷ cs) = argument_signs fs ++ named_signs cs
named_signs (Rule line f bodied gs ∷ cs) =
    if is_fact (Rule line f bodied gs) then named_signs cs else signs_of f ++ goals_signs gs ++ named_signs cs
