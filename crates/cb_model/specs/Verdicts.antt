-- The lines of comparisons.
use Rattle.std.specs.Prelude.{◌≡◌, ℕ, suc, Bool, if◌then◌else◌, List, [], ◌∷◌, ◌++◌, codes, decimal}
use Rattle.cb_model.specs.declared.Circuit.{Circuit}
use Rattle.cb_model.specs.declared.Outcome.{Outcome}
use Rattle.cb_model.specs.declared.Outcome.TheVariants.{Done, Differs, Stopped}
use Rattle.cb_model.specs.Text.{Text, joined, shown_name}
use Rattle.cb_model.specs.Circuits.{Agrees, LeastDifference}

-- a bit
abbrev pub bit_text : Bool → Text
bit_text x = if x then codes "1" else codes "0"

-- `P=B` for each port
abbrev pub port_texts : List Text → List Bool → List Text
port_texts (p ∷ ps) (x ∷ xs) = (shown_name p ++ codes "=" ++ bit_text x) ∷ port_texts ps xs
port_texts _ _ = []

-- ` at` and the ports, where there are any
abbrev pub at_text : List Text → Text
at_text [] = []
at_text ps = codes " at " ++ joined (codes " ") ps

-- `differs NAME at P=B P=B: output K is X, wanted Y`, with the output counted from 0 here and from 1 in the line
abbrev pub differs_text : Text → List Text → List Bool → ℕ → Bool → Bool → Text
differs_text names ports input at got wanted =
    codes "differs " ++ names ++ at_text (port_texts ports input) ++ codes ": output " ++ decimal (suc at) ++
    codes " is " ++ bit_text got ++ codes ", wanted " ++ bit_text wanted

-- the line and the outcome of a comparison of a circuit with what is wanted of it: that they agree; or where they
-- differ first; or, where the budget of nodes may be too small, that it was
pub data Compared (names ok : Text) (ports : List Text) (c : Circuit) (Wanted : List Bool → List Bool → Type 0) (TooFew : Type 0) : List Text → Outcome → Type 0 where
  agrees : {x : Text} → Agrees c Wanted → x ≡ ok ++ names → Compared names ok ports c Wanted TooFew (x ∷ []) Done
  differs : {x : Text} (input : List Bool) (at : ℕ) (got wanted : Bool) → LeastDifference c Wanted input at got wanted →
      x ≡ differs_text names ports input at got wanted → Compared names ok ports c Wanted TooFew (x ∷ []) Differs
  stopped : {x : Text} → TooFew → x ≡ codes "stopped: nodes" → Compared names ok ports c Wanted TooFew (x ∷ []) Stopped
