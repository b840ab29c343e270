-- The levels of a diagram as constants and parameters, and how they are named.
use Rattle.std.specs.Prelude.{ℕ, ◌+◌, ◌-◌, Bool, nat_lt, if◌then◌else◌, List, [], ◌++◌, map, get_or, codes, decimal}
use Rattle.cb_model.specs.Text.{Text, name_text}
use Rattle.cb_model.specs.Bits.{Bits, numbers}
use Rattle.cb_model.specs.Answers.{value_text}
use Rattle.cb_model.specs.Line.{variable_name}
use Rattle.cb_dd.specs.declared.Triple.{Triple}
use Rattle.cb_dd.specs.Diagram.{function_of}

-- the level of variable k: the constants have the first levels, and the parameters those from `first` on
abbrev pub level_at : ℕ → ℕ → ℕ → ℕ
level_at constants first k = if nat_lt k constants then k else first + (k - constants)

-- the levels of the constants and of so many parameters
abbrev pub levels : ℕ → ℕ → ℕ → List ℕ
levels constants first m = map (level_at constants first) (numbers (constants + m))

-- the bits of the levels, from those of the constants and, behind them, of the parameters
abbrev pub spread : ℕ → ℕ → Bits → Bits
spread constants first env l = if nat_lt l constants then env l else env (constants + (l - first))

-- the node's function of the constants and the parameters
abbrev pub function_at : List Triple → ℕ → ℕ → ℕ → Bits → Bool
function_at ts n constants first env = function_of ts n (spread constants first env)

-- the text of a node over these constants and so many parameters, as it stands in a line
abbrev pub node_text : List Triple → ℕ → ℕ → ℕ → List Text → ℕ → Text
node_text ts n constants first names m =
    value_text (variable_name constants (record { names = []; constants = names; printed = [] })) (function_at ts n constants first) (numbers (constants + m))

-- the name of a level
abbrev pub level_name : ℕ → ℕ → List Text → ℕ → Text
level_name constants first names l = if nat_lt l constants then name_text (get_or names l []) else codes "_" ++ decimal (l - first + 1)
