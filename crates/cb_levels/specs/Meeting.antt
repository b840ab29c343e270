-- What a walk of the fan-in has met.
use Rattle.std.specs.Prelude.{◌≡◌, ℕ, suc, ◌+◌, Bool, true, false, List, [], ◌∷◌, ◌++◌, length}
use Rattle.std.specs.List.Sorted.{IsPermutation}
use Rattle.cb_model.specs.declared.Circuit.{Circuit}
use Rattle.cb_model.specs.declared.Gate.{Gate}
use Rattle.cb_model.specs.Bits.{numbers}

-- the numbers of those without a mark, where the first has this number
abbrev pub unmarked : ℕ → List Bool → List ℕ
unmarked at [] = []
unmarked at (true ∷ marks) = unmarked (suc at) marks
unmarked at (false ∷ marks) = at ∷ unmarked (suc at) marks

-- the pins of the gates without a mark
abbrev pub unmarked_pins : List Gate → List Bool → ℕ
unmarked_pins [] marks = 0
unmarked_pins (g ∷ gs) [] = 0
unmarked_pins (g ∷ gs) (true ∷ marks) = unmarked_pins gs marks
unmarked_pins (g ∷ gs) (false ∷ marks) = length g.ins + unmarked_pins gs marks

-- a mark for each input and each gate; the inputs that are met, and behind them the others, are all inputs, each once
pub record IsMeeting (c : Circuit) (order : List ℕ) (met entered : List Bool) : Type 0 where
  pub inputs : length met ≡ c.inputs
  pub gates : length entered ≡ length c.gates
  pub once : IsPermutation (numbers c.inputs) (order ++ unmarked 0 met)

-- how many nets a walk still looks at: those that are pending, and the pins of the gates that it has not entered
abbrev pub to_look : Circuit → List Bool → List ℕ → ℕ
to_look c entered pending = length pending + unmarked_pins c.gates entered
