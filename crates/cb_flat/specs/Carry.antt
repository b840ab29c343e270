-- Flattened modules whose gates carry bits.
use Rattle.std.specs.Prelude.{◌≡◌, Bool, List, length}
use Rattle.cb_model.specs.Carry.{IsTotal}
use Rattle.cb_model.specs.Circuits.{Flat, circuit_of}
use Rattle.cb_model.specs.Sound.{HasOneValuation}

-- a flattened module whose gates carry bits has exactly one consistent valuation at each input
abbrev pub TotalHasOne : Type 0
TotalHasOne = (f : Flat) → IsTotal f → (input : List Bool) → length input ≡ f.inputs → HasOneValuation (circuit_of f) input
