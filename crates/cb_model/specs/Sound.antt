-- A circuit whose nets have one valuation.
use Rattle.std.specs.Prelude.{◌≡◌, Bool, List}
use Rattle.cb_model.specs.declared.Circuit.{Circuit}
use Rattle.cb_model.specs.Circuits.{Consistent}

-- exactly one valuation is consistent with the input
pub record HasOneValuation (c : Circuit) (input : List Bool) : Type 0 where
  pub v : List Bool
  pub consistent : Consistent c input v
  pub only : (w : List Bool) → Consistent c input w → w ≡ v
