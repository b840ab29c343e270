-- What a count of faults says of how a run ended.
use Rattle.std.specs.Prelude.{◌≡◌, ℕ}
use Rattle.cb_model.specs.Outside.{Rose}

-- the count of faults after a call: it rose where the call failed, else it stands as it was
pub record Counted (failed : Type 0) (before now : ℕ) : Type 0 where
  pub rose : failed → Rose before now
  pub kept : (failed → ⊥) → now ≡ before
