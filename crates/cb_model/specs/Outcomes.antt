-- How a run ends, and the status that says so.
use Rattle.std.specs.Prelude.{ℕ}
use Rattle.cb_model.specs.declared.Outcome.{Outcome}
use Rattle.cb_model.specs.declared.Outcome.TheVariants.{Done, Differs, Refused, Stopped, Fault, Memory}

-- the status of the process
abbrev pub status_of : Outcome → ℕ
status_of Done = 0
status_of Differs = 1
status_of (Refused n) = 2
status_of Stopped = 3
status_of (Fault s) = 4
status_of Memory = 5
