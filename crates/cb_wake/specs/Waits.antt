-- Waiting goals by number.
use Rattle.std.specs.Prelude.{◌≡◌, ℕ, suc, ◌+◌, ◌<◌, ◌≤◌, Bool, true, false, List, [], ◌∷◌, ◌++◌, length, drop, Option, Some, None, Result, Ok, slice_get, slice_set}
use Rattle.cb_dd.specs.declared.Stop.{Stop}

-- whether each parked goal still waits, by number, and the goals that were taken, in order
pub record Waits : Type 0 where
  pub still : List Bool
  pub taken : List ℕ

-- nothing was parked
abbrev pub no_goals : Waits
no_goals = record { still = []; taken = [] }

-- the numbers of those that still wait, where the first has this number
abbrev pub numbers_of : ℕ → List Bool → List ℕ
numbers_of k [] = []
numbers_of k (true ∷ xs) = k ∷ numbers_of (suc k) xs
numbers_of k (false ∷ xs) = numbers_of (suc k) xs

-- the goals that wait, by number
abbrev pub waiting : Waits → List ℕ
waiting w = numbers_of 0 w.still

-- the goals that wait, from this number on
abbrev pub waiting_from : ℕ → List Bool → List ℕ
waiting_from k xs = numbers_of k (drop k xs)

-- those that a scan for a ready goal didn't come to
abbrev pub unasked : List Bool → Result (Option ℕ) Stop → List ℕ
unasked xs (Ok (Some k)) = waiting_from (k + 1) xs
unasked xs _ = []

-- from the first count of tests to the second, each goal from this number on that the scan came to was asked about at most once
abbrev pub AsksOnce : ℕ → ℕ → ℕ → List Bool → Result (Option ℕ) Stop → Type 0
AsksOnce before after from xs r = after + length (unasked xs r) ≤ before + length (waiting_from from xs)

-- no goal that still waits is ready
abbrev pub NoneReady : (ℕ → Type 0) → List Bool → Type 0
NoneReady P xs = (j : ℕ) → slice_get xs j ≡ Some true → P j → ⊥

-- the ready goal with the least number
abbrev pub IsLeast : (ℕ → Type 0) → List Bool → Option ℕ → Type 0
IsLeast P xs None = NoneReady P xs
IsLeast P xs (Some k) = (slice_get xs k ≡ Some true) × P k × ((j : ℕ) → j < k → slice_get xs j ≡ Some true → P j → ⊥)

-- the goals after one was taken
abbrev pub without : ℕ → Waits → Waits
without k w = record { still = slice_set w.still k false; taken = w.taken ++ k ∷ [] }

-- the ready goal with the least number, which no longer waits
abbrev pub IsTaken : (ℕ → Type 0) → Waits → Waits → Option ℕ → Type 0
IsTaken P old new None = (new ≡ old) × NoneReady P old.still
IsTaken P old new (Some k) = (new ≡ without k old) × IsLeast P old.still (Some k)

-- how far a scan has come: no goal so far is ready
pub record IsScanned (P : ℕ → Type 0) (xs : List Bool) (k : ℕ) : Type 0 where
  pub none : (j : ℕ) → j < k → slice_get xs j ≡ Some true → P j → ⊥
