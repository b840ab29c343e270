-- Worked limits: the gates of a module, and the lengths of a file and of the input.
use Rattle.std.specs.Prelude.{ℕ, zero, suc, List, [], ◌∷◌, codes, Some, None}
use Rattle.cb_model.specs.declared.GateKind.TheVariants as gate
use Rattle.cb_model.specs.declared.Outcome.TheVariants as outcome
use Rattle.cb_model.specs.Text.{Text, lines_text}
use Rattle.cb_model.specs.Circuits.{Module, Flat, In, Own}
use Rattle.cb_model.specs.Directives.{nothing}
use Rattle.cb_model.specs.Facts.{ModuleRefusal, Large, no_circuits}
use Rattle.cb_model.specs.Refusals.{Refused}
use Rattle.cb_model.specs.Output.{Loaded, IsLoaded, FileRefused, InputRefused, Output}

-- so many times the same; it is kept closed, since these lists are too long to be computed
unfoldable pub many : {T : Type 0} → ℕ → T → List T
many zero x = []
many (suc n) x = x ∷ many n x

-- so many spaces
abbrev pub spaces : ℕ → Text
spaces n = many n 32

-- a part with one input, one output and so many gates
abbrev pub part_with : ℕ → Flat
part_with n = record { name = codes "big"; inputs = 1; gates = many n (gate.Not, In 0 ∷ []); outputs = Own 0 ∷ [] }

-- `module(m, [A], [Y], [big([A], [Y])])`
abbrev pub around : Module
around = record { name = codes "m"; inputs = codes "A" ∷ []; outputs = codes "Y" ∷ []; instances = record { part = codes "big"; ins = codes "A" ∷ []; outs = codes "Y" ∷ [] } ∷ [] }

-- what a file without a clause holds
abbrev pub empty : Loaded
empty = record { clauses = []; declared = nothing; circuits = no_circuits }

-- the words of `check` and of `run`
abbrev pub check_words : List Text
check_words = codes "check" ∷ codes "F" ∷ []

abbrev pub run_words : List Text
run_words = codes "run" ∷ codes "F" ∷ codes "1" ∷ codes "max" ∷ []

pub record LimitExamples : Type 0 where
  -- a module may have 1,000,000 gates, and not one more
  pub most_gates : ModuleRefusal (part_with 1000000 ∷ []) around None
  pub too_many_gates : ModuleRefusal (part_with 1000001 ∷ []) around (Some Large)
  -- a file may have 4,194,304 bytes, and not one more
  pub longest_file : IsLoaded (spaces 4194304) empty
  pub longest_not_refused : (r : Refused) → FileRefused (spaces 4194304) r → ⊥
  pub longer_not_loaded : (l : Loaded) → IsLoaded (spaces 4194305) l → ⊥
  pub checked : Output check_words (spaces 4194304) [] (lines_text (codes "checked: 0 clauses, 0 modules" ∷ [])) outcome.Done
  pub file_too_long : Output check_words (spaces 4194305) [] (lines_text (codes "error: file too long" ∷ [])) (outcome.Refused 20)
  -- the input may have 1,048,576 bytes, and not one more
  pub input_not_refused : (r : Refused) → InputRefused empty (spaces 1048576) r → ⊥
  pub longest_input : Output run_words [] (spaces 1048576) [] outcome.Done
  pub input_too_long : Output run_words [] (spaces 1048577) (lines_text (codes "error: input too long" ∷ [])) (outcome.Refused 20)
