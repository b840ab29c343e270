-- What each kind of step counts, most by computation.
use Rattle.std.proofs.Common.{◌≡◌, ℕ, true, [], ◌∷◌, refl, sym, ◌∙◌, ap, codes, arith, rules, ℤ}
use Rattle.std.specs.Fmt.{digits}
use Rattle.cb_model.specs.declared.Tree.TheVariants as tree
use Rattle.cb_model.specs.declared.Tree.TheOpen.{Tree-F}
use Rattle.cb_model.specs.declared.Tree.TheFolds.{fold-roll-Tree}
use Rattle.cb_model.specs.Line.{places, places_step}
use Rattle.cb_model.specs.declared.Goal.TheVariants as goal
use Rattle.cb_model.specs.Commands.{Max}
use Rattle.cb_model.specs.Derivation.{Change, Adds, Run, Try, Moves, resolutions_of, Made, Stopped, Resolutions, here, runs, stops, first_branch}
use Rattle.cb_model.specs.Output.{QuerySays, all, no_lines}
use Rattle.cb_laws.proofs.Determined.{moves_one}
use Rattle.cb_laws.proofs.Shapes.{text_values}
use Rattle.cb_rows.specs.CircuitGoalRow as circuit
use Rattle.cb_rows.specs.TwoRulesRow as two_rules
use Rattle.cb_rows.specs.TryRow as try
use Rattle.cb_rows.specs.StepExamples.{b, StepExamples}
use Rattle.cb_rows.proofs.TwoRulesRow.{taken, commits}
use Rattle.cb_rows.proofs.TryRow.{shift-leaf}
use Rattle.cb_rows.proofs.DemonRow.{shift-var}

place-int : (z : ℤ) → places (tree.Int z) ≡ places_step (Tree-F.Int z)
place-int z = ap places (sym (tree.rolls-Int z)) ∙ fold-roll-Tree ℕ places_step (Tree-F.Int z)

-- ---- resolutions

commit_one : (c : Change) → Moves two_rules.p (Run (first_branch two_rules.q)) c → resolutions_of c ≡ 1
commit_one c m = ap resolutions_of (moves_one two_rules.p (Run (first_branch two_rules.q)) c (Adds 1 [] taken) m commits)

commit_stop : QuerySays two_rules.p two_rules.q two_rules.names 0 Max (codes "stopped: resolutions" ∷ []) true
commit_stop =
    all (Made (first_branch two_rules.q) ∷ []) (Stopped Resolutions) []
    (runs 0 (Run (first_branch two_rules.q) ∷ []) (record { begins = refl; rest = []; goes = here; is = refl }) (stops (Adds 1 [] taken) commits refl)) no_lines refl refl

try_one : (c : Change) → Moves try.p (Try try.behind 0 (try.X ∷ []) 0) c → resolutions_of c ≡ 1
try_one c m = ap resolutions_of m.2

equation_none : (c : Change) → Moves try.p (Run (record b { goals = goal.Equal (tree.Var 1) (tree.Var 1) ∷ [] })) c → resolutions_of c ≡ 0
equation_none c m = ap resolutions_of m

circuit_none : (c : Change) → Moves circuit.p (Run (first_branch circuit.q)) c → resolutions_of c ≡ 0
circuit_none c m = ap resolutions_of m.2

pub rows_hold : StepExamples
unfolding digits
rows_hold = record {
  circuit_sorts = refl;
  circuit_steps = refl;
  circuit_left = refl;
  circuit_passed = refl;
  clause_sorts = refl;
  clause_items = simp (shift-leaf, shift-var) refl;
  clause_steps = refl;
  last_step = refl;
  step_passed = refl;
  last_resolution = refl;
  resolution_passed = refl;
  costs_none = refl;
  commit_costs = commit_one;
  commit_stops = commit_stop;
  try_costs = try_one;
  equation_costs = equation_none;
  circuit_costs = circuit_none;
  waiting = refl;
  next_number = refl;
  waiting_steps = refl;
  begins = refl;
  forms = refl;
  yes_waits = refl;
  variables_wait = refl;
  yes_line = simp text_values refl;
  variable_names = refl;
  leaf_texts = refl;
  parameter_bits = refl;
  open_places = refl;
  place_counts = simp (text_values, place-int) refl;
  greatest = search rules;
  past_greatest = λ h. absurd (omega (arith, h));
  least = search rules;
  past_least = λ h. absurd (omega (arith, h));
}
