-- A demon takes the first of two rules that match.
use Rattle.std.proofs.Common.{false, [], ◌∷◌, refl, inl, codes, arith}
use Rattle.cb_model.specs.declared.Goal.TheVariants as goal
use Rattle.cb_model.specs.Bits.{none}
use Rattle.cb_model.specs.Equations.{Solvable}
use Rattle.cb_model.specs.Derivation.{Moves, Branch, Run, Made, Dropped, Adds, Goes, here, on, whole, Whole, runs, RuleMatches, resolved, first_branch}
use Rattle.cb_model.specs.Output.{QuerySays, all, no_lines}
use Rattle.cb_model.specs.Commands.{Max}
use Rattle.cb_laws.proofs.Values.{expr_values, tree_values}
use Rattle.cb_laws.proofs.Tables.{with_bits, zero_fits}
use Rattle.cb_rows.proofs.DemonRow.{shift-var}
use Rattle.cb_rows.proofs.TryRow.{shift-leaf}
use Rattle.cb_rows.specs.TwoRulesRow.{rule, p, zero, q, names}

abbrev pub taken : Branch
taken = resolved (record (first_branch q) { goals = [] }) 0 (zero ∷ []) (rule (goal.Fail ∷ []))

first_matches : RuleMatches p [] 0 (zero ∷ []) 0
first_matches = record {
  rule = rule (goal.Fail ∷ []);
  is_rule = refl;
  of_pred = refl;
  matches = λ a b m. (with_bits (λ n. false), ((λ n. zero_fits), simp (tree_values, expr_values) refl));
}

-- the second matches too
pub second_matches : RuleMatches p [] 0 (zero ∷ []) 1
second_matches = record {
  rule = rule [];
  is_rule = refl;
  of_pred = refl;
  matches = λ a b m. (with_bits (λ n. false), ((λ n. zero_fits), simp (tree_values, expr_values) refl));
}

solvable : Solvable p.world taken.items
solvable a ok = record { b = with_bits (λ n. false); sorted = λ n. zero_fits; sat = (simp (shift-leaf, shift-var, tree_values, expr_values) refl, tt) }

-- the first is taken, and costs a resolution
pub commits : Moves p (Run (first_branch q)) (Adds 1 [] taken)
unfolding first_matches
commits = inl (0, first_matches, (λ j l r. absurd (omega arith)), refl)

goes : Goes p 1 0 (Run (first_branch q) ∷ []) (Made taken ∷ []) 1 []
unfolding first_matches
goes =
    on (Adds 1 [] taken) (Run taken ∷ []) _ (inl (0, first_matches, (λ j l r. absurd (omega arith)), refl)) refl
    (inl (solvable, (taken, (record { ready = []; rest = []; parts = none; is = refl }, refl)))) refl
    (on Dropped [] [] refl refl refl refl here)

-- the whole text of the query
pub says : QuerySays p q names 1 Max (codes "no" ∷ []) false
says = all _ Whole [] (runs 1 [] (record { begins = refl; rest = _; goes = goes; is = refl }) whole) no_lines refl refl
