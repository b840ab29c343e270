-- `inv(X, Y), X = 1` with `:- delay inv(const, any). inv(0, 1). inv(1, 0).`: the goal waits, is woken, and its second clause answers.
use Rattle.std.proofs.Common.{◌≡◌, Bool, true, false, ◌==◌, List, [], ◌∷◌, refl, sym, ◌∙◌, ap, inl, inr, codes}
use Rattle.cb_model.specs.declared.Expr.{Expr}
use Rattle.cb_model.specs.declared.Expr.TheVariants as expr
use Rattle.cb_model.specs.declared.Goal.TheVariants as goal
use Rattle.cb_model.specs.Bits.{none, yes_here}
use Rattle.cb_model.specs.Values.{Bit}
use Rattle.cb_model.specs.Equations.{Pair, Meets, Solvable, Refuted}
use Rattle.cb_model.specs.Derivation.{Branch, Run, Try, Made, Printed, Note, Answered, Becomes, Adds, Goes, here, on, whole, Whole, runs, Ready, waits, extended, resolved, first_branch, Ends, stops, Stopped, Resolutions}
use Rattle.cb_model.specs.Line.{IsLine, told}
use Rattle.cb_model.specs.Commands.{Max}
use Rattle.cb_model.specs.Output.{QuerySays, all, no_lines, more_lines}
use Rattle.cb_laws.proofs.Values.{expr_values, tree_values}
use Rattle.cb_laws.proofs.Tables.{with_bits, zero_fits, bits_equal}
use Rattle.cb_laws.proofs.Shapes.{shape_values, text_values}
use Rattle.cb_laws.proofs.Fixed.{first_arg, second_arg, two, two_shape, two_gen, Fixes}
use Rattle.cb_rows.proofs.TryRow.{shift-zero, shift-one, shift-leaf}
use Rattle.cb_rows.specs.WakeRow.{X, one, call, row, p, q, names, q2}

-- the branch behind the call, with the call waiting, after the equation, with the call woken, and after a clause
abbrev behind : Branch
behind = record (first_branch q) { goals = goal.Equal X one ∷ [] }

abbrev parked : Branch
parked = waits behind call

abbrev equated : Branch
equated = extended (record parked { goals = [] }) [] (Pair X one ∷ []) []

abbrev woken : Branch
woken = record equated { goals = call ∷ []; waiting = [] }

abbrev called : Branch
called = record woken { goals = [] }

abbrev taken : Expr → Expr → Branch
taken x y = resolved called 0 two (row x y)

meets : (x : Bool) → Meets p.world [] (λ n. false) (with_bits (λ n. x))
meets x = record { admitted = tt; sorted = λ n. zero_fits; sat = tt }

not_ready : Ready p [] call → ⊥
not_ready r =
    let zero : Bit false ≡ r.0.0 = simp (tree_values, expr_values) at (r.0.1 (λ n. false) (with_bits (λ n. false)) (meets false)) in
    let one : Bit true ≡ r.0.0 = simp (tree_values, expr_values) at (r.0.1 (λ n. false) (with_bits (λ n. true)) (meets true)) in
    let same : false ≡ true = bits_equal false true (zero ∙ sym one) in
    cc

ready : Ready p equated.items call
ready = ((Bit true, λ a b m. m.sat.0 ∙ simp (tree_values, expr_values) refl), (tt, tt))

equated_solvable : Solvable p.world equated.items
equated_solvable a ok = record { b = with_bits (λ n. true); sorted = λ n. zero_fits; sat = (simp (tree_values, expr_values) refl, tt) }

first_fails : Refuted p.world (taken expr.Zero expr.One).items
first_fails = record {
  a = λ n. false;
  admitted = tt;
  none = λ b sorted s.
      let x : b.bits 0 ≡ true = bits_equal _ _ (simp (tree_values, expr_values) at s.0) in
      let y : false ≡ b.bits 0 = bits_equal _ _ (ap first_arg (simp (shift-leaf, shift-zero, shift-one, tree_values, expr_values) at s.1.0)) in
      cc;
}

second_solvable : Solvable p.world (taken expr.One expr.Zero).items
second_solvable a ok = record {
  b = with_bits (λ n. n == 0);
  sorted = λ n. zero_fits;
  sat = (simp (tree_values, expr_values) refl, (simp (shift-leaf, shift-zero, shift-one, tree_values, expr_values) refl, tt));
}

second_fixes : Fixes p.world (taken expr.One expr.Zero).items (λ e. true) (λ e. false)
second_fixes a b m =
    let x : true ≡ b.bits 0 = bits_equal _ _ (ap first_arg (simp (shift-leaf, shift-zero, shift-one, tree_values, expr_values) at m.sat.1.0)) in
    let y : false ≡ b.bits 1 = bits_equal _ _ (ap second_arg (simp (shift-leaf, shift-zero, shift-one, tree_values, expr_values) at m.sat.1.0)) in
    (sym x, sym y)

abbrev notes : List Note
notes = Made equated ∷ Made (taken expr.Zero expr.One) ∷ Made (taken expr.One expr.Zero) ∷ Printed (taken expr.One expr.Zero) ∷ []

goes : Goes p 2 0 (Run (first_branch q) ∷ []) notes 2 []
goes =
    on (Becomes (Run parked)) (Run parked ∷ []) _ (inr (not_ready, refl)) refl refl refl
    (on (Adds 0 [] equated) (Run woken ∷ []) _ refl refl
    (inl (equated_solvable, (woken, (record { ready = record { number = 0; goal = call } ∷ []; rest = []; parts = yes_here ready none; is = refl }, refl)))) refl
    (on (Becomes (Try called 0 two 0)) (Try called 0 two 0 ∷ []) _ (inl (ready, refl)) refl refl refl
    (on (Adds 1 (Try called 0 two 1 ∷ []) (taken expr.Zero expr.One)) (Try called 0 two 1 ∷ []) _ (row expr.Zero expr.One, refl, refl) refl (inr (first_fails, refl)) refl
    (on (Adds 1 [] (taken expr.One expr.Zero)) (Run (taken expr.One expr.Zero) ∷ []) _ (row expr.One expr.Zero, refl, refl) refl
    (inl (second_solvable, (taken expr.One expr.Zero, (record { ready = []; rest = []; parts = none; is = refl }, refl)))) refl
    (on (Answered (taken expr.One expr.Zero)) [] [] refl refl refl refl here)))))

line : IsLine p names (taken expr.One expr.Zero) (codes "X = 1, Y = 0")
line = told two ((λ e. true) ∷ (λ e. false) ∷ []) (two_shape _ _) (simp (shape_values, text_values) refl)
    (λ env. two_gen p.world (taken expr.One expr.Zero).items (λ e. true) (λ e. false) second_solvable second_fixes env (env 0) (env 1))
    (simp shape_values refl) (simp (shape_values, text_values) refl)

-- the whole text of the query
pub says : QuerySays p q names 2 Max (codes "X = 1, Y = 0" ∷ codes "end" ∷ []) false
says = all _ Whole (codes "X = 1, Y = 0" ∷ []) (runs 2 [] (record { begins = refl; rest = _; goes = goes; is = refl }) whole) (more_lines line no_lines) refl refl

-- ---- `inv(X, Y), X = 1, fail` with one resolution: the woken goal runs before `fail`, so the second try is one too many

abbrev parked2 : Branch
parked2 = waits (record (first_branch q2) { goals = goal.Equal X one ∷ goal.Fail ∷ [] }) call

abbrev equated2 : Branch
equated2 = extended (record parked2 { goals = goal.Fail ∷ [] }) (goal.Fail ∷ []) (Pair X one ∷ []) []

abbrev woken2 : Branch
woken2 = record equated2 { goals = call ∷ goal.Fail ∷ []; waiting = [] }

abbrev called2 : Branch
called2 = record woken2 { goals = goal.Fail ∷ [] }

goes2 : Goes p 1 0 (Run (first_branch q2) ∷ []) (Made equated2 ∷ Made (resolved called2 0 two (row expr.Zero expr.One)) ∷ []) 1 (Try called2 0 two 1 ∷ [])
goes2 =
    on (Becomes (Run parked2)) (Run parked2 ∷ []) _ (inr (not_ready, refl)) refl refl refl
    (on (Adds 0 [] equated2) (Run woken2 ∷ []) _ refl refl
    (inl (equated_solvable, (woken2, (record { ready = record { number = 0; goal = call } ∷ []; rest = []; parts = yes_here ready none; is = refl }, refl)))) refl
    (on (Becomes (Try called2 0 two 0)) (Try called2 0 two 0 ∷ []) _ (inl (ready, refl)) refl refl refl
    (on (Adds 1 (Try called2 0 two 1 ∷ []) (resolved called2 0 two (row expr.Zero expr.One))) (Try called2 0 two 1 ∷ []) _ (row expr.Zero expr.One, refl, refl) refl (inr (first_fails, refl)) refl here)))

stops_second : Ends p 1 1 (Try called2 0 two 1 ∷ []) (Stopped Resolutions)
stops_second = stops (Adds 1 [] (resolved called2 0 two (row expr.One expr.Zero))) (row expr.One expr.Zero, refl, refl) refl

pub says2 : QuerySays p q2 names 1 Max (codes "stopped: resolutions" ∷ []) true
says2 = all _ (Stopped Resolutions) [] (runs 1 _ (record { begins = refl; rest = _; goes = goes2; is = refl }) stops_second) no_lines refl refl
