-- `andd(a, Y, Z), Y = a` with the demon rules `andd(0, Y, Z) :- Z = 0.` and `andd(X, X, Z) :- Z = X.`: the demon waits, and then
-- commits to its second rule.
use Rattle.std.proofs.Common.{◌≡◌, ℕ, zero, suc, ◌+◌, ◌<◌, true, false, List, [], ◌∷◌, refl, sym, ◌∙◌, ap, subst, inl, inr, codes, arith}
use Rattle.std.specs.Prelude.{unwrap_or, is_some}
use Rattle.std.specs.Fmt.{digits}
use Rattle.cb_model.specs.declared.Expr.{Expr}
use Rattle.cb_model.specs.declared.Expr.TheVariants as expr
use Rattle.cb_model.specs.declared.Expr.TheOpen.{Expr-F}
use Rattle.cb_model.specs.declared.Expr.TheFolds.{fold-roll-Expr}
use Rattle.cb_model.specs.declared.Goal.TheVariants as goal
use Rattle.cb_model.specs.declared.Clause.{Clause}
use Rattle.cb_model.specs.Bits.{none, yes_here, Bits, put}
use Rattle.cb_model.specs.Values.{Bit, Valuation}
use Rattle.cb_model.specs.Equations.{Pair, Item, Meets, Solvable}
use Rattle.cb_model.specs.Program.{shift_expr, shift_expr_step, shift_tree}
use Rattle.cb_model.specs.Derivation.{Branch, Run, Made, Printed, Note, Answered, Becomes, Adds, Goes, here, on, whole, Whole, runs, Matches, RuleMatches, waits, extended, resolved, first_branch}
use Rattle.cb_model.specs.Line.{IsLine, told}
use Rattle.cb_model.specs.Commands.{Max}
use Rattle.cb_model.specs.Output.{QuerySays, all, no_lines, more_lines}
use Rattle.cb_laws.proofs.Values.{expr_values, tree_values}
use Rattle.cb_laws.proofs.Tables.{with_bits, zero_fits, bits_equal}
use Rattle.cb_laws.proofs.Shapes.{shape_values, text_values}
use Rattle.cb_laws.proofs.Fixed.{first_arg, second_arg, third_arg, first_bit, second_bit, two, two_shape, two_gen, Fixes}
use Rattle.cb_rows.proofs.TryRow.{shift-leaf}
use Rattle.cb_rows.specs.DemonRow.{a, var, zero_rule, same_rule, p, args, call, q, names}

pub shift-var : (k n : ℕ) → shift_expr k (expr.Var n) ≡ expr.Var (k + n)
shift-var k n = ap (shift_expr k) (sym (expr.rolls-Var n)) ∙ fold-roll-Expr Expr (shift_expr_step k) (Expr-F.Var n)

-- the branch behind the call, with the call waiting, after the equation, with the call woken, after the rule, and after its body
abbrev behind : Branch
behind = record (first_branch q) { goals = goal.Equal (var 0) a ∷ [] }

abbrev parked : Branch
parked = waits behind call

abbrev equated : Branch
equated = extended (record parked { goals = [] }) [] (Pair (var 0) a ∷ []) []

abbrev woken : Branch
woken = record equated { goals = call ∷ []; waiting = [] }

abbrev called : Branch
called = record woken { goals = [] }

abbrev taken : Branch
taken = resolved called 0 args same_rule

abbrev answer : Branch
answer = extended (record taken { goals = [] }) [] (Pair (shift_tree 2 (var 1)) (shift_tree 2 (var 0)) ∷ []) []

-- ---- which rules match

-- rule k is this one
rule_is : (es : List Item) (k : ℕ) (c : Clause) → Rattle.std.specs.Prelude.slice_get p.clauses k ≡ Rattle.std.specs.Prelude.Some c → RuleMatches p es 0 args k → Matches p.world es c.head args
rule_is es k c e r =
    let same : c ≡ r.rule = ap (λ o. unwrap_or o c) (sym e ∙ r.is_rule) in
    subst (λ c. Matches p.world es c.head args) (sym same) r.matches

abbrev ones : Bits
ones n = true

-- where a is 1 the first rule doesn't match
not_zero : (es : List Item) (b : Valuation) → Meets p.world es ones b → RuleMatches p es 0 args 0 → ⊥
not_zero es b m r =
    let h = rule_is es 0 zero_rule refl r ones b m in
    let x : false ≡ true = simp (tree_values, expr_values) at (ap first_bit h.1.1) in
    cc

abbrev Y0 : Valuation
Y0 = with_bits (λ n. false)

meets : Meets p.world [] ones Y0
meets = record { admitted = tt; sorted = λ n. zero_fits; sat = tt }

-- before the equation the second doesn't either, where a is 1 and Y is 0
not_same : RuleMatches p [] 0 args 1 → ⊥
not_same r =
    let h = rule_is [] 1 same_rule refl r ones Y0 meets in
    let x : h.0.bits 0 ≡ true = simp (tree_values, expr_values) at (ap first_bit h.1.1) in
    let y : h.0.bits 0 ≡ false = simp (tree_values, expr_values) at (ap second_bit h.1.1) in
    cc

no_rule : (k : ℕ) → RuleMatches p [] 0 args k → ⊥
no_rule zero r = not_zero [] Y0 meets r
no_rule (suc zero) r = not_same r
no_rule (suc (suc k)) r = let x : false ≡ true = ap is_some r.is_rule in cc

-- the equation says that Y is a
is_a : (c : Bits) (b : Valuation) → Meets p.world equated.items c b → b.bits 0 ≡ c 0
is_a c b m = bits_equal _ _ (simp (tree_values, expr_values) at m.sat.0)

same_matches : RuleMatches p equated.items 0 args 1
same_matches = record {
  rule = same_rule;
  is_rule = refl;
  of_pred = refl;
  matches = λ c b m.
      (with_bits (put 0 (c 0) b.bits), ((λ n. zero_fits), simp (tree_values, expr_values) (ap (λ x. Bit (c 0) ∷ Bit x ∷ Bit (b.bits 1) ∷ []) (sym (is_a c b m)))));
}

all_a : (c : Bits) → Meets p.world equated.items c (with_bits (λ n. c 0))
all_a c = record { admitted = tt; sorted = λ n. zero_fits; sat = (simp (tree_values, expr_values) refl, tt) }

before : (j : ℕ) → j < 1 → RuleMatches p equated.items 0 args j → ⊥
before zero l r = not_zero equated.items (with_bits (λ n. true)) (all_a ones) r
before (suc j) l r = absurd (omega arith)

-- ---- the run

equated_solvable : Solvable p.world equated.items
equated_solvable c ok = record { b = with_bits (λ n. c 0); sorted = λ n. zero_fits; sat = (all_a c).sat }

taken_solvable : Solvable p.world taken.items
taken_solvable c ok = record {
  b = with_bits (λ n. c 0);
  sorted = λ n. zero_fits;
  sat = (simp (tree_values, expr_values) refl, (simp (shift-leaf, shift-var, tree_values, expr_values) refl, tt));
}

answer_solvable : Solvable p.world answer.items
answer_solvable c ok = record {
  b = with_bits (λ n. c 0);
  sorted = λ n. zero_fits;
  sat = (simp (tree_values, expr_values) refl, (simp (shift-leaf, shift-var, tree_values, expr_values) refl, (simp (shift-leaf, shift-var, tree_values, expr_values) refl, tt)));
}

answer_fixes : Fixes p.world answer.items (λ e. e 0) (λ e. e 0)
answer_fixes c b m =
    let x : b.bits 2 ≡ c 0 = bits_equal _ _ (ap first_arg (simp (shift-leaf, shift-var, tree_values, expr_values) at m.sat.1.0)) in
    let y : b.bits 2 ≡ b.bits 0 = bits_equal _ _ (ap second_arg (simp (shift-leaf, shift-var, tree_values, expr_values) at m.sat.1.0)) in
    let z : b.bits 3 ≡ b.bits 1 = bits_equal _ _ (ap third_arg (simp (shift-leaf, shift-var, tree_values, expr_values) at m.sat.1.0)) in
    let u : b.bits 3 ≡ b.bits 2 = bits_equal _ _ (simp (shift-leaf, shift-var, tree_values, expr_values) at m.sat.1.1.0) in
    (sym y ∙ x, sym z ∙ u ∙ x)

abbrev notes : List Note
notes = Made equated ∷ Made taken ∷ Made answer ∷ Printed answer ∷ []

goes : Goes p 1 0 (Run (first_branch q) ∷ []) notes 1 []
unfolding same_matches
goes =
    on (Becomes (Run parked)) (Run parked ∷ []) _ (inr (no_rule, refl)) refl refl refl
    (on (Adds 0 [] equated) (Run woken ∷ []) _ refl refl
    (inl (equated_solvable, (woken, (record { ready = record { number = 0; goal = call } ∷ []; rest = []; parts = yes_here (1, same_matches) none; is = refl }, refl)))) refl
    (on (Adds 1 [] taken) (Run taken ∷ []) _ (inl (1, same_matches, before, refl)) refl
    (inl (taken_solvable, (taken, (record { ready = []; rest = []; parts = none; is = refl }, refl)))) refl
    (on (Adds 0 [] answer) (Run answer ∷ []) _ refl refl
    (inl (answer_solvable, (answer, (record { ready = []; rest = []; parts = none; is = refl }, refl)))) refl
    (on (Answered answer) [] [] refl refl refl refl here))))

line : IsLine p names answer (codes "Y = a, Z = a")
line = told two ((λ e. e 0) ∷ (λ e. e 0) ∷ []) (two_shape _ _) (simp (shape_values, text_values) refl)
    (λ env. two_gen p.world answer.items (λ e. e 0) (λ e. e 0) answer_solvable answer_fixes env (env 2) (env 3))
    (simp shape_values refl) (simp (shape_values, text_values) refl)

-- the whole text of the query
pub says : QuerySays p q names 1 Max (codes "Y = a, Z = a" ∷ codes "end" ∷ []) false
says = all _ Whole (codes "Y = a, Z = a" ∷ []) (runs 1 [] (record { begins = refl; rest = _; goes = goes; is = refl }) whole) (more_lines line no_lines) refl refl
