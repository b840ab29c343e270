-- Two goals are woken at once.
use Rattle.std.proofs.Common.{◌≡◌, Bool, true, false, [], ◌∷◌, refl, sym, ◌∙◌, inl, inr, codes}
use Rattle.cb_model.specs.declared.Expr.TheVariants as expr
use Rattle.cb_model.specs.declared.Tree.TheVariants as tree
use Rattle.cb_model.specs.declared.Goal.TheVariants as goal
use Rattle.cb_model.specs.Bits.{none, yes_here}
use Rattle.cb_model.specs.Values.{Bit}
use Rattle.cb_model.specs.Equations.{Pair, Meets, Solvable}
use Rattle.cb_model.specs.Derivation.{Branch, Run, Made, Becomes, Dropped, Adds, Goes, here, on, whole, Whole, runs, WordsHold, waits, extended, first_branch}
use Rattle.cb_model.specs.Output.{QuerySays, all, no_lines}
use Rattle.cb_model.specs.Commands.{Max}
use Rattle.cb_laws.proofs.Values.{expr_values, tree_values}
use Rattle.cb_laws.proofs.Tables.{with_bits, zero_fits, bits_equal}
use Rattle.cb_model.specs.declared.When.TheVariants as when
use Rattle.cb_rows.specs.TwoWokenRow.{X, call, p, q, names}

-- the branch with the first goal waiting, with both waiting, after the equation, and with both woken
abbrev one_waits : Branch
one_waits = waits (record (first_branch q) { goals = call 1 ∷ goal.Equal X (tree.Leaf expr.One) ∷ [] }) (call 0)

abbrev two_wait : Branch
two_wait = waits (record one_waits { goals = goal.Equal X (tree.Leaf expr.One) ∷ [] }) (call 1)

abbrev equated : Branch
equated = extended (record two_wait { goals = [] }) [] (Pair X (tree.Leaf expr.One) ∷ []) []

abbrev woken : Branch
woken = record equated { goals = call 0 ∷ call 1 ∷ []; waiting = [] }

meets : (x : Bool) → Meets p.world [] (λ n. false) (with_bits (λ n. x))
meets x = record { admitted = tt; sorted = λ n. zero_fits; sat = tt }

not_known : WordsHold p.world [] (when.Fixed ∷ []) (X ∷ []) → ⊥
not_known r =
    let zero : Bit false ≡ r.0.0 = simp (tree_values, expr_values) at (r.0.1 (λ n. false) (with_bits (λ n. false)) (meets false)) in
    let one : Bit true ≡ r.0.0 = simp (tree_values, expr_values) at (r.0.1 (λ n. false) (with_bits (λ n. true)) (meets true)) in
    let same : false ≡ true = bits_equal false true (zero ∙ sym one) in
    cc

known : WordsHold p.world equated.items (when.Fixed ∷ []) (X ∷ [])
known = ((Bit true, λ a b m. m.sat.0 ∙ simp (tree_values, expr_values) refl), tt)

solvable : Solvable p.world equated.items
solvable a ok = record { b = with_bits (λ n. true); sorted = λ n. zero_fits; sat = (simp (tree_values, expr_values) refl, tt) }

goes : Goes p 1 0 (Run (first_branch q) ∷ []) (Made equated ∷ []) 0 []
goes =
    on (Becomes (Run one_waits)) (Run one_waits ∷ []) _ (inr (not_known, refl)) refl refl refl
    (on (Becomes (Run two_wait)) (Run two_wait ∷ []) _ (inr (not_known, refl)) refl refl refl
    (on (Adds 0 [] equated) (Run woken ∷ []) _ refl refl
    (inl (solvable, (woken, (record { ready = record { number = 0; goal = call 0 } ∷ record { number = 1; goal = call 1 } ∷ []; rest = []; parts = yes_here known (yes_here known none); is = refl }, refl)))) refl
    (on Dropped [] [] (inl (known, refl)) refl refl refl here)))

-- the whole text of the query
pub says : QuerySays p q names 1 Max (codes "no" ∷ []) false
says = all _ Whole [] (runs 0 [] (record { begins = refl; rest = _; goes = goes; is = refl }) whole) no_lines refl refl
