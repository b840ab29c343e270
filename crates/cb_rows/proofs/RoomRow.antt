-- `~X = X` over an empty file: what the first branch and the branch that is dropped allow as a stop for nodes.
use Rattle.std.proofs.Common.{◌≡◌, ◌<◌, Bool, true, false, not, List, [], ◌∷◌, refl, subst, inl, inr, codes, arith, lit<}
use Rattle.cb_model.specs.declared.Expr.TheVariants as expr
use Rattle.cb_model.specs.declared.Tree.TheVariants as tree
use Rattle.cb_model.specs.declared.Clause.{Clause}
use Rattle.cb_model.specs.Values.{Ground, Int}
use Rattle.cb_model.specs.Equations.{Solvable, SolvedAt}
use Rattle.cb_model.specs.Program.{no_program}
use Rattle.cb_model.specs.Derivation.{Made, Try, Becomes, SoFar, here, on, resolved, with_circuit, first_branch}
use Rattle.cb_model.specs.Answers.{IsShape, with_opens}
use Rattle.cb_model.specs.Room.{BelowRoom, room_with, branch_size, expr_size}
use Rattle.cb_model.specs.Output.{QuerySays, few, few_adding, no_lines, room_of}
use Rattle.cb_laws.proofs.Values.{expr_values, tree_values}
use Rattle.cb_laws.proofs.Tables.{bits_equal, with_bits, zero_fits}
use Rattle.cb_laws.proofs.Shapes.{shape_values, size_values}
use Rattle.std.specs.Prelude.{pos, None, sum_by}
use Rattle.cb_model.specs.Commands.{Only}
use Rattle.cb_rows.specs.RoomRow.{X, p, q, names, dropped, times, name_program, name_query, name_behind, bare, bare_program, bare_query, circuits, A, B}

other_bit : (x : Bool) → not x ≡ x → ⊥
other_bit true e = absurd (cc)
other_bit false e = absurd (cc)

pub no_solution : Solvable p.world dropped.items → ⊥
no_solution h =
    let s : SolvedAt p.world dropped.items (λ n. false) = h (λ n. false) tt in
    other_bit (s.b.bits 0) (bits_equal _ _ (simp (tree_values, expr_values) at s.sat.0))

pub dropped_bound : room_with p dropped 0 ≡ 102400
dropped_bound = simp size_values refl

pub first_bound : room_with p (first_branch q) 1 ≡ 1179648
first_bound = simp size_values refl

-- the branch that is dropped has no printed leaf, so from 102400 on it allows no stop
pub dropped_allows_none : BelowRoom p names dropped 16777216 → ⊥
dropped_allows_none (inl h) = let k : 16777216 < 102400 = subst (λ n. 16777216 < n) dropped_bound h in absurd (omega arith)
dropped_allows_none (inr h) = no_solution h.0

abbrev first : List Ground → Ground
first [] = Int (pos 0)
first (g ∷ gs) = g

pub one_leaf : IsShape p.world [] (tree.Leaf X ∷ []) (tree.Leaf X ∷ [])
one_leaf = record {
  only_leaves = simp shape_values refl;
  leaf_order = simp shape_values refl;
  open_order = simp shape_values tt;
  covers = λ a b m. (b, (m.sorted, refl));
  free = λ a b o o' m e sorted. (with_opens o o', (record { admitted = m.admitted; sorted = sorted; sat = tt }, refl));
}

pub solvable : Solvable p.world []
solvable a ok = record { b = with_bits (λ n. false); sorted = λ n. zero_fits; sat = tt }

-- the first branch has one printed leaf, and one node less than its bound allows a stop
first_allows : BelowRoom p names (first_branch q) 1179647
first_allows = inr (solvable, (tree.Leaf X ∷ [], (one_leaf, below)))
  where
    below : 1179647 < room_with p (first_branch q) (Rattle.std.specs.Prelude.length (Rattle.std.specs.Prelude.flat_map Rattle.cb_model.specs.Answers.leaves (tree.Leaf X ∷ [])))
    below = simp (shape_values, size_values) (lit< tt)

pub says : QuerySays p q names 10 (Only 1179647) (codes "stopped: nodes" ∷ []) true
says = few (Made (first_branch q) ∷ []) 0 _ 0 [] (record { begins = refl; rest = []; goes = here; is = refl }) (omega arith) no_lines
    (record { b = first_branch q; one = (0, lit< tt, refl); too_few = first_allows }) refl

-- ---- numbers of other branches and of a module

pub times_bound : room_with (no_program 1) (first_branch times) 1 ≡ 16777216
times_bound = simp size_values refl

pub name_bound : room_with name_program (resolved name_behind 0 [] (record { pred = 0; sorts = []; head = []; body = [] })) 0 ≡ 12800
name_bound = simp size_values refl

pub name_first_bound : room_with name_program (first_branch name_query) 0 ≡ 8192
name_first_bound = simp size_values refl

-- the clause `p.`
abbrev pub fact : Clause
fact = record { pred = 0; sorts = []; head = []; body = [] }

pub name_tried : SoFar name_program name_query 10 (Made (first_branch name_query) ∷ []) 0 (Try name_behind 0 [] 0 ∷ [])
name_tried = record {
  begins = refl;
  rest = [];
  goes = on (Becomes (Try name_behind 0 [] 0)) (Try name_behind 0 [] 0 ∷ []) [] (inl (tt, refl)) refl refl refl here;
  is = refl;
}

pub may_stop_adding : QuerySays name_program name_query names 10 (Only 12799) (codes "stopped: nodes" ∷ []) true
may_stop_adding =
    few_adding (Made (first_branch name_query) ∷ []) 0 (Try name_behind 0 [] 0) [] 1 [] (resolved name_behind 0 [] fact) [] name_tried (fact, refl, refl) refl no_lines
    (inl (simp size_values (lit< tt))) refl

pub bare_size : branch_size bare_program (with_circuit (record (first_branch bare_query) { goals = [] }) bare (tree.Bus (expr.One ∷ []) None) (tree.Bus [] None)) ≡ 5
bare_size = simp size_values refl

pub verify_bound : room_of circuits (codes "half_adder" ∷ []) (sum_by expr_size (expr.Xor (A ∷ B ∷ []) ∷ expr.And (A ∷ B ∷ []) ∷ [])) ≡ 24576
verify_bound = simp size_values refl
