-- Small facts, most by computation.
use Rattle.std.proofs.Common.{◌≡◌, ℕ, zero, suc, Bool, true, false, ◌||◌, nat_lt, List, [], ◌∷◌, ◌++◌, map, length, refl, sym, ◌∙◌, ap, inl, codes, arith, lit<, pos}
use Rattle.std.specs.Prelude.{sum_by, flat_map, if◌then◌else◌, Some}
use Rattle.std.proofs.lemmas.List.Sums.{sum_by-cons}
use Rattle.std.specs.Fmt.{digits}
use Rattle.cb_model.specs.declared.Sort.TheVariants as sort
use Rattle.cb_model.specs.declared.When.TheVariants as when
use Rattle.cb_model.specs.declared.Expr.TheVariants as expr
use Rattle.cb_model.specs.declared.Tree.{Tree}
use Rattle.cb_model.specs.declared.Tree.TheVariants as tree
use Rattle.cb_model.specs.declared.Tree.TheOpen.{Tree-F}
use Rattle.cb_model.specs.declared.Tree.TheFolds.{fold-roll-Tree}
use Rattle.cb_model.specs.Text.{joined}
use Rattle.cb_model.specs.Bits.{Bits}
use Rattle.cb_model.specs.Values.{Bit, Int, Fits, Valuation, tree_value}
use Rattle.cb_model.specs.Equations.{Meets}
use Rattle.cb_model.specs.Derivation.{WordHolds, Empty, NotEmpty}
use Rattle.cb_model.specs.Answers.{leaves, leaves_step, products_text, product_text}
use Rattle.cb_model.specs.Line.{is_wide, places, places_step}
use Rattle.cb_model.specs.Grammar.{Closed, Or, More, Form, Variable, Open, Not, one}
use Rattle.cb_model.specs.Sorts.{Equation, Body, Marked, at_place, by_form, to_side, left, right, Var}
use Rattle.cb_model.specs.Directives.{nothing}
use Rattle.cb_model.specs.Loading.{query_body}
use Rattle.cb_model.specs.Facts.{bodied, second_spec}
use Rattle.cb_laws.proofs.Values.{expr_values, tree_values}
use Rattle.cb_laws.proofs.Tables.{with_bits, zero_fits, bits_equal}
use Rattle.cb_laws.proofs.Shapes.{size_values}
use Rattle.cb_rows.specs.DetailExamples.{operand_goals, copies, x_is_a, world, letter, literal, places_goals, DetailExamples}

-- ---- delay words

abbrev X : Tree
X = tree.Leaf (expr.Var 0)

meets_a : (a : Bits) → Meets world x_is_a a (with_bits a)
meets_a a = record { admitted = tt; sorted = λ n. zero_fits; sat = (simp (tree_values, expr_values) refl, tt) }

const_value : (a : Bits) (b : Valuation) → tree_value a b (tree.Leaf (expr.Const 0)) ≡ Bit (a 0)
const_value a b = simp (tree_values, expr_values) refl

known_a : WordHolds world x_is_a when.Known X
known_a a b b' m m' = m.sat.0 ∙ const_value a b ∙ sym (m'.sat.0 ∙ const_value a b')

not_const_a : WordHolds world x_is_a when.Fixed X → ⊥
not_const_a h =
    let zero : Bit false ≡ h.0 = simp (tree_values, expr_values) at (h.1 (λ n. false) (with_bits (λ n. false)) (meets_a (λ n. false))) in
    let one : Bit true ≡ h.0 = simp (tree_values, expr_values) at (h.1 (λ n. true) (with_bits (λ n. true)) (meets_a (λ n. true))) in
    let same : false ≡ true = bits_equal false true (zero ∙ sym one) in
    cc

abbrev with_word : List Bool → Valuation
with_word xs = record { bits = λ n. false; words = λ n. xs; terms = λ n. Int (pos 0) }

meets_none : (b : Valuation) → ((n : ℕ) → Fits [] sort.Term (b.terms n)) → Meets world [] (λ n. false) b
meets_none b s = record { admitted = tt; sorted = s; sat = tt }

list_form : WordHolds world [] when.Nonvar (tree.Bus (expr.Var 0 ∷ []) (Some 0))
list_form = (NotEmpty, λ a b m. simp (tree_values, expr_values) refl)

open_form : WordHolds world [] when.Nonvar (tree.Bus [] (Some 0)) → ⊥
open_form h =
    let empty : Empty ≡ h.0 = simp (tree_values, expr_values) at (h.1 (λ n. false) (with_word []) (meets_none (with_word []) (λ n. zero_fits))) in
    let full : NotEmpty ≡ h.0 = simp (tree_values, expr_values) at (h.1 (λ n. false) (with_word (true ∷ [])) (meets_none (with_word (true ∷ [])) (λ n. zero_fits))) in
    let same : Empty ≡ NotEmpty = empty ∙ sym full in
    cc

-- ---- long lists

pub count : {T : Type 0} (n : ℕ) (x : T) → length (copies n x) ≡ n
count zero x = refl
count (suc n) x = ap suc (count n x)

large_text : products_text letter (literal ∷ copies 65536 literal) ≡ codes "(large)"
large_text = ap (λ k. if nat_lt 65536 (suc k) then codes "(large)" else joined (codes " + ") (map (product_text letter) (literal ∷ copies 65536 literal))) (count 65536 literal)

leaves_int : leaves (tree.Int (pos 0)) ≡ []
leaves_int = ap leaves (sym (tree.rolls-Int (pos 0))) ∙ fold-roll-Tree (List ℕ) leaves_step (Tree-F.Int (pos 0))

places_int : places (tree.Int (pos 0)) ≡ 1
places_int = ap places (sym (tree.rolls-Int (pos 0))) ∙ fold-roll-Tree ℕ places_step (Tree-F.Int (pos 0))

no_leaves : (n : ℕ) → flat_map leaves (copies n (tree.Int (pos 0))) ≡ []
no_leaves zero = refl
no_leaves (suc n) = ap (λ l. l ++ flat_map leaves (copies n (tree.Int (pos 0)))) leaves_int ∙ no_leaves n

place_count : (n : ℕ) → sum_by places (copies n (tree.Int (pos 0))) ≡ n
place_count zero = refl
place_count (suc n) = omega (arith, sum_by-cons places (tree.Int (pos 0)) (copies n (tree.Int (pos 0))), places_int, place_count n)

wide_at : (n : ℕ) → is_wide (copies n (tree.Int (pos 0))) ≡ nat_lt 65536 n
wide_at n =
    ap (λ l. nat_lt 4096 (length l) || nat_lt 65536 (sum_by places (copies n (tree.Int (pos 0))))) (no_leaves n) ∙ ap (λ k. nat_lt 65536 k) (place_count n)

-- ---- sorts

abbrev b : Body
b = query_body places_goals

abbrev tailed : Form
tailed = Open (one (Not (Variable (codes "Y")))) (Variable (codes "T"))

x_bus : Marked nothing b (Var (codes "X")) sort.Bus
x_bus = to_side 0 (left tailed refl) (by_form tailed (right (Variable (codes "X")) refl) refl)

-- the marks of Z are those of its place alone
z_term : Marked nothing b (Var (codes "Z")) sort.Term
z_term = at_place (3, lit< tt, refl)

abbrev d : Body
d = query_body operand_goals

l_bus : Marked nothing d (Var (codes "L")) sort.Bus
l_bus = to_side 0 (left (Closed (one (Variable (codes "E")))) refl) (by_form (Closed (one (Variable (codes "E")))) (right (Variable (codes "L")) refl) refl)

x_bool : Marked nothing d (Equation 1) sort.Bool
x_bool = by_form (Or (More (Variable (codes "A")) (one (Variable (codes "B"))))) (right (Variable (codes "X")) refl) refl

pub rows_hold : DetailExamples
unfolding digits
rows_hold = record {
  first_of = refl;
  next_of = refl;
  last_of = refl;
  body_first = refl;
  step_counts = refl;
  resolutions_left = refl;
  resolutions_passed = refl;
  variables_left = refl;
  variables_passed = refl;
  equations_left = refl;
  equations_passed = refl;
  is_known = known_a;
  not_const = not_const_a;
  has_form = list_form;
  no_form = open_form;
  stretch = refl;
  large = large_text;
  two_products = refl;
  no_variables = refl;
  open_bus = refl;
  open_list = refl;
  closed_list = refl;
  quoted = refl;
  plain = refl;
  shown = refl;
  wide_places = wide_at 65537;
  not_wide_places = wide_at 65536;
  waiting_size = simp size_values refl;
  widest_module = refl;
  written = refl;
  no_body = refl;
  short_chain = refl;
  no_element = refl;
  own_variable = refl;
  small_variable = refl;
  no_goal = refl;
  parts = refl;
  reserved = refl;
  strange_word = refl;
  lone_delay = refl;
  lone_sorts = refl;
  delayed_demon = refl;
  constant_twice = refl;
  last_constant = refl;
  too_many_constants = refl;
  operand_sort = inl (at_place (1, lit< tt, refl));
  element_sort = inl (at_place (0, lit< tt, refl));
  chain_sort = inl (at_place (2, lit< tt, refl));
  inner_sort = inl (at_place (5, lit< tt, refl));
  closed_sort = inl l_bus;
  operator_sort = inl x_bool;
  tail_sort = inl (at_place (2, lit< tt, refl));
  list_sort = inl x_bus;
  argument_sort = inl z_term;
  pin_sort = inl (at_place (1, lit< tt, refl));
  apart_names = refl;
  known_module = refl;
  unknown_module = refl;
  fact_goal = refl;
  taken_head = refl;
  fact_with_body = bodied refl;
  second_spec = second_spec _ refl refl refl;
  driven_twice = refl;
  compound_tree = refl;
  joined_list = refl;
  one_bit = refl;
  one_integer = refl;
  stop_lines = refl;
  token_refusals = refl;
  reading_refusals = refl;
  sort_refusals = refl;
  fact_refusals = refl;
  refusal_numbers = refl;
}
