-- Files: what their rows rest on.
use Rattle.std.proofs.Common.{◌≡◌, ℕ, zero, suc, Bool, true, false, List, [], ◌∷◌, refl, sym, ◌∙◌, ap, subst, inl, inr, arith, lit<, codes}
use Rattle.std.specs.Prelude.{Option, Some, None, slice_get, Contains, bytes_eq}
use Rattle.std.specs.Fmt.{digits}
use Rattle.cb_model.specs.declared.Sort.{Sort}
use Rattle.cb_model.specs.declared.Sort.TheVariants as sort
use Rattle.cb_model.specs.Text.{Text}
use Rattle.cb_model.specs.Grammar.{Form, Variable, Name, one, FormGoal, AnEqual}
use Rattle.cb_model.specs.Sorts.{Body, Marked, at_place, by_form, from_side, to_side, IsSide, left, right, Subject, Var, Equation, Clash, two_marks, wrong_place, wrong_side, bit_at_bus, bit_of_bus, all_places, form_sort, IsBit}
use Rattle.cb_model.specs.Loading.{body_of, query_body}
use Rattle.cb_model.specs.Circuits.{Module, Instance}
use Rattle.cb_model.specs.Facts.{Feeds, Leads, feeds, leads_on, HasCycle}
use Rattle.cb_rows.specs.FileExamples.{atom, var, p_bool, chain_goals, clash_goals, ring, row, FileExamples}

-- ---- the chain of equations

abbrev b : Body
b = query_body chain_goals

first_side : IsSide b 0 (Variable (codes "X"))
first_side = left (Variable (codes "Y")) refl

z_marked : Marked p_bool b (Var (codes "Z")) sort.Bool
z_marked = at_place (0, lit< tt, refl)

second_marked : Marked p_bool b (Equation 1) sort.Bool
second_marked = from_side (codes "Z") (right (Variable (codes "Y")) refl) z_marked

y_marked : Marked p_bool b (Var (codes "Y")) sort.Bool
y_marked = to_side 1 (left (Variable (codes "Z")) refl) second_marked

first_marked : Marked p_bool b (Equation 0) sort.Bool
first_marked = from_side (codes "Y") (right (Variable (codes "X")) refl) y_marked

x_marked : Marked p_bool b (Var (codes "X")) sort.Bool
x_marked = to_side 0 first_side first_marked

-- each side of the chain is a variable
abbrev is_var : Form → Bool
is_var (Variable x) = true
is_var _ = false

abbrev left_of : Option FormGoal → Form
left_of (Some (AnEqual f g)) = f
left_of _ = Variable []

abbrev right_of : Option FormGoal → Form
right_of (Some (AnEqual f g)) = g
right_of _ = Variable []

left_var : (k : ℕ) → is_var (left_of (slice_get b.goals k)) ≡ true
left_var zero = refl
left_var (suc zero) = refl
left_var (suc (suc zero)) = refl
left_var (suc (suc (suc k))) = refl

right_var : (k : ℕ) → is_var (right_of (slice_get b.goals k)) ≡ true
right_var zero = refl
right_var (suc zero) = refl
right_var (suc (suc zero)) = refl
right_var (suc (suc (suc k))) = refl

side_var : (k : ℕ) (f : Form) → IsSide b k f → is_var f ≡ true
side_var k f (left g e) = ap (λ o. is_var (left_of o)) (sym e) ∙ left_var k
side_var k f (right g e) = ap (λ o. is_var (right_of o)) (sym e) ∙ right_var k

no_form : (f : Form) → is_var f ≡ true → form_sort [] f ≡ None
no_form (Variable x) h = refl
no_form _ h = absurd (cc)

no_bit : (f : Form) → is_var f ≡ true → IsBit f → ⊥
no_bit f h (inl e) = let k = ap is_var e in cc
no_bit f h (inr e) = let k = ap is_var e in cc

-- the only place is Boolean
place_bool : (s : Sort) (f : Form) → Contains (all_places p_bool b) (s, f) → (s ≡ sort.Bool) × (f ≡ Variable (codes "Z"))
place_bool s f (zero, l, h) = (sym (ap (λ x. x.0) h), sym (ap (λ x. x.1) h))
place_bool s f (suc k, l, h) = absurd (omega arith)

all_bool : (x : Subject) (s : Sort) → Marked p_bool b x s → s ≡ sort.Bool
all_bool _ s (at_place {x = x} c) = (place_bool s (Variable x) c).0
all_bool _ s (by_form {k = k} f i e) = let n = no_form f (side_var k f i) in absurd (cc)
all_bool _ s (from_side x i m) = all_bool (Var x) s m
all_bool _ s (to_side k i m) = all_bool (Equation k) s m

no_clash : Clash p_bool b → ⊥
no_clash (two_marks x s t m n d) = d (all_bool x s m ∙ sym (all_bool x t n))
no_clash (wrong_place f s t c e d) = let h : form_sort [] f ≡ None = ap (form_sort []) (place_bool s f c).1 in cc
no_clash (wrong_side k f s t i h e d) = let n = no_form f (side_var k f i) in cc
no_clash (bit_at_bus f c i) = let h = (place_bool sort.Bus f c).0 in cc
no_clash (bit_of_bus k f s i h) = no_bit f (side_var k f s) i

-- ---- a clash: X has the sort of its place, and the equation the sort of the name at its other side

abbrev c : Body
c = body_of (Name (codes "p") (one (var (codes "X")))) clash_goals

x_bool : Marked p_bool c (Var (codes "X")) sort.Bool
x_bool = at_place (0, lit< tt, refl)

x_term : Marked p_bool c (Var (codes "X")) sort.Term
x_term = to_side 0 (left (atom (codes "f")) refl) (by_form (atom (codes "f")) (right (Variable (codes "X")) refl) refl)

clashes : Clash p_bool c
clashes = two_marks (Var (codes "X")) sort.Bool sort.Term x_bool x_term (λ e. cc)

-- ---- cycles

abbrev pub outs_of : Option Instance → List Text
outs_of (Some i) = i.outs
outs_of None = []

abbrev pub ins_of : Option Instance → List Text
ins_of (Some i) = i.ins
ins_of None = []

pub feeds_net : (m : Module) (i j : ℕ) (f : Feeds m i j) → Contains (outs_of (slice_get m.instances i)) f.net × Contains (ins_of (slice_get m.instances j)) f.net
feeds_net m i j f = (subst (λ o. Contains (outs_of o) f.net) (sym f.from_is) f.given, subst (λ o. Contains (ins_of o) f.net) (sym f.to_is) f.taken)

pub only_net : (x y : Text) → Contains (x ∷ []) y → x ≡ y
only_net x y (zero, l, h) = h
only_net x y (suc k, l, h) = absurd (omega arith)

pub no_net : (y : Text) → Contains [] y → ⊥
no_net y (k, l, h) = absurd (omega arith)

-- only the second gate of the row feeds the first
row_feeds : (i j : ℕ) → Feeds row i j → (i ≡ 1) × (j ≡ 0)
row_feeds i j f = go i j f.net (feeds_net row i j f).0 (feeds_net row i j f).1
  where
    go : (i j : ℕ) (x : Text) → Contains (outs_of (slice_get row.instances i)) x → Contains (ins_of (slice_get row.instances j)) x → (i ≡ 1) × (j ≡ 0)
    go (suc zero) zero x g t = (refl, refl)
    go zero zero x g t = let e : true ≡ false = ap (bytes_eq (codes "Y")) (only_net _ _ g ∙ sym (only_net _ _ t)) in absurd (cc)
    go zero (suc zero) x g t = let e : true ≡ false = ap (bytes_eq (codes "Y")) (only_net _ _ g ∙ sym (only_net _ _ t)) in absurd (cc)
    go (suc zero) (suc zero) x g t = let e : true ≡ false = ap (bytes_eq (codes "X")) (only_net _ _ g ∙ sym (only_net _ _ t)) in absurd (cc)
    go zero (suc (suc j)) x g t = absurd (no_net x t)
    go (suc zero) (suc (suc j)) x g t = absurd (no_net x t)
    go (suc (suc i)) j x g t = absurd (no_net x g)

row_leads : (i k : ℕ) → Leads row i k → (i ≡ 1) × (k ≡ 0)
row_leads i k (feeds f) = row_feeds i k f
row_leads i k (leads_on j f l) = ((row_feeds i j f).0, (row_leads j k l).1)

row_no_cycle : HasCycle row → ⊥
row_no_cycle (i, l) = let e = row_leads i i l in absurd (omega arith)

there : Feeds ring 0 1
there = record { from = _; to = _; net = codes "Y"; from_is = refl; to_is = refl; given = (0, lit< tt, refl); taken = (0, lit< tt, refl) }

back : Feeds ring 1 0
back = record { from = _; to = _; net = codes "X"; from_is = refl; to_is = refl; given = (0, lit< tt, refl); taken = (0, lit< tt, refl) }

ring_cycle : HasCycle ring
ring_cycle = (0, leads_on 1 there (feeds back))

pub rows_hold : FileExamples
unfolding digits
rows_hold = record {
  verify_words = refl;
  make_words = refl;
  too_many_bits = refl;
  no_resolutions = refl;
  leading_zeros = refl;
  max_resolutions = refl;
  usage_line = refl;
  sorts_twice = refl;
  sorts_twice_line = refl;
  nonvar_at_bool = refl;
  delays_unknown = refl;
  declared = refl;
  constant_at_term = inl (wrong_place (atom (codes "a")) sort.Term sort.Bool (0, lit< tt, refl) refl (λ e. cc), refl);
  chain_start = inl x_marked;
  chain_equation = inl first_marked;
  chain_accepted = inr (no_clash, refl);
  name_clashes = inl (clashes, refl);
  unknown_goal = refl;
  undriven = refl;
  pins_of_gate = refl;
  unknown_part = refl;
  inputs_twice = refl;
  strange_in_spec = refl;
  gate_name = refl;
  cycle = inl (ring_cycle, refl);
  no_cycle = inr (row_no_cycle, refl);
}
