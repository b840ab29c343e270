-- From what a walk knows to the least marking.
use Rattle.std.proofs.Common.{◌≡◌, ◌≢◌, ℕ, zero, suc, ◌+◌, ◌-◌, ◌<◌, Bool, true, false, not, ◌||◌, cond, List, [], ◌∷◌, ◌++◌, length, get_or, slice_get, Option, Some, None, nat_lt, refl, sym, ◌∙◌, ap, subst, arith, inl, inr, bytes_eq, pos, negsuc, length-append}
use Rattle.std.specs.Prelude.{◌⊎◌, Contains}
use Rattle.std.specs.Bool.{if◌then◌else◌}
use Rattle.std.specs.List.{list_any, position_or_len}
use Rattle.std.proofs.lemmas.List.{get_or_append_left, get_or-append-add}
use Rattle.std.proofs.lemmas.List.Elements.{Contains-append_left, Contains-append_right, Contains-append_cases}
use Rattle.std.proofs.lemmas.Bool.{false≢true, lt-ltb, le-ltb}
use Rattle.std.proofs.lemmas.Slice.Eq.{bytes_eq-Decides}
use Rattle.cb_model.specs.Text.{Text}
use Rattle.cb_model.specs.declared.Sort.{Sort}
use Rattle.cb_model.specs.declared.Sort.TheVariants as sort
use Rattle.cb_model.specs.Grammar.{Form, Variable, Integer, Name, Closed, Open, Not, And, Xor, Or, FormGoal, ACall, AnEqual}
use Rattle.cb_model.specs.Directives.{Declared}
use Rattle.cb_model.specs.Sorts.{Place, Body, Subject, Var, Equation, IsSide, left, right, Marked, at_place, by_form, from_side, to_side, HasSort as HasTheSort, IsBit, Clash, two_marks, wrong_place, wrong_side, bit_at_bus, bit_of_bus, form_sort, number_in, head_places, goals_places, goal_places, all_places}
use Rattle.cb_model.specs.Loading.{body_variables, HaveSorts, no_sorts, more_sorts}
use Rattle.cb_marking.specs.Marks.{HasSort, given, along, back, HasOneSort}
use Rattle.cb_marking.specs.declared.links.Stop.{Stop}
use Rattle.cb_marking.specs.declared.links.Stop.TheVariants as stop
use Rattle.cb_marking.specs.declared.walk.Walk.{Walk}
use Rattle.cb_marking.specs.Places.{is_bit, sort_fits, place_fits}
use Rattle.cb_marking.specs.Walk.{thing_of, all_fit}
use Rattle.cb_marking.specs.Marking.{Sorted, IsMarking, Refuses}
use Rattle.cb_marking.specs.Kept.{IsKept, Decides, Undecided}
use Rattle.cb_marking.proofs.SameSort.{same_sorts, other_sorts}
use Rattle.cb_marking.proofs.Follows.{IsDistinct, any_within, at_first, numbered, all_there, there_within}
use Rattle.cb_marking.proofs.Sides.{goal_given, goal_edges, goal_bits, goal_met, each}
use Rattle.cb_marking.proofs.Members.{numbered_has, numbered_whole, there_at, fits_at, misfit_at, each_has, each_whole, places_each, HasSide, goal_has, goal_place, goal_form_given, goal_edge, goal_linked, place_met, side_is_met, goal_bit, goal_bit_noted}

-- what a walk over a body knows
pub record Known (d : Declared) (b : Body) (w : Walk) : Type 0 where
  pub goals : w.goals ≡ length b.goals
  pub variables : w.variables ≡ body_variables b
  pub given : w.links.given ≡ numbered w.goals w.variables (head_places d b.head) ++ each (goal_given d w.goals w.variables) 0 b.goals
  pub edges : w.links.edges ≡ each (goal_edges w.goals w.variables) 0 b.goals
  pub bits : w.bits ≡ each goal_bits 0 b.goals
  pub head_there : all_there w.variables (head_places d b.head) ≡ true
  pub goals_there : all_there w.variables (each (goal_met d) 0 b.goals) ≡ true
  pub distinct : IsDistinct w.variables

-- ---- sides by number

pub side_of : (b : Body) (k : ℕ) (g : FormGoal) (f : Form) → slice_get b.goals k ≡ Some g → HasSide g f → IsSide b k f
side_of b k (ACall h) f e w = absurd w
side_of b k (AnEqual l r) f e (inl w) = left r (e ∙ ap (λ (h : Form). Some (AnEqual h r)) w)
side_of b k (AnEqual l r) f e (inr w) = right l (e ∙ ap (λ (h : Form). Some (AnEqual l h)) w)

pub goal_of : (b : Body) (k : ℕ) (f : Form) → IsSide b k f → (g : FormGoal) × (slice_get b.goals k ≡ Some g) × HasSide g f
goal_of b k f (left g e) = (AnEqual f g, e, inl refl)
goal_of b k f (right g e) = (AnEqual g f, e, inr refl)

slice_within : {A : Type 0} (xs : List A) (k : ℕ) (x : A) → slice_get xs k ≡ Some x → k < length xs
slice_within [] zero x e = absurd (cc)
slice_within [] (suc k) x e = absurd (cc)
slice_within (y ∷ ys) zero x e = omega arith
slice_within (y ∷ ys) (suc k) x e = let r = slice_within ys k x e in omega arith

-- ---- the name under a number

found_at : (t : Text → Bool) (xs : List Text) → list_any t xs ≡ true → t (get_or xs (position_or_len t xs) []) ≡ true
found_at t [] h = absurd (cc)
found_at t (x ∷ xs) h = step (t x) refl h (found_at t xs)
  where
    step : (b : Bool) → t x ≡ b → (b || list_any t xs) ≡ true → (list_any t xs ≡ true → t (get_or xs (position_or_len t xs) []) ≡ true) → t (get_or (x ∷ xs) (cond (not b) (1 + position_or_len t xs) 0) []) ≡ true
    step true e h r = e
    step false e h r = let n : 1 + position_or_len t xs ≡ suc (position_or_len t xs) = omega arith in ap (λ m. t (get_or (x ∷ xs) m [])) n ∙ r h

name_under : (xs : List Text) (x : Text) → list_any (bytes_eq x) xs ≡ true → get_or xs (number_in xs x) [] ≡ x
name_under xs x h =
    ap (λ n. get_or xs n []) (at_first (bytes_eq x) xs h) ∙ sym ((bytes_eq-Decides x (get_or xs (position_or_len (bytes_eq x) xs) [])).0 (found_at (bytes_eq x) xs h))

number_within : (xs : List Text) (x : Text) → list_any (bytes_eq x) xs ≡ true → number_in xs x < length xs
number_within xs x h = let e : number_in xs x ≡ position_or_len (bytes_eq x) xs = at_first (bytes_eq x) xs h in let l = any_within (bytes_eq x) xs h in omega arith

-- ---- forms 0 and 1

bit_is : (f : Form) → IsBit f → is_bit f ≡ true
bit_is f (inl e) = ap is_bit e
bit_is f (inr e) = ap is_bit e

is_bit_of : (f : Form) → is_bit f ≡ true → IsBit f
is_bit_of (Integer (pos zero)) h = inl refl
is_bit_of (Integer (pos (suc zero))) h = inr refl
is_bit_of (Integer (pos (suc (suc n)))) h = absurd (false≢true h)
is_bit_of (Integer (negsuc n)) h = absurd (false≢true h)
is_bit_of (Variable x) h = absurd (false≢true h)
is_bit_of (Name n fs) h = absurd (false≢true h)
is_bit_of (Closed fs) h = absurd (false≢true h)
is_bit_of (Open fs f) h = absurd (false≢true h)
is_bit_of (Not f) h = absurd (false≢true h)
is_bit_of (And fs) h = absurd (false≢true h)
is_bit_of (Xor fs) h = absurd (false≢true h)
is_bit_of (Or fs) h = absurd (false≢true h)

-- ---- places that don't fit

fits_none : (s : Sort) (bit : Bool) → sort_fits s None bit ≡ false → (s ≡ sort.Bus) × (bit ≡ true)
fits_none sort.Bus true h = (refl, refl)
fits_none sort.Bus false h = absurd (false≢true (sym h))
fits_none sort.Bool bit h = absurd (false≢true (sym h))
fits_none sort.Term bit h = absurd (false≢true (sym h))

pub misfit_clashes : (d : Declared) (b : Body) → all_fit d (all_places d b) ≡ false → Clash d b
misfit_clashes d b h = step w.0 w.1 (form_sort d.constants w.0.1) refl w.2
  where
    w : (p : Place) × Contains (all_places d b) p × (place_fits d p ≡ false)
    w = misfit_at d (all_places d b) h

    step : (p : Place) → Contains (all_places d b) p → (o : Option Sort) → form_sort d.constants p.1 ≡ o → sort_fits p.0 (form_sort d.constants p.1) (is_bit p.1) ≡ false → Clash d b
    step p c (Some t) e k = wrong_place p.1 p.0 t c e (other_sorts t p.0 (sym (ap (λ (o : Option Sort). sort_fits p.0 o (is_bit p.1)) e) ∙ k))
    step p c None e k =
        let n = fits_none p.0 (is_bit p.1) (sym (ap (λ (o : Option Sort). sort_fits p.0 o (is_bit p.1)) e) ∙ k) in
        bit_at_bus p.1 (subst (λ (s : Sort). Contains (all_places d b) (s, p.1)) n.0 c) (is_bit_of p.1 n.1)

module _ (d : Declared) (b : Body) (w : Walk) (K : Known d b w) where
  -- ---- what the lists contain

  goal_place_at : (p : Place) → Contains (goals_places d b.goals) p → (i : ℕ) × (g : FormGoal) × (slice_get b.goals i ≡ Some g) × Contains (goal_places d g) p
  goal_place_at p c = each_has (λ _ g. goal_places d g) 0 b.goals p (subst (λ (l : List Place). Contains l p) (places_each d 0 b.goals) c)

  at_goal : {A : Type 0} (F : ℕ → FormGoal → List A) (a : A) (i : ℕ) (g : FormGoal) → slice_get b.goals i ≡ Some g → Contains (F i g) a → Contains (each F 0 b.goals) a
  at_goal F a i g e c = let n : i ≡ 0 + i = omega arith in each_whole F 0 b.goals a i g e (subst (λ m. Contains (F m g) a) n c)

  place_known : (s : Sort) (x : Text) → Contains (all_places d b) (s, Variable x) → Contains w.links.given (thing_of w.goals w.variables x, s)
  place_known s x c = subst (λ (l : List (ℕ × Sort)). Contains l (thing_of w.goals w.variables x, s)) (sym K.given) (step (Contains-append_cases (head_places d b.head) (goals_places d b.goals) (s, Variable x) c))
    where
      step : Contains (head_places d b.head) (s, Variable x) ⊎ Contains (goals_places d b.goals) (s, Variable x) →
          Contains (numbered w.goals w.variables (head_places d b.head) ++ each (goal_given d w.goals w.variables) 0 b.goals) (thing_of w.goals w.variables x, s)
      step (inl k) = Contains-append_left (numbered w.goals w.variables (head_places d b.head)) (each (goal_given d w.goals w.variables) 0 b.goals) (thing_of w.goals w.variables x, s) (numbered_whole w.goals w.variables (head_places d b.head) s x k)
      step (inr k) =
          let g = goal_place_at (s, Variable x) k in
          Contains-append_right (numbered w.goals w.variables (head_places d b.head)) (each (goal_given d w.goals w.variables) 0 b.goals) (thing_of w.goals w.variables x, s)
          (at_goal (goal_given d w.goals w.variables) (thing_of w.goals w.variables x, s) g.0 g.1 g.2 (goal_place d w.goals w.variables g.0 g.1 s x g.3))

  form_known : (k : ℕ) (f : Form) (s : Sort) → IsSide b k f → form_sort d.constants f ≡ Some s → Contains w.links.given (k, s)
  form_known k f s i e =
      let g = goal_of b k f i in
      subst (λ (l : List (ℕ × Sort)). Contains l (k, s)) (sym K.given)
      (Contains-append_right (numbered w.goals w.variables (head_places d b.head)) (each (goal_given d w.goals w.variables) 0 b.goals) (k, s)
      (at_goal (goal_given d w.goals w.variables) (k, s) k g.0 g.1 (goal_form_given d w.goals w.variables k g.0 f s g.2 e)))

  edge_known : (k : ℕ) (x : Text) → IsSide b k (Variable x) → Contains w.links.edges (k, thing_of w.goals w.variables x)
  edge_known k x i =
      let g = goal_of b k (Variable x) i in
      subst (λ (l : List (ℕ × ℕ)). Contains l (k, thing_of w.goals w.variables x)) (sym K.edges)
      (at_goal (goal_edges w.goals w.variables) (k, thing_of w.goals w.variables x) k g.0 g.1 (goal_linked d w.goals w.variables k g.0 x g.2))

  bit_known : (k : ℕ) (f : Form) → IsSide b k f → is_bit f ≡ true → Contains w.bits k
  bit_known k f i e = let g = goal_of b k f i in subst (λ (l : List ℕ). Contains l k) (sym K.bits) (at_goal goal_bits k k g.0 g.1 (goal_bit_noted k g.0 f g.2 e))

  abbrev FromAll : ℕ → Sort → Type 0
  FromAll t s = ((x : Text) × Contains (all_places d b) (s, Variable x) × (t ≡ thing_of w.goals w.variables x)) ⊎ ((f : Form) × IsSide b t f × (form_sort d.constants f ≡ Some s))

  given_from : (t : ℕ) (s : Sort) → Contains w.links.given (t, s) → FromAll t s
  given_from t s c = step (Contains-append_cases (numbered w.goals w.variables (head_places d b.head)) (each (goal_given d w.goals w.variables) 0 b.goals) (t, s) (subst (λ (l : List (ℕ × Sort)). Contains l (t, s)) K.given c))
    where
      goal_from : (i : ℕ) (g : FormGoal) → slice_get b.goals i ≡ Some g →
          ((x : Text) × Contains (goal_places d g) (s, Variable x) × (t ≡ thing_of w.goals w.variables x)) ⊎ ((f : Form) × HasSide g f × ((t ≡ i) × (form_sort d.constants f ≡ Some s))) →
          ((x : Text) × Contains (all_places d b) (s, Variable x) × (t ≡ thing_of w.goals w.variables x)) ⊎ ((f : Form) × IsSide b t f × (form_sort d.constants f ≡ Some s))
      goal_from i g e (inl r) =
          inl (
            r.0,
            Contains-append_right (head_places d b.head) (goals_places d b.goals) (s, Variable r.0)
                (subst (λ (l : List Place). Contains l (s, Variable r.0)) (sym (places_each d 0 b.goals)) (at_goal (λ _ h. goal_places d h) (s, Variable r.0) i g e r.1)),
            r.2,
          )
      goal_from i g e (inr r) = inr (r.0, subst (λ n. IsSide b n r.0) (sym r.2.0) (side_of b i g r.0 e r.1), r.2.1)

      step : Contains (numbered w.goals w.variables (head_places d b.head)) (t, s) ⊎ Contains (each (goal_given d w.goals w.variables) 0 b.goals) (t, s) →
          ((x : Text) × Contains (all_places d b) (s, Variable x) × (t ≡ thing_of w.goals w.variables x)) ⊎ ((f : Form) × IsSide b t f × (form_sort d.constants f ≡ Some s))
      step (inl k) = let r = numbered_has w.goals w.variables (head_places d b.head) t s k in inl (r.0, Contains-append_left (head_places d b.head) (goals_places d b.goals) (s, Variable r.0) r.1, r.2)
      step (inr k) =
          let g = each_has (goal_given d w.goals w.variables) 0 b.goals (t, s) k in
          let n : 0 + g.0 ≡ g.0 = omega arith in
          goal_from g.0 g.1 g.2 (goal_has d w.goals w.variables g.0 g.1 t s (subst (λ m. Contains (goal_given d w.goals w.variables m g.1) (t, s)) n g.3))

  edge_from : (t u : ℕ) → Contains w.links.edges (t, u) → (x : Text) × IsSide b t (Variable x) × (u ≡ thing_of w.goals w.variables x)
  edge_from t u c =
      let g = each_has (goal_edges w.goals w.variables) 0 b.goals (t, u) (subst (λ (l : List (ℕ × ℕ)). Contains l (t, u)) K.edges c) in
      let r = goal_edge d w.goals w.variables (0 + g.0) g.1 t u g.3 in
      let n : t ≡ g.0 = r.2 ∙ omega arith in
      (r.0, subst (λ m. IsSide b m (Variable r.0)) (sym n) (side_of b g.0 g.1 (Variable r.0) g.2 r.1), r.3)

  bit_from : (k : ℕ) → Contains w.bits k → (f : Form) × IsSide b k f × (is_bit f ≡ true)
  bit_from k c =
      let g = each_has goal_bits 0 b.goals k (subst (λ (l : List ℕ). Contains l k) K.bits c) in
      let r = goal_bit (0 + g.0) g.1 k g.3 in
      let n : k ≡ g.0 = r.3 ∙ omega arith in
      (r.0, subst (λ m. IsSide b m r.0) (sym n) (side_of b g.0 g.1 r.0 g.2 r.1), r.2)

  place_there : (s : Sort) (x : Text) → Contains (all_places d b) (s, Variable x) → list_any (bytes_eq x) w.variables ≡ true
  place_there s x c = step (Contains-append_cases (head_places d b.head) (goals_places d b.goals) (s, Variable x) c)
    where
      step : Contains (head_places d b.head) (s, Variable x) ⊎ Contains (goals_places d b.goals) (s, Variable x) → list_any (bytes_eq x) w.variables ≡ true
      step (inl k) = there_at w.variables (head_places d b.head) s x K.head_there k
      step (inr k) =
          let g = goal_place_at (s, Variable x) k in
          there_at w.variables (each (goal_met d) 0 b.goals) s x K.goals_there (at_goal (goal_met d) (s, Variable x) g.0 g.1 g.2 (place_met d w.goals w.variables g.0 g.1 (s, Variable x) g.3))

  side_there : (k : ℕ) (x : Text) → IsSide b k (Variable x) → list_any (bytes_eq x) w.variables ≡ true
  side_there k x i =
      let g = goal_of b k (Variable x) i in
      there_at w.variables (each (goal_met d) 0 b.goals) sort.Bool x K.goals_there (at_goal {A = Place} (goal_met d) (sort.Bool, Variable x) k g.0 g.1 (side_is_met d w.goals w.variables k g.0 x g.2))

  side_within : (k : ℕ) (f : Form) → IsSide b k f → k < w.goals
  side_within k f i = let g = goal_of b k f i in let l = slice_within b.goals k g.0 g.1 in omega (arith, l, K.goals)

  -- ---- all is among the things

  pub kept : IsKept w
  kept = record {
    links = record {
      edges = λ x y c.
          let e = edge_from x y c in
          let n = number_within w.variables e.0 (side_there x e.0 e.1) in
          let l = side_within x (Variable e.0) e.1 in
          (omega (arith, l), omega (arith, n, e.2));
      given = λ x s c. within x s (given_from x s c);
    };
    bits = λ k c. let e = bit_from k c in side_within k e.0 e.1;
  }
    where
      within : (x : ℕ) (s : Sort) → FromAll x s → x < w.goals + length w.variables
      within x s (inl e) = let n = number_within w.variables e.0 (place_there s e.0 e.1) in omega (arith, n, e.2)
      within x s (inr e) = let l = side_within x e.0 e.1 in omega (arith, l)

  has_within : {x : ℕ} {s : Sort} → HasSort w.links x s → x < w.goals + length w.variables
  has_within {x} {s} (given c) = kept.links.given x s c
  has_within {x} (along y e h) = (kept.links.edges y x e).1
  has_within {x} (back y e h) = (kept.links.edges x y e).0

  -- ---- the two markings are one

  abbrev thing_at : Subject → ℕ
  thing_at (Var x) = thing_of w.goals w.variables x
  thing_at (Equation k) = k

  pub complete : {X : Subject} {s : Sort} → Marked d b X s → HasSort w.links (thing_at X) s
  complete {X} {s} (at_place {x} c) = given (place_known s x c)
  complete {X} {s} (by_form {k} f i e) = given (form_known k f s i e)
  complete {X} {s} (from_side {k} x i m) = back (thing_of w.goals w.variables x) (edge_known k x i) (complete m)
  complete {X} {s} (to_side {x} k i m) = along k (edge_known k x i) (complete m)

  abbrev subject : ℕ → Subject
  subject t = if nat_lt t w.goals then Equation t else Var (get_or w.variables (t - w.goals) [])

  pub equation_subject : (k : ℕ) → k < w.goals → subject k ≡ Equation k
  equation_subject k l = ap (λ (c : Bool). if c then Equation k else Var (get_or w.variables (k - w.goals) [])) (lt-ltb k w.goals l)

  variable_subject : (x : Text) → list_any (bytes_eq x) w.variables ≡ true → subject (thing_of w.goals w.variables x) ≡ Var x
  variable_subject x h =
      let n = number_in w.variables x in
      let m : w.goals + n - w.goals ≡ n = omega arith in
      ap (λ (c : Bool). if c then Equation (w.goals + n) else Var (get_or w.variables (w.goals + n - w.goals) [])) (le-ltb (w.goals + n) w.goals (omega arith)) ∙ ap (λ i. Var (get_or w.variables i [])) m ∙ ap Var (name_under w.variables x h)

  given_sound : (t : ℕ) (s : Sort) → FromAll t s → Marked d b (subject t) s
  given_sound t s (inl e) = subst (λ (X : Subject). Marked d b X s) (sym (ap subject e.2 ∙ variable_subject e.0 (place_there s e.0 e.1))) (at_place e.1)
  given_sound t s (inr e) = subst (λ (X : Subject). Marked d b X s) (sym (equation_subject t (side_within t e.0 e.1))) (by_form e.0 e.1 e.2)

  pub sound : {t : ℕ} {s : Sort} → HasSort w.links t s → Marked d b (subject t) s
  sound {t} {s} (given c) = given_sound t s (given_from t s c)
  sound {t} {s} (along k e h) =
      let r = edge_from k t e in
      let m : Marked d b (Equation k) s = subst (λ (X : Subject). Marked d b X s) (equation_subject k (side_within k (Variable r.0) r.1)) (sound h) in
      subst (λ (X : Subject). Marked d b X s) (sym (ap subject r.2 ∙ variable_subject r.0 (side_there k r.0 r.1))) (to_side k r.1 m)
  sound {t} {s} (back u e h) =
      let r = edge_from t u e in
      let m : Marked d b (Var r.0) s = subst (λ (X : Subject). Marked d b X s) (ap subject r.2 ∙ variable_subject r.0 (side_there t r.0 r.1)) (sound h) in
      subst (λ (X : Subject). Marked d b X s) (sym (equation_subject t (side_within t (Variable r.0) r.1))) (from_side r.0 r.1 m)

  -- ---- a clash

  pub undecided : (e : Stop) → Undecided w e → Refuses d b e
  undecided stop.Memory h = tt
  undecided stop.Clash (inl h) = two_marks (subject h.0) h.1 h.2 (sound h.3) (sound h.4) h.5
  undecided stop.Clash (inr h) =
      let r = bit_from h.0 h.1 in
      let m : Marked d b (Equation h.0) sort.Bus = subst (λ (X : Subject). Marked d b X sort.Bus) (equation_subject h.0 (side_within h.0 r.0 r.1)) (sound h.2) in
      bit_of_bus h.0 r.0 r.1 (is_bit_of r.0 r.2) (inl m)

  -- ---- no clash

  module _ (m : Sorted) (D : Decides w m) (fits : all_fit d (all_places d b) ≡ true) where
    one_at : (t : ℕ) → t < w.goals + length w.variables → HasOneSort w.links t (get_or (m.goals ++ m.sorts) t sort.Term)
    one_at t l = D.sorts.sorts t l

    goal_sort : (k : ℕ) → k < w.goals → get_or (m.goals ++ m.sorts) k sort.Term ≡ get_or m.goals k sort.Term
    goal_sort k l = get_or_append_left m.goals m.sorts sort.Term k (omega (arith, l, D.goals))

    variable_sort : (i : ℕ) → get_or (m.goals ++ m.sorts) (w.goals + i) sort.Term ≡ get_or m.sorts i sort.Term
    variable_sort i = ap (λ n. get_or (m.goals ++ m.sorts) (n + i) sort.Term) (sym D.goals) ∙ get_or-append-add m.goals m.sorts i sort.Term

    one_only : (X : Subject) (s t : Sort) → Marked d b X s → Marked d b X t → s ≡ t
    one_only X s t a c =
        let h = complete a in
        let o = one_at (thing_at X) (has_within h) in
        o.only s h ∙ sym (o.only t (complete c))

    side_sort : (k : ℕ) (f : Form) (s t : Sort) → IsSide b k f → form_sort d.constants f ≡ Some t → HasTheSort d b (Equation k) s → s ≡ t
    side_sort k f s t i e (inl h) = one_only (Equation k) s t h (by_form f i e)
    side_sort k f s t i e (inr h) = absurd (h.0 t (by_form f i e))

    bus_sort : (k : ℕ) (f : Form) → IsSide b k f → is_bit f ≡ true → HasTheSort d b (Equation k) sort.Bus → ⊥
    bus_sort k f i e (inl h) =
        let l = side_within k f i in
        let o = one_at k (omega (arith, l)) in
        D.bits k (bit_known k f i e) (sym (goal_sort k l) ∙ sym (o.only sort.Bus (complete h)))
    bus_sort k f i e (inr h) = absurd (cc (h.1))

    no_bit : (f : Form) → IsBit f → sort_fits sort.Bus (form_sort d.constants f) (is_bit f) ≡ false
    no_bit f (inl e) = ap (λ (g : Form). sort_fits sort.Bus (form_sort d.constants g) (is_bit g)) e
    no_bit f (inr e) = ap (λ (g : Form). sort_fits sort.Bus (form_sort d.constants g) (is_bit g)) e

    agrees : Clash d b → ⊥
    agrees (two_marks X s t a c n) = n (one_only X s t a c)
    agrees (wrong_place f s t c e n) = n (sym (same_sorts t s (sym (ap (λ (o : Option Sort). sort_fits s o (is_bit f)) e) ∙ fits_at d (all_places d b) (s, f) fits c)))
    agrees (wrong_side k f s t i h e n) = n (side_sort k f s t i e h)
    agrees (bit_at_bus f c i) = false≢true (sym (no_bit f i) ∙ fits_at d (all_places d b) (sort.Bus, f) fits c)
    agrees (bit_of_bus k f i h s) = bus_sort k f i (bit_is f h) s

    equation_at : (k : ℕ) → k < w.goals → HasTheSort d b (Equation k) (get_or m.goals k sort.Term)
    equation_at k l = subst (HasTheSort d b (Equation k)) (goal_sort k l) (step o.known)
      where
        o : HasOneSort w.links k (get_or (m.goals ++ m.sorts) k sort.Term)
        o = one_at k (omega (arith, l))

        step : HasSort w.links k (get_or (m.goals ++ m.sorts) k sort.Term) ⊎ (((t : Sort) → HasSort w.links k t → ⊥) × (get_or (m.goals ++ m.sorts) k sort.Term ≡ sort.Term)) → HasTheSort d b (Equation k) (get_or (m.goals ++ m.sorts) k sort.Term)
        step (inl h) = inl (subst (λ (X : Subject). Marked d b X (get_or (m.goals ++ m.sorts) k sort.Term)) (equation_subject k l) (sound h))
        step (inr h) = inr ((λ t n. h.0 t (complete n)), h.1)

    variable_at : (i : ℕ) → i < length w.variables → HasTheSort d b (Var (get_or w.variables i [])) (get_or m.sorts i sort.Term)
    variable_at i l = subst (HasTheSort d b (Var (get_or w.variables i []))) (variable_sort i) (step o.known)
      where
        o : HasOneSort w.links (w.goals + i) (get_or (m.goals ++ m.sorts) (w.goals + i) sort.Term)
        o = one_at (w.goals + i) (omega (arith, l))

        same : thing_of w.goals w.variables (get_or w.variables i []) ≡ w.goals + i
        same = ap (λ n. w.goals + n) (K.distinct i l)

        named : subject (w.goals + i) ≡ Var (get_or w.variables i [])
        named = ap subject (sym same) ∙ variable_subject (get_or w.variables i []) (there_within w.variables i l)

        step : HasSort w.links (w.goals + i) (get_or (m.goals ++ m.sorts) (w.goals + i) sort.Term) ⊎
            (((t : Sort) → HasSort w.links (w.goals + i) t → ⊥) × (get_or (m.goals ++ m.sorts) (w.goals + i) sort.Term ≡ sort.Term)) → HasTheSort d b (Var (get_or w.variables i [])) (get_or (m.goals ++ m.sorts) (w.goals + i) sort.Term)
        step (inl h) = inl (subst (λ (X : Subject). Marked d b X (get_or (m.goals ++ m.sorts) (w.goals + i) sort.Term)) named (sound h))
        step (inr h) = inr ((λ t n. h.0 t (subst (λ x. HasSort w.links x t) same (complete n))), h.1)

    sorts_len : length m.sorts ≡ length w.variables
    sorts_len = omega (arith, D.sorts.len, D.goals, length-append m.goals m.sorts)

    pub marking : IsMarking d b m
    marking = record {
      agrees = agrees;
      variables = D.variables ∙ K.variables;
      sorts = subst (λ (xs : List Text). HaveSorts d b xs m.sorts) (sym D.variables) (have_sorts w.variables m.sorts sorts_len variable_at);
      goals = D.goals ∙ K.goals;
      equations = λ k l. equation_at k (omega (arith, l, K.goals));
    }
      where
        have_sorts : (xs : List Text) (ss : List Sort) → length ss ≡ length xs → ((i : ℕ) → i < length xs → HasTheSort d b (Var (get_or xs i [])) (get_or ss i sort.Term)) → HaveSorts d b xs ss
        have_sorts [] [] e h = no_sorts
        have_sorts [] (s ∷ ss) e h = absurd (omega arith)
        have_sorts (x ∷ xs) [] e h = absurd (omega arith)
        have_sorts (x ∷ xs) (s ∷ ss) e h = more_sorts (h 0 (omega arith)) (have_sorts xs ss (omega arith) (λ i l. h (suc i) (omega arith)))
