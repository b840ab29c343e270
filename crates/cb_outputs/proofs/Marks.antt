-- The marks of a rule or query are decided, and so are its sorts and clashes.
use Rattle.std.proofs.Common.{◌≡◌, ◌≢◌, ◌⊎◌, inl, inr, ℕ, zero, suc, ◌+◌, Bool, true, false, List, [], ◌∷◌, ◌++◌, refl, sym, ◌∙◌, ap, subst, arith, bytes_eq, pos, ℤ}
use Rattle.std.proofs.lemmas.Bool.{cases_eq}
use Rattle.std.proofs.lemmas.Slice.Eq.{bytes_eq-Decides}
use Rattle.std.specs.Prelude.{Option, Some, None, slice_get, flat_map, Contains}
use Rattle.cb_model.specs.declared.Sort.{Sort}
use Rattle.cb_model.specs.declared.Sort.TheVariants as sort
use Rattle.cb_model.specs.Text.{Text}
use Rattle.cb_model.specs.Grammar.{Form, Variable, Integer, Name, Closed, Open, Not, And, Xor, Or, FormGoal, ACall, AnEqual}
use Rattle.cb_model.specs.Directives.{Declared}
use Rattle.cb_model.specs.Facts.{net_of}
use Rattle.cb_model.specs.Sorts.{Place, Body, all_places, form_sort, Subject, Var, Equation, IsSide, left, right, Marked, at_place, by_form, from_side, to_side, HasSort, IsBit, Clash, two_marks, wrong_place, wrong_side, bit_at_bus, bit_of_bus}
use Rattle.cb_laws.proofs.Search.{Decision, both, equal_to, one_int}
use Rattle.cb_laws.proofs.SortedGoals.{sort_differs}
use Rattle.cb_outputs.proofs.Closures.{In, in_front, in_behind, in_either, in_flat, flat_in, contained, containing, search_list, in_decided, Closure, closure}

-- ---- decisions of equality

pub text_same : (x y : Text) → Decision (x ≡ y)
text_same x y = step (bytes_eq x y) refl
  where
    step : (c : Bool) → bytes_eq x y ≡ c → Decision (x ≡ y)
    step true e = inl ((bytes_eq-Decides x y).0 e)
    step false e = inr (λ h. let t : bytes_eq x y ≡ true = (bytes_eq-Decides x y).1 h in absurd (cc))

subject_same : (x y : Subject) → Decision (x ≡ y)
subject_same (Var x) (Var y) = equal_to ((λ e. ap text_in e), λ e. ap Var e) (text_same x y)
  where
    text_in : Subject → Text
    text_in (Var x) = x
    text_in (Equation k) = []
subject_same (Var x) (Equation k) = inr (λ e. absurd (cc))
subject_same (Equation k) (Var x) = inr (λ e. absurd (cc))
subject_same (Equation j) (Equation k) = equal_to ((λ e. ap number e), λ e. ap Equation e) (cases_eq j k)
  where
    number : Subject → ℕ
    number (Var x) = 0
    number (Equation k) = k

sort_is : (o : Option Sort) (s : Sort) → Decision (o ≡ Some s)
sort_is None s = inr (λ e. absurd (cc))
sort_is (Some t) s = equal_to ((λ e. ap (inside t) e), λ e. ap Some e) (sort_differs t s)
  where
    inside : Sort → Option Sort → Sort
    inside t (Some x) = x
    inside t None = t

net_is : (f : Form) (x : Text) → net_of f ≡ Some x → f ≡ Variable x
net_is (Variable y) x e = ap Variable (inside y e)
  where
    inside : (y : Text) → Some y ≡ Some x → y ≡ x
    inside y e = cc
net_is (Integer z) x e = absurd (cc)
net_is (Name n fs) x e = absurd (cc)
net_is (Closed fs) x e = absurd (cc)
net_is (Open fs f) x e = absurd (cc)
net_is (Not f) x e = absurd (cc)
net_is (And fs) x e = absurd (cc)
net_is (Xor fs) x e = absurd (cc)
net_is (Or fs) x e = absurd (cc)

-- ---- sides by number

abbrev sides_from : ℕ → List FormGoal → List (ℕ × Form)
sides_from k [] = []
sides_from k (ACall f ∷ gs) = sides_from (suc k) gs
sides_from k (AnEqual f g ∷ gs) = (k, f) ∷ (k, g) ∷ sides_from (suc k) gs

sides_at : (at : ℕ) (gs : List FormGoal) (i : ℕ) (l r : Form) → slice_get gs i ≡ Some (AnEqual l r) → In (at + i, l) (sides_from at gs) × In (at + i, r) (sides_from at gs)
sides_at at [] i l r e = absurd (cc)
sides_at at (ACall f ∷ gs) zero l r e = absurd (cc)
sides_at at (AnEqual f g ∷ gs) zero l r e =
    let n : at + 0 ≡ at = omega arith in
    (inl (rw (n, left_is e) refl), inr (inl (rw (n, right_is e) refl)))
  where
    left_of : FormGoal → Form
    left_of (AnEqual x y) = x
    left_of (ACall x) = x

    right_of : FormGoal → Form
    right_of (AnEqual x y) = y
    right_of (ACall x) = x

    goal_in : Option FormGoal → FormGoal
    goal_in (Some x) = x
    goal_in None = AnEqual f g

    left_is : Some (AnEqual f g) ≡ Some (AnEqual l r) → f ≡ l
    left_is e = ap (λ o. left_of (goal_in o)) e

    right_is : Some (AnEqual f g) ≡ Some (AnEqual l r) → g ≡ r
    right_is e = ap (λ o. right_of (goal_in o)) e
sides_at at (ACall f ∷ gs) (suc i) l r e =
    subst (λ n. In (n, l) (sides_from (suc at) gs) × In (n, r) (sides_from (suc at) gs)) (next at i) (sides_at (suc at) gs i l r e)
  where
    next : (at i : ℕ) → suc at + i ≡ at + suc i
    next at i = omega arith
sides_at at (AnEqual f g ∷ gs) (suc i) l r e =
    let h = subst (λ n. In (n, l) (sides_from (suc at) gs) × In (n, r) (sides_from (suc at) gs)) (next at i) (sides_at (suc at) gs i l r e) in
    (inr (inr h.0), inr (inr h.1))
  where
    next : (at i : ℕ) → suc at + i ≡ at + suc i
    next at i = omega arith

-- a side of an equation among these goals
abbrev SideOf : ℕ → List FormGoal → ℕ → Form → Type 0
SideOf at gs k f = (i : ℕ) × (k ≡ at + i) × (((g : Form) × (slice_get gs i ≡ Some (AnEqual f g))) ⊎ ((g : Form) × (slice_get gs i ≡ Some (AnEqual g f))))

side_later : (at : ℕ) (x : FormGoal) (gs : List FormGoal) (k : ℕ) (f : Form) → SideOf (suc at) gs k f → SideOf at (x ∷ gs) k f
side_later at x gs k f h = (suc h.0, (let e = h.1 in omega (arith, e)), h.2)

at_sides : (at : ℕ) (gs : List FormGoal) (k : ℕ) (f : Form) → In (k, f) (sides_from at gs) → SideOf at gs k f
at_sides at [] k f h = absurd h
at_sides at (ACall x ∷ gs) k f h = side_later at (ACall x) gs k f (at_sides (suc at) gs k f h)
at_sides at (AnEqual x y ∷ gs) k f (inl e) =
    let n : k ≡ at = ap (λ (p : ℕ × Form). p.0) e in
    (0, omega (arith, n), inl (y, ap (λ (p : ℕ × Form). Some (AnEqual p.1 y)) (sym e)))
at_sides at (AnEqual x y ∷ gs) k f (inr (inl e)) =
    let n : k ≡ at = ap (λ (p : ℕ × Form). p.0) e in
    (0, omega (arith, n), inr (x, ap (λ (p : ℕ × Form). Some (AnEqual x p.1)) (sym e)))
at_sides at (AnEqual x y ∷ gs) k f (inr (inr h)) = side_later at (AnEqual x y) gs k f (at_sides (suc at) gs k f h)

-- ---- lists under a condition

abbrev pub given : {P A : Type 0} → Decision P → List A → List A
given (inl p) xs = xs
given (inr n) xs = []

pub given_in : {P A : Type 0} (c : Decision P) (x : A) (xs : List A) → P → In x xs → In x (given c xs)
given_in (inl q) x xs p h = h
given_in (inr n) x xs p h = absurd (n p)

pub in_given : {P A : Type 0} (c : Decision P) (x : A) (xs : List A) → In x (given c xs) → P × In x xs
in_given (inl q) x xs h = (q, h)
in_given (inr n) x xs h = absurd h

abbrev var_in : Option Text → List Subject
var_in None = []
var_in (Some x) = Var x ∷ []

in_var : (o : Option Text) (X : Subject) → In X (var_in o) → (x : Text) × (o ≡ Some x) × (X ≡ Var x)
in_var None X h = absurd h
in_var (Some x) X (inl e) = (x, refl, e)
in_var (Some x) X (inr h) = absurd h

abbrev arrows_of : ℕ → Option Text → List (Subject × Subject)
arrows_of k None = []
arrows_of k (Some x) = (Var x, Equation k) ∷ (Equation k, Var x) ∷ []

in_arrows : (k : ℕ) (o : Option Text) (e : Subject × Subject) → In e (arrows_of k o) → (x : Text) × (o ≡ Some x) × ((e ≡ (Var x, Equation k)) ⊎ (e ≡ (Equation k, Var x)))
in_arrows k None e h = absurd h
in_arrows k (Some x) e (inl i) = (x, refl, inl i)
in_arrows k (Some x) e (inr (inl i)) = (x, refl, inr i)
in_arrows k (Some x) e (inr (inr h)) = absurd h

-- ---- marks

module _ (d : Declared) (b : Body) where
  side_in : (k : ℕ) (f : Form) → IsSide b k f → In (k, f) (sides_from 0 b.goals)
  side_in k f (left g e) = subst (λ n. In (n, f) (sides_from 0 b.goals)) (omega arith) (sides_at 0 b.goals k f g e).0
  side_in k f (right g e) = subst (λ n. In (n, f) (sides_from 0 b.goals)) (omega arith) (sides_at 0 b.goals k g f e).1

  in_side : (k : ℕ) (f : Form) → In (k, f) (sides_from 0 b.goals) → IsSide b k f
  in_side k f h = step (at_sides 0 b.goals k f h)
    where
      step : SideOf 0 b.goals k f → IsSide b k f
      step (i, n, inl g) = left g.0 (subst (λ m. slice_get b.goals m ≡ Some (AnEqual f g.0)) (let e : k ≡ 0 + i = n in omega (arith, e)) g.1)
      step (i, n, inr g) = right g.0 (subst (λ m. slice_get b.goals m ≡ Some (AnEqual g.0 f)) (let e : k ≡ 0 + i = n in omega (arith, e)) g.1)

  abbrev place_start : Sort → Place → List Subject
  place_start s p = given (sort_differs s p.0) (var_in (net_of p.1))

  abbrev side_start : Sort → ℕ × Form → List Subject
  side_start s e = given (sort_is (form_sort d.constants e.1) s) (Equation e.0 ∷ [])

  abbrev side_arrows : ℕ × Form → List (Subject × Subject)
  side_arrows e = arrows_of e.0 (net_of e.1)

  abbrev sides : List (ℕ × Form)
  sides = sides_from 0 b.goals

  abbrev starts : Sort → List Subject
  starts s = flat_map (place_start s) (all_places d b) ++ flat_map (side_start s) sides

  abbrev arrows : List (Subject × Subject)
  arrows = flat_map side_arrows sides

  abbrev marks : (s : Sort) → Closure Subject subject_same (starts s) arrows
  marks s = closure Subject subject_same (starts s) arrows

  start_sound : (s : Sort) (X : Subject) → In X (starts s) → Marked d b X s
  start_sound s X h = step (in_either X (flat_map (place_start s) (all_places d b)) (flat_map (side_start s) sides) h)
    where
      step : In X (flat_map (place_start s) (all_places d b)) ⊎ In X (flat_map (side_start s) sides) → Marked d b X s
      step (inl i) =
          let p = flat_in (place_start s) X (all_places d b) i in
          let g = in_given (sort_differs s p.0.0) X (var_in (net_of p.0.1)) p.2 in
          let v = in_var (net_of p.0.1) X g.1 in
          let is : p.0.1 ≡ Variable v.0 = net_is p.0.1 v.0 v.1 in
          let here : In (s, Variable v.0) (all_places d b) = subst (λ (f : Form). In (s, f) (all_places d b)) is (subst (λ (t : Sort). In (t, p.0.1) (all_places d b)) (sym g.0) p.1) in
          subst (λ (Y : Subject). Marked d b Y s) (sym v.2) (at_place (containing (all_places d b) (s, Variable v.0) here))
      step (inr i) =
          let p = flat_in (side_start s) X sides i in
          let g = in_given (sort_is (form_sort d.constants p.0.1) s) X (Equation p.0.0 ∷ []) p.2 in
          subst (λ (Y : Subject). Marked d b Y s) (sym (only g.1)) (by_form p.0.1 (in_side p.0.0 p.0.1 p.1) g.0)
        where
          only : {Y : Subject} → In X (Y ∷ []) → X ≡ Y
          only (inl e) = e
          only (inr h) = absurd h

  arrow_sound : (s : Sort) (e : Subject × Subject) → In e arrows → Marked d b e.0 s → Marked d b e.1 s
  arrow_sound s e h m =
      let p = flat_in side_arrows e sides h in
      let v = in_arrows p.0.0 (net_of p.0.1) e p.2 in
      let side : IsSide b p.0.0 (Variable v.0) = subst (IsSide b p.0.0) (net_is p.0.1 v.0 v.1) (in_side p.0.0 p.0.1 p.1) in
      step p.0.0 v.0 side v.2
    where
      step : (k : ℕ) (x : Text) → IsSide b k (Variable x) → (e ≡ (Var x, Equation k)) ⊎ (e ≡ (Equation k, Var x)) → Marked d b e.1 s
      step k x side (inl i) =
          subst (λ (a : Subject × Subject). Marked d b a.1 s) (sym i) (from_side x side (subst (λ (a : Subject × Subject). Marked d b a.0 s) i m))
      step k x side (inr i) =
          subst (λ (a : Subject × Subject). Marked d b a.1 s) (sym i) (to_side k side (subst (λ (a : Subject × Subject). Marked d b a.0 s) i m))

  sound : (s : Sort) (X : Subject) → In X (marks s).members → Marked d b X s
  sound s X h = (marks s).least (λ Y. Marked d b Y s) (start_sound s) (arrow_sound s) X h

  side_arrow : (k : ℕ) (x : Text) (e : Subject × Subject) → IsSide b k (Variable x) → In e (arrows_of k (Some x)) → In e arrows
  side_arrow k x e side h = in_flat side_arrows (k, Variable x) e sides (side_in k (Variable x) side) h

  complete : (s : Sort) (X : Subject) → Marked d b X s → In X (marks s).members
  complete s (Var x) (at_place c) =
      (marks s).has (Var x) (in_front (Var x) (flat_map (place_start s) (all_places d b)) (flat_map (side_start s) sides)
      (in_flat (place_start s) (s, Variable x) (Var x) (all_places d b) (contained (all_places d b) (s, Variable x) c) (given_in (sort_differs s s) (Var x) (Var x ∷ []) refl (inl refl))))
  complete s (Equation k) (by_form f side e) =
      (marks s).has (Equation k) (in_behind (Equation k) (flat_map (place_start s) (all_places d b)) (flat_map (side_start s) sides)
      (in_flat (side_start s) (k, f) (Equation k) sides (side_in k f side) (given_in (sort_is (form_sort d.constants f) s) (Equation k) (Equation k ∷ []) e (inl refl))))
  complete s (Equation k) (from_side x side m) = (marks s).closed (Var x, Equation k) (side_arrow k x (Var x, Equation k) side (inl refl)) (complete s (Var x) m)
  complete s (Var x) (to_side k side m) = (marks s).closed (Equation k, Var x) (side_arrow k x (Equation k, Var x) side (inr (inl refl))) (complete s (Equation k) m)

  pub marked_decided : (X : Subject) (s : Sort) → Decision (Marked d b X s)
  marked_decided X s = equal_to ((λ m. complete s X m), λ h. sound s X h) (in_decided Subject subject_same X (marks s).members)

  -- each variable and each equation has a sort
  pub has_sort : (X : Subject) → (s : Sort) × HasSort d b X s
  has_sort X = step (marked_decided X sort.Bool) (marked_decided X sort.Bus) (marked_decided X sort.Term)
    where
      step : Decision (Marked d b X sort.Bool) → Decision (Marked d b X sort.Bus) → Decision (Marked d b X sort.Term) → (s : Sort) × HasSort d b X s
      step (inl m) y z = (sort.Bool, inl m)
      step (inr n) (inl m) z = (sort.Bus, inl m)
      step (inr n) (inr k) (inl m) = (sort.Term, inl m)
      step (inr n) (inr k) (inr j) = (sort.Term, inr (none, refl))
        where
          none : (t : Sort) → Marked d b X t → ⊥
          none sort.Bool = n
          none sort.Bus = k
          none sort.Term = j

-- ---- clashes

bit_decided : (f : Form) → Decision (IsBit f)
bit_decided (Integer z) = step (one_int z (pos 0)) (one_int z (pos 1))
  where
    inside : Form → ℤ
    inside (Integer y) = y
    inside f = z

    step : (z ≡ pos 0) ⊎ (z ≡ pos 0 → ⊥) → (z ≡ pos 1) ⊎ (z ≡ pos 1 → ⊥) → Decision (IsBit (Integer z))
    step (inl e) k = inl (inl (ap Integer e))
    step (inr n) (inl e) = inl (inr (ap Integer e))
    step (inr n) (inr m) = inr (λ h. never h)
      where
        never : IsBit (Integer z) → ⊥
        never (inl e) = n (ap inside e)
        never (inr e) = m (ap inside e)
bit_decided (Variable x) = inr (λ h. elim h [ inl e ↦ absurd (cc) | inr e ↦ absurd (cc) ])
bit_decided (Name n fs) = inr (λ h. elim h [ inl e ↦ absurd (cc) | inr e ↦ absurd (cc) ])
bit_decided (Closed fs) = inr (λ h. elim h [ inl e ↦ absurd (cc) | inr e ↦ absurd (cc) ])
bit_decided (Open fs f) = inr (λ h. elim h [ inl e ↦ absurd (cc) | inr e ↦ absurd (cc) ])
bit_decided (Not f) = inr (λ h. elim h [ inl e ↦ absurd (cc) | inr e ↦ absurd (cc) ])
bit_decided (And fs) = inr (λ h. elim h [ inl e ↦ absurd (cc) | inr e ↦ absurd (cc) ])
bit_decided (Xor fs) = inr (λ h. elim h [ inl e ↦ absurd (cc) | inr e ↦ absurd (cc) ])
bit_decided (Or fs) = inr (λ h. elim h [ inl e ↦ absurd (cc) | inr e ↦ absurd (cc) ])

-- the second sort is there and isn't the first
abbrev Other : Option Sort → Sort → Type 0
Other o s = (t : Sort) × (o ≡ Some t) × (s ≢ t)

other_decided : (o : Option Sort) (s : Sort) → Decision (Other o s)
other_decided None s = inr (λ h. let e = h.1 in absurd (cc))
other_decided (Some t) s = step (sort_differs s t)
  where
    inside : Option Sort → Sort
    inside (Some x) = x
    inside None = t

    step : (s ≡ t) ⊎ (s ≢ t) → Decision (Other (Some t) s)
    step (inl e) = inr (λ h. h.2 (e ∙ ap inside h.1))
    step (inr n) = inl (t, refl, n)

some_sort : (P : Sort → Type 0) → ((s : Sort) → Decision (P s)) → Decision ((s : Sort) × P s)
some_sort P c = step (c sort.Bool) (c sort.Bus) (c sort.Term)
  where
    step : Decision (P sort.Bool) → Decision (P sort.Bus) → Decision (P sort.Term) → Decision ((s : Sort) × P s)
    step (inl p) y z = inl (sort.Bool, p)
    step (inr n) (inl p) z = inl (sort.Bus, p)
    step (inr n) (inr m) (inl p) = inl (sort.Term, p)
    step (inr n) (inr m) (inr k) = inr (λ h. never h.0 h.1)
      where
        never : (s : Sort) → P s → ⊥
        never sort.Bool = n
        never sort.Bus = m
        never sort.Term = k

module _ (d : Declared) (b : Body) where
  has_sort_decided : (X : Subject) (s : Sort) → Decision (HasSort d b X s)
  has_sort_decided X s = step (marked_decided d b X s) (some_sort (λ t. Marked d b X t) (marked_decided d b X)) (sort_differs s sort.Term)
    where
      step : Decision (Marked d b X s) → Decision ((t : Sort) × Marked d b X t) → (s ≡ sort.Term) ⊎ (s ≢ sort.Term) → Decision (HasSort d b X s)
      step (inl m) y z = inl (inl m)
      step (inr n) (inl m) z = inr (λ h. elim h [ inl k ↦ n k | inr k ↦ k.0 m.0 m.1 ])
      step (inr n) (inr m) (inl e) = inl (inr ((λ t k. m (t, k)), e))
      step (inr n) (inr m) (inr k) = inr (λ h. elim h [ inl j ↦ n j | inr j ↦ k j.1 ])

  -- two marks at one subject
  abbrev TwoMarks : Type 0
  TwoMarks = (s : Sort) × ((t : Sort) × ((X : Subject) × In X (marks d b s).members × (Marked d b X t × (s ≢ t))))

  differ_decided : (s t : Sort) → Decision (s ≢ t)
  differ_decided s t = elim (sort_differs s t) [ inl e ↦ inr (λ n. n e) | inr n ↦ inl n ]

  two_decided : Decision TwoMarks
  two_decided = some_sort _ (λ s. some_sort _ (λ t. search_list (λ X. Marked d b X t × (s ≢ t)) (λ X. both (marked_decided d b X t) (differ_decided s t)) (marks d b s).members))

  place_wrong : Decision ((p : Place) × In p (all_places d b) × Other (form_sort d.constants p.1) p.0)
  place_wrong = search_list _ (λ p. other_decided (form_sort d.constants p.1) p.0) (all_places d b)

  abbrev SideWrong : ℕ × Form → Type 0
  SideWrong e = (s : Sort) × (HasSort d b (Equation e.0) s × Other (form_sort d.constants e.1) s)

  side_wrong : Decision ((e : ℕ × Form) × In e (sides d b) × SideWrong e)
  side_wrong = search_list SideWrong (λ e. some_sort _ (λ s. both (has_sort_decided (Equation e.0) s) (other_decided (form_sort d.constants e.1) s))) (sides d b)

  place_bit : Decision ((p : Place) × In p (all_places d b) × ((p.0 ≡ sort.Bus) × IsBit p.1))
  place_bit = search_list (λ (p : Place). (p.0 ≡ sort.Bus) × IsBit p.1) (λ p. both (sort_differs p.0 sort.Bus) (bit_decided p.1)) (all_places d b)

  side_bit : Decision ((e : ℕ × Form) × In e (sides d b) × (IsBit e.1 × HasSort d b (Equation e.0) sort.Bus))
  side_bit = search_list (λ (e : ℕ × Form). IsBit e.1 × HasSort d b (Equation e.0) sort.Bus) (λ e. both (bit_decided e.1) (has_sort_decided (Equation e.0) sort.Bus)) (sides d b)

  pub clash_decided : Decision (Clash d b)
  clash_decided = step two_decided place_wrong side_wrong place_bit side_bit
    where
      step : Decision TwoMarks → Decision ((p : Place) × In p (all_places d b) × Other (form_sort d.constants p.1) p.0) → Decision ((e : ℕ × Form) × In e (sides d b) × SideWrong e) →
          Decision ((p : Place) × In p (all_places d b) × ((p.0 ≡ sort.Bus) × IsBit p.1)) → Decision ((e : ℕ × Form) × In e (sides d b) × (IsBit e.1 × HasSort d b (Equation e.0) sort.Bus)) → Decision (Clash d b)
      step (inl h) y z u v = inl (two_marks h.1.1.0 h.0 h.1.0 (sound d b h.0 h.1.1.0 h.1.1.1) h.1.1.2.0 h.1.1.2.1)
      step (inr n) (inl h) z u v = inl (wrong_place h.0.1 h.0.0 h.2.0 (containing (all_places d b) h.0 h.1) h.2.1 h.2.2)
      step (inr n) (inr m) (inl h) u v = inl (wrong_side h.0.0 h.0.1 h.2.0 h.2.1.1.0 (in_side d b h.0.0 h.0.1 h.1) h.2.1.0 h.2.1.1.1 h.2.1.1.2)
      step (inr n) (inr m) (inr k) (inl h) v =
          let c : Contains (all_places d b) (sort.Bus, h.0.1) = subst (λ (t : Sort). Contains (all_places d b) (t, h.0.1)) h.2.0 (containing (all_places d b) h.0 h.1) in
          inl (bit_at_bus h.0.1 c h.2.1)
      step (inr n) (inr m) (inr k) (inr j) (inl h) = inl (bit_of_bus h.0.0 h.0.1 (in_side d b h.0.0 h.0.1 h.1) h.2.0 h.2.1)
      step (inr n) (inr m) (inr k) (inr j) (inr i) = inr (λ c. never c)
        where
          never : Clash d b → ⊥
          never (two_marks X s t x y e) = n (s, (t, (X, complete d b s X x, (y, e))))
          never (wrong_place f s t c e q) = m ((s, f), contained (all_places d b) (s, f) c, (t, e, q))
          never (wrong_side e f s t side h q r) = k ((e, f), side_in d b e f side, (s, (h, (t, q, r))))
          never (bit_at_bus f c q) = j ((sort.Bus, f), contained (all_places d b) (sort.Bus, f) c, (refl, q))
          never (bit_of_bus e f side q h) = i ((e, f), side_in d b e f side, (q, h))
