-- What the lists of a walk contain.
use Rattle.std.proofs.Common.{◌≡◌, ℕ, zero, suc, ◌+◌, ◌<◌, Bool, true, false, List, [], ◌∷◌, ◌++◌, get_or, slice_get, Option, Some, None, refl, sym, ◌∙◌, ap, subst, arith, inl, inr, bytes_eq}
use Rattle.std.specs.Prelude.{◌⊎◌, Contains}
use Rattle.std.specs.List.{list_any}
use Rattle.std.proofs.lemmas.List.Elements.{Contains-push, Contains-append_left, Contains-append_right, Contains-append_cases}
use Rattle.std.proofs.lemmas.Bool.{and_parts, and_cases, false≢true}
use Rattle.cb_model.specs.Text.{Text}
use Rattle.cb_model.specs.declared.Sort.{Sort}
use Rattle.cb_model.specs.declared.Sort.TheVariants as sort
use Rattle.cb_model.specs.Grammar.{Form, Variable, Integer, Name, Closed, Open, Not, And, Xor, Or, FormGoal, ACall, AnEqual}
use Rattle.cb_model.specs.Directives.{Declared}
use Rattle.cb_model.specs.Sorts.{Place, form_sort, below, call_places, goal_places, goals_places}
use Rattle.cb_marking.specs.Places.{is_bit, place_fits}
use Rattle.cb_marking.specs.Walk.{thing_of, all_fit}
use Rattle.cb_marking.proofs.Follows.{given_at, numbered, given_some, bit_at, is_there, all_there}
use Rattle.cb_marking.proofs.Sides.{side_given, side_edges, side_bits, side_met, goal_given, goal_edges, goal_bits, goal_met, each}

pub none_in : {X : Type 0} (x : X) → Contains [] x → ⊥
none_in x h = absurd (omega (arith, h.1))

pub one_in : {X : Type 0} (x y : X) → Contains (x ∷ []) y → x ≡ y
one_in x y h = at h.0 h.1 h.2
  where
    at : (k : ℕ) → k < 1 → get_or (x ∷ []) k y ≡ y → x ≡ y
    at zero l e = e
    at (suc k) l e = absurd (omega arith)

pub has_one : {X : Type 0} (x : X) → Contains (x ∷ []) x
has_one x = Contains-push [] x

-- ---- places

place_text : (s t : Sort) (f : Form) (x : Text) → ◌≡◌ {A = Place} (s, f) (t, Variable x) → f ≡ Variable x
place_text s t f x e = ap (λ (p : Place). p.1) e

module _ (c : ℕ) (ys : List Text) where
  -- where a thing was given its sort
  abbrev pub FromPlace : List Place → ℕ → Sort → Type 0
  FromPlace ps t s = (x : Text) × Contains ps (s, Variable x) × (t ≡ thing_of c ys x)

  given_has : (r : Sort) (f : Form) (t : ℕ) (s : Sort) → Contains (given_at c ys r f) (t, s) → FromPlace ((r, f) ∷ []) t s
  given_has r (Variable x) t s h =
      let e : ◌≡◌ {A = ℕ × Sort} (thing_of c ys x, r) (t, s) = one_in (thing_of c ys x, r) (t, s) h in
      let same : r ≡ s = ap (λ (p : ℕ × Sort). p.1) e in
      (x, subst (λ (q : Sort). Contains {X = Place} ((r, Variable x) ∷ []) (q, Variable x)) same (has_one {X = Place} (r, Variable x)), sym (ap (λ (p : ℕ × Sort). p.0) e))
  given_has r (Integer z) t s h = absurd (none_in (t, s) h)
  given_has r (Name n fs) t s h = absurd (none_in (t, s) h)
  given_has r (Closed fs) t s h = absurd (none_in (t, s) h)
  given_has r (Open fs f) t s h = absurd (none_in (t, s) h)
  given_has r (Not f) t s h = absurd (none_in (t, s) h)
  given_has r (And fs) t s h = absurd (none_in (t, s) h)
  given_has r (Xor fs) t s h = absurd (none_in (t, s) h)
  given_has r (Or fs) t s h = absurd (none_in (t, s) h)

  pub numbered_has : (ps : List Place) (t : ℕ) (s : Sort) → Contains (numbered c ys ps) (t, s) → FromPlace ps t s
  numbered_has [] t s h = absurd (none_in (t, s) h)
  numbered_has (p ∷ ps) t s h = step (Contains-append_cases (given_at c ys p.0 p.1) (numbered c ys ps) (t, s) h) (numbered_has ps t s)
    where
      step : Contains (given_at c ys p.0 p.1) (t, s) ⊎ Contains (numbered c ys ps) (t, s) → (Contains (numbered c ys ps) (t, s) → FromPlace ps t s) → FromPlace (p ∷ ps) t s
      step (inl k) r = let w = given_has p.0 p.1 t s k in (w.0, Contains-append_left (p ∷ []) ps (s, Variable w.0) w.1, w.2)
      step (inr k) r = let w = r k in (w.0, Contains-append_right (p ∷ []) ps (s, Variable w.0) w.1, w.2)

  pub numbered_whole : (ps : List Place) (s : Sort) (x : Text) → Contains ps (s, Variable x) → Contains (numbered c ys ps) (thing_of c ys x, s)
  numbered_whole [] s x h = absurd (none_in {X = Place} (s, Variable x) h)
  numbered_whole (p ∷ ps) s x h = step (Contains-append_cases (p ∷ []) ps (s, Variable x) h) (numbered_whole ps s x)
    where
      step : Contains (p ∷ []) (s, Variable x) ⊎ Contains ps (s, Variable x) → (Contains ps (s, Variable x) → Contains (numbered c ys ps) (thing_of c ys x, s)) → Contains (numbered c ys (p ∷ ps)) (thing_of c ys x, s)
      step (inl k) r =
          subst (λ (q : Place). Contains (given_at c ys q.0 q.1 ++ numbered c ys ps) (thing_of c ys x, s)) (sym (one_in p (s, Variable x) k))
          (Contains-append_left ((thing_of c ys x, s) ∷ []) (numbered c ys ps) (thing_of c ys x, s) (has_one (thing_of c ys x, s)))
      step (inr k) r = Contains-append_right (given_at c ys p.0 p.1) (numbered c ys ps) (thing_of c ys x, s) (r k)

pub there_at : (ys : List Text) (ps : List Place) (s : Sort) (x : Text) → all_there ys ps ≡ true → Contains ps (s, Variable x) → list_any (bytes_eq x) ys ≡ true
there_at ys [] s x h c = absurd (none_in {X = Place} (s, Variable x) c)
there_at ys (p ∷ ps) s x h c = step (Contains-append_cases (p ∷ []) ps (s, Variable x) c) (there_at ys ps s x)
  where
    step : Contains (p ∷ []) (s, Variable x) ⊎ Contains ps (s, Variable x) → (all_there ys ps ≡ true → Contains ps (s, Variable x) → list_any (bytes_eq x) ys ≡ true) → list_any (bytes_eq x) ys ≡ true
    step (inl k) r = ap (λ (q : Place). is_there ys q.1) (sym (one_in p (s, Variable x) k)) ∙ (and_parts (is_there ys p.1) (all_there ys ps) h).0
    step (inr k) r = r (and_parts (is_there ys p.1) (all_there ys ps) h).1 k

pub fits_at : (d : Declared) (ps : List Place) (p : Place) → all_fit d ps ≡ true → Contains ps p → place_fits d p ≡ true
fits_at d [] p h c = absurd (none_in p c)
fits_at d (q ∷ qs) p h c = step (Contains-append_cases (q ∷ []) qs p c) (fits_at d qs p)
  where
    step : Contains (q ∷ []) p ⊎ Contains qs p → (all_fit d qs ≡ true → Contains qs p → place_fits d p ≡ true) → place_fits d p ≡ true
    step (inl k) r = ap (place_fits d) (sym (one_in q p k)) ∙ (and_parts (place_fits d q) (all_fit d qs) h).0
    step (inr k) r = r (and_parts (place_fits d q) (all_fit d qs) h).1 k

pub misfit_at : (d : Declared) (ps : List Place) → all_fit d ps ≡ false → (p : Place) × Contains ps p × (place_fits d p ≡ false)
misfit_at d [] h = absurd (false≢true (sym h))
misfit_at d (q ∷ qs) h = step (and_cases (place_fits d q) (all_fit d qs) h) (misfit_at d qs)
  where
    step : (place_fits d q ≡ false) ⊎ (all_fit d qs ≡ false) → (all_fit d qs ≡ false → (p : Place) × Contains qs p × (place_fits d p ≡ false)) → (p : Place) × Contains (q ∷ qs) p × (place_fits d p ≡ false)
    step (inl e) r = (q, Contains-append_left (q ∷ []) qs q (has_one q), e)
    step (inr e) r = let w = r e in (w.0, Contains-append_right (q ∷ []) qs w.0 w.1, w.2)

-- ---- goals one after another

pub each_has : {A : Type 0} (F : ℕ → FormGoal → List A) (j : ℕ) (gs : List FormGoal) (a : A) → Contains (each F j gs) a → (i : ℕ) × (g : FormGoal) × (slice_get gs i ≡ Some g) × Contains (F (j + i) g) a
each_has F j [] a h = absurd (none_in a h)
each_has {A} F j (g ∷ gs) a h = step (Contains-append_cases (F j g) (each F (suc j) gs) a h) (each_has F (suc j) gs a)
  where
    step : Contains (F j g) a ⊎ Contains (each F (suc j) gs) a → (Contains (each F (suc j) gs) a → (i : ℕ) × (g : FormGoal) × (slice_get gs i ≡ Some g) × Contains (F (suc j + i) g) a) →
        (i : ℕ) × (h : FormGoal) × (slice_get (g ∷ gs) i ≡ Some h) × Contains (F (j + i) h) a
    step (inl k) r = let e : j ≡ j + 0 = omega arith in (0, g, refl, subst (λ n. Contains (F n g) a) e k)
    step (inr k) r = let w = r k in let e : suc j + w.0 ≡ j + suc w.0 = omega arith in (suc w.0, w.1, w.2, subst (λ n. Contains (F n w.1) a) e w.3)

pub each_whole : {A : Type 0} (F : ℕ → FormGoal → List A) (j : ℕ) (gs : List FormGoal) (a : A) (i : ℕ) (g : FormGoal) → slice_get gs i ≡ Some g → Contains (F (j + i) g) a → Contains (each F j gs) a
each_whole F j [] a zero g e h = absurd (cc)
each_whole F j [] a (suc i) g e h = absurd (cc)
each_whole {A} F j (k ∷ gs) a zero g e h =
    let n : j + 0 ≡ j = omega arith in
    let same : g ≡ k = cc in
    Contains-append_left (F j k) (each F (suc j) gs) a (subst (λ (q : FormGoal). Contains (F j q) a) same (subst (λ m. Contains (F m g) a) n h))
each_whole {A} F j (k ∷ gs) a (suc i) g e h =
    let n : j + suc i ≡ suc j + i = omega arith in
    Contains-append_right (F j k) (each F (suc j) gs) a (each_whole F (suc j) gs a i g e (subst (λ m. Contains (F m g) a) n h))

pub places_each : (d : Declared) (j : ℕ) (gs : List FormGoal) → goals_places d gs ≡ each (λ _ g. goal_places d g) j gs
places_each d j [] = refl
places_each d j (g ∷ gs) = ap (λ (l : List Place). goal_places d g ++ l) (places_each d (suc j) gs)

-- ---- one goal

-- a form is a side of an equation
abbrev pub HasSide : FormGoal → Form → Type 0
HasSide (ACall f) h = ⊥
HasSide (AnEqual f g) h = (f ≡ h) ⊎ (g ≡ h)

some_has : (j : ℕ) (o : Option Sort) (t : ℕ) (s : Sort) → Contains (given_some j o) (t, s) → (t ≡ j) × (o ≡ Some s)
some_has j None t s h = absurd (none_in {X = ℕ × Sort} (t, s) h)
some_has j (Some r) t s h =
    let e : ◌≡◌ {A = ℕ × Sort} (j, r) (t, s) = one_in (j, r) (t, s) h in
    (sym (ap (λ (p : ℕ × Sort). p.0) e), ap (λ (p : ℕ × Sort). Some p.1) e)

module _ (d : Declared) (c : ℕ) (ys : List Text) (j : ℕ) where
  abbrev pub FromForm : Form → ℕ → Sort → Type 0
  FromForm f t s = (t ≡ j) × (form_sort d.constants f ≡ Some s)

  side_has : (f : Form) (t : ℕ) (s : Sort) → Contains (side_given d c ys j f) (t, s) → FromPlace c ys (below d f) t s ⊎ FromForm f t s
  side_has f t s h = step (Contains-append_cases (given_some j (form_sort d.constants f)) (numbered c ys (below d f)) (t, s) h)
    where
      step : Contains (given_some j (form_sort d.constants f)) (t, s) ⊎ Contains (numbered c ys (below d f)) (t, s) → FromPlace c ys (below d f) t s ⊎ FromForm f t s
      step (inl k) = inr (some_has j (form_sort d.constants f) t s k)
      step (inr k) = inl (numbered_has c ys (below d f) t s k)

  -- where a goal's thing was given its sort
  abbrev pub FromGoal : FormGoal → ℕ → Sort → Type 0
  FromGoal g t s = FromPlace c ys (goal_places d g) t s ⊎ ((f : Form) × HasSide g f × FromForm f t s)

  left_part : (f g : Form) (t : ℕ) (s : Sort) → FromPlace c ys (below d f) t s ⊎ FromForm f t s → FromGoal (AnEqual f g) t s
  left_part f g t s (inl w) = inl (w.0, Contains-append_left (below d f) (below d g) (s, Variable w.0) w.1, w.2)
  left_part f g t s (inr w) = inr (f, inl refl, w)

  right_part : (f g : Form) (t : ℕ) (s : Sort) → FromPlace c ys (below d g) t s ⊎ FromForm g t s → FromGoal (AnEqual f g) t s
  right_part f g t s (inl w) = inl (w.0, Contains-append_right (below d f) (below d g) (s, Variable w.0) w.1, w.2)
  right_part f g t s (inr w) = inr (g, inr refl, w)

  pub goal_has : (g : FormGoal) (t : ℕ) (s : Sort) → Contains (goal_given d c ys j g) (t, s) → FromGoal g t s
  goal_has (ACall f) t s h = inl (numbered_has c ys (call_places d f) t s h)
  goal_has (AnEqual f g) t s h = step (Contains-append_cases (side_given d c ys j f) (side_given d c ys j g) (t, s) h)
    where
      step : Contains (side_given d c ys j f) (t, s) ⊎ Contains (side_given d c ys j g) (t, s) → FromGoal (AnEqual f g) t s
      step (inl k) = left_part f g t s (side_has f t s k)
      step (inr k) = right_part f g t s (side_has g t s k)

  side_place : (f : Form) (s : Sort) (x : Text) → Contains (below d f) (s, Variable x) → Contains (side_given d c ys j f) (thing_of c ys x, s)
  side_place f s x h = Contains-append_right (given_some j (form_sort d.constants f)) (numbered c ys (below d f)) (thing_of c ys x, s) (numbered_whole c ys (below d f) s x h)

  pub goal_place : (g : FormGoal) (s : Sort) (x : Text) → Contains (goal_places d g) (s, Variable x) → Contains (goal_given d c ys j g) (thing_of c ys x, s)
  goal_place (ACall f) s x h = numbered_whole c ys (call_places d f) s x h
  goal_place (AnEqual f g) s x h = step (Contains-append_cases (below d f) (below d g) (s, Variable x) h)
    where
      step : Contains (below d f) (s, Variable x) ⊎ Contains (below d g) (s, Variable x) → Contains (goal_given d c ys j (AnEqual f g)) (thing_of c ys x, s)
      step (inl k) = Contains-append_left (side_given d c ys j f) (side_given d c ys j g) (thing_of c ys x, s) (side_place f s x k)
      step (inr k) = Contains-append_right (side_given d c ys j f) (side_given d c ys j g) (thing_of c ys x, s) (side_place g s x k)

  side_form : (f : Form) (s : Sort) → form_sort d.constants f ≡ Some s → Contains (side_given d c ys j f) (j, s)
  side_form f s e =
      Contains-append_left (given_some j (form_sort d.constants f)) (numbered c ys (below d f)) (j, s) (subst (λ (o : Option Sort). Contains (given_some j o) (j, s)) (sym e) (has_one (j, s)))

  pub goal_form_given : (g : FormGoal) (f : Form) (s : Sort) → HasSide g f → form_sort d.constants f ≡ Some s → Contains (goal_given d c ys j g) (j, s)
  goal_form_given (ACall f) h s w e = absurd w
  goal_form_given (AnEqual f g) h s (inl w) e = Contains-append_left (side_given d c ys j f) (side_given d c ys j g) (j, s) (side_form f s (ap (form_sort d.constants) w ∙ e))
  goal_form_given (AnEqual f g) h s (inr w) e = Contains-append_right (side_given d c ys j f) (side_given d c ys j g) (j, s) (side_form g s (ap (form_sort d.constants) w ∙ e))

  -- ---- links

  side_edge : (f : Form) (t u : ℕ) → Contains (side_edges c ys j f) (t, u) → (x : Text) × (f ≡ Variable x) × (t ≡ j) × (u ≡ thing_of c ys x)
  side_edge (Variable x) t u h = let e : ◌≡◌ {A = ℕ × ℕ} (j, thing_of c ys x) (t, u) = one_in (j, thing_of c ys x) (t, u) h in (x, refl, sym (ap (λ (p : ℕ × ℕ). p.0) e), sym (ap (λ (p : ℕ × ℕ). p.1) e))
  side_edge (Integer z) t u h = absurd (none_in {X = ℕ × ℕ} (t, u) h)
  side_edge (Name n fs) t u h = absurd (none_in {X = ℕ × ℕ} (t, u) h)
  side_edge (Closed fs) t u h = absurd (none_in {X = ℕ × ℕ} (t, u) h)
  side_edge (Open fs f) t u h = absurd (none_in {X = ℕ × ℕ} (t, u) h)
  side_edge (Not f) t u h = absurd (none_in {X = ℕ × ℕ} (t, u) h)
  side_edge (And fs) t u h = absurd (none_in {X = ℕ × ℕ} (t, u) h)
  side_edge (Xor fs) t u h = absurd (none_in {X = ℕ × ℕ} (t, u) h)
  side_edge (Or fs) t u h = absurd (none_in {X = ℕ × ℕ} (t, u) h)

  pub goal_edge : (g : FormGoal) (t u : ℕ) → Contains (goal_edges c ys j g) (t, u) → (x : Text) × HasSide g (Variable x) × (t ≡ j) × (u ≡ thing_of c ys x)
  goal_edge (ACall f) t u h = absurd (none_in {X = ℕ × ℕ} (t, u) h)
  goal_edge (AnEqual f g) t u h = step (Contains-append_cases (side_edges c ys j f) (side_edges c ys j g) (t, u) h)
    where
      step : Contains (side_edges c ys j f) (t, u) ⊎ Contains (side_edges c ys j g) (t, u) → (x : Text) × HasSide (AnEqual f g) (Variable x) × (t ≡ j) × (u ≡ thing_of c ys x)
      step (inl k) = let w = side_edge f t u k in (w.0, inl w.1, w.2, w.3)
      step (inr k) = let w = side_edge g t u k in (w.0, inr w.1, w.2, w.3)

  pub goal_linked : (g : FormGoal) (x : Text) → HasSide g (Variable x) → Contains (goal_edges c ys j g) (j, thing_of c ys x)
  goal_linked (ACall f) x w = absurd w
  goal_linked (AnEqual f g) x (inl w) =
      Contains-append_left (side_edges c ys j f) (side_edges c ys j g) (j, thing_of c ys x) (subst (λ (h : Form). Contains (side_edges c ys j h) (j, thing_of c ys x)) (sym w) (has_one (j, thing_of c ys x)))
  goal_linked (AnEqual f g) x (inr w) =
      Contains-append_right (side_edges c ys j f) (side_edges c ys j g) (j, thing_of c ys x) (subst (λ (h : Form). Contains (side_edges c ys j h) (j, thing_of c ys x)) (sym w) (has_one (j, thing_of c ys x)))

  -- ---- variables that were met

  below_met : (f : Form) (p : Place) → Contains (below d f) p → Contains (side_met d f) p
  below_met (Variable x) p h = absurd (none_in p h)
  below_met (Integer z) p h = h
  below_met (Name n fs) p h = h
  below_met (Closed fs) p h = h
  below_met (Open fs f) p h = h
  below_met (Not f) p h = h
  below_met (And fs) p h = h
  below_met (Xor fs) p h = h
  below_met (Or fs) p h = h

  pub place_met : (g : FormGoal) (p : Place) → Contains (goal_places d g) p → Contains (goal_met d j g) p
  place_met (ACall f) p h = h
  place_met (AnEqual f g) p h = step (Contains-append_cases (below d f) (below d g) p h)
    where
      step : Contains (below d f) p ⊎ Contains (below d g) p → Contains (side_met d f ++ side_met d g) p
      step (inl k) = Contains-append_left (side_met d f) (side_met d g) p (below_met f p k)
      step (inr k) = Contains-append_right (side_met d f) (side_met d g) p (below_met g p k)

  pub side_is_met : (g : FormGoal) (x : Text) → HasSide g (Variable x) → Contains (goal_met d j g) (sort.Bool, Variable x)
  side_is_met (ACall f) x w = absurd w
  side_is_met (AnEqual f g) x (inl w) =
      Contains-append_left (side_met d f) (side_met d g) (sort.Bool, Variable x) (subst (λ (h : Form). Contains (side_met d h) (sort.Bool, Variable x)) (sym w) (has_one {X = Place} (sort.Bool, Variable x)))
  side_is_met (AnEqual f g) x (inr w) =
      Contains-append_right (side_met d f) (side_met d g) (sort.Bool, Variable x) (subst (λ (h : Form). Contains (side_met d h) (sort.Bool, Variable x)) (sym w) (has_one {X = Place} (sort.Bool, Variable x)))

-- ---- 0 and 1

bit_has : (j : ℕ) (b : Bool) (k : ℕ) → Contains (bit_at j b) k → (b ≡ true) × (k ≡ j)
bit_has j true k h = (refl, sym (one_in j k h))
bit_has j false k h = absurd (none_in k h)

pub goal_bit : (j : ℕ) (g : FormGoal) (k : ℕ) → Contains (goal_bits j g) k → (f : Form) × HasSide g f × (is_bit f ≡ true) × (k ≡ j)
goal_bit j (ACall f) k h = absurd (none_in k h)
goal_bit j (AnEqual f g) k h = step (Contains-append_cases (side_bits j f) (side_bits j g) k h)
  where
    step : Contains (side_bits j f) k ⊎ Contains (side_bits j g) k → (h : Form) × HasSide (AnEqual f g) h × (is_bit h ≡ true) × (k ≡ j)
    step (inl c) = let w = bit_has j (is_bit f) k c in (f, inl refl, w.0, w.1)
    step (inr c) = let w = bit_has j (is_bit g) k c in (g, inr refl, w.0, w.1)

pub goal_bit_noted : (j : ℕ) (g : FormGoal) (f : Form) → HasSide g f → is_bit f ≡ true → Contains (goal_bits j g) j
goal_bit_noted j (ACall f) h w e = absurd w
goal_bit_noted j (AnEqual f g) h (inl w) e = Contains-append_left (side_bits j f) (side_bits j g) j (subst (λ (b : Bool). Contains (bit_at j b) j) (sym (ap is_bit w ∙ e)) (has_one j))
goal_bit_noted j (AnEqual f g) h (inr w) e = Contains-append_right (side_bits j f) (side_bits j g) j (subst (λ (b : Bool). Contains (bit_at j b) j) (sym (ap is_bit w ∙ e)) (has_one j))
