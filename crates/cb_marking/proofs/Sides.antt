-- What a walk over written goals says of the same goals with each `_` renamed.
use Rattle.std.proofs.Common.{◌≡◌, ℕ, suc, Bool, true, false, ◌&&◌, List, [], ◌∷◌, ◌++◌, length, Option, refl, sym, ◌∙◌, ap, subst}
use Rattle.std.specs.List.{list_all}
use Rattle.std.proofs.lemmas.List.{append-nil}
use Rattle.std.proofs.lemmas.Bool.{and_parts}
use Rattle.cb_model.specs.Text.{Text}
use Rattle.cb_model.specs.declared.Sort.{Sort}
use Rattle.cb_model.specs.declared.Sort.TheVariants as sort
use Rattle.cb_model.specs.Grammar.{Form, Forms, Variable, Integer, Name, Closed, Open, Not, And, Xor, Or, Last, More, FormGoal, ACall, AnEqual}
use Rattle.cb_model.specs.Directives.{Sign, Declared, sorts_of}
use Rattle.cb_model.specs.Sorts.{Place, apart, apart_all, apart_goal, apart_goals, form_sort, below, call_places, goal_places, goals_places}
use Rattle.cb_model.specs.Loading.{variables_of, variables_in, goals_variables}
use Rattle.cb_model.specs.Written.{is_name, is_written, goal_written}
use Rattle.cb_marking.specs.declared.walk.Walk.{Walk}
use Rattle.cb_marking.specs.Places.{is_bit}
use Rattle.cb_marking.specs.Walk.{fresh, name_at, own_after, thing_of, side_walked, goal_walked, goals_walked, noted, gave_some, walked, all_fit}
use Rattle.cb_marking.proofs.Left.{all_fit-append}
use Rattle.cb_marking.proofs.Follows.{Follows, Follows-none, Follows-same, Follows-then, Follows-link, Follows-note, renamed_is, numbered, given_some, bit_at}
use Rattle.cb_marking.proofs.Apart.{is_var, Renames, below_renames, call_renames}

-- ---- what sides and goals give, once renamed

abbrev pub side_given : Declared → ℕ → List Text → ℕ → Form → List (ℕ × Sort)
side_given d c ys j g = given_some j (form_sort d.constants g) ++ numbered c ys (below d g)

abbrev pub side_edges : ℕ → List Text → ℕ → Form → List (ℕ × ℕ)
side_edges c ys j (Variable x) = (j, thing_of c ys x) ∷ []
side_edges c ys j _ = []

abbrev pub side_bits : ℕ → Form → List ℕ
side_bits j g = bit_at j (is_bit g)

abbrev pub side_met : Declared → Form → List Place
side_met d (Variable x) = (sort.Bool, Variable x) ∷ []
side_met d g = below d g

abbrev pub goal_given : Declared → ℕ → List Text → ℕ → FormGoal → List (ℕ × Sort)
goal_given d c ys j (ACall f) = numbered c ys (call_places d f)
goal_given d c ys j (AnEqual f g) = side_given d c ys j f ++ side_given d c ys j g

abbrev pub goal_edges : ℕ → List Text → ℕ → FormGoal → List (ℕ × ℕ)
goal_edges c ys j (ACall f) = []
goal_edges c ys j (AnEqual f g) = side_edges c ys j f ++ side_edges c ys j g

abbrev pub goal_bits : ℕ → FormGoal → List ℕ
goal_bits j (ACall f) = []
goal_bits j (AnEqual f g) = side_bits j f ++ side_bits j g

abbrev pub goal_met : Declared → ℕ → FormGoal → List Place
goal_met d j (ACall f) = call_places d f
goal_met d j (AnEqual f g) = side_met d f ++ side_met d g

-- the lists of goals one after another, numbered from j on
abbrev pub each : {A : Type 0} → (ℕ → FormGoal → List A) → ℕ → List FormGoal → List A
each F j [] = []
each F j (g ∷ gs) = F j g ++ each F (suc j) gs

abbrev pub goal_variables : List Text → FormGoal → List Text
goal_variables xs (ACall f) = variables_of xs f
goal_variables xs (AnEqual f g) = variables_of (variables_of xs f) g

pub goals_variables-cons : (xs : List Text) (g : FormGoal) (gs : List FormGoal) → goals_variables xs (g ∷ gs) ≡ goals_variables (goal_variables xs g) gs
goals_variables-cons xs (ACall f) gs = refl
goals_variables-cons xs (AnEqual f g) gs = refl

module _ (d : Declared) (counted : (a : Sign) → length (sorts_of d a) ≡ a.1) where
  abbrev SideOf : Form → ℕ → Walk → ℕ → List Text → Type 0
  SideOf f j w k xs =
      Follows w (side_walked d w j f) (apart f k).1 (variables_of xs (apart f k).0) (λ ys. side_given d w.goals ys j (apart f k).0) (λ ys. side_edges w.goals ys j (apart f k).0) (side_bits j (apart f k).0) (side_met d (apart f k).0)

  side_variable : (x : Text) (j : ℕ) (w : Walk) (k : ℕ) (xs : List Text) → w.own ≡ k → w.variables ≡ xs → SideOf (Variable x) j w k xs
  side_variable x j w k xs a b =
      subst
      (λ (r : Form × ℕ). Follows w (side_walked d w j (Variable x)) r.1 (variables_of xs r.0) (λ ys. side_given d w.goals ys j r.0) (λ ys. side_edges w.goals ys j r.0) (side_bits j r.0) (side_met d r.0))
      (sym (renamed_is k x))
      (subst
      (λ (l : List Text). Follows w (side_walked d w j (Variable x)) (own_after k x) (variables_of l (Variable (name_at k x))) (λ _. []) (λ ys. (j, thing_of w.goals ys (name_at k x)) ∷ []) [] ((sort.Bool, Variable (name_at k x)) ∷ [])) b
      (subst
      (λ i. Follows w (side_walked d w j (Variable x)) (own_after i x) (variables_of w.variables (Variable (name_at i x))) (λ _. []) (λ ys. (j, thing_of w.goals ys (name_at i x)) ∷ []) [] ((sort.Bool, Variable (name_at i x)) ∷ [])) a
      (Follows-link w x j)))

  side_plain : (w : Walk) (j k : ℕ) (xs : List Text) (o : Option Sort) (bit : Bool) → w.own ≡ k → w.variables ≡ xs → (raw : List Place) (l : ℕ) (zs : List Text) (ps : List Place) →
      Renames d (noted bit (gave_some w j o) j) raw l zs ps → Follows w (walked (noted bit (gave_some w j o) j) raw) l zs (λ ys. given_some j o ++ numbered w.goals ys ps) (λ _. []) (bit_at j bit) ps
  side_plain w j k xs o bit a b raw l zs ps r =
      let v = noted bit (gave_some w j o) j in
      let n = Follows-note w j k xs o bit a b in
      Follows-same w (walked v raw) l zs (λ ys. given_some j o ++ numbered v.goals ys ps) (λ ys. given_some j o ++ numbered w.goals ys ps) (λ _. []) (λ _. []) (bit_at j bit ++ []) (bit_at j bit) ps
      (Follows-then w v (walked v raw) k l xs zs (λ _. given_some j o) (λ ys. numbered v.goals ys ps) (λ _. []) (λ _. []) (bit_at j bit) [] [] ps n r.follows)
      (λ ys. ap (λ c. given_some j o ++ numbered c ys ps) n.goals) (λ ys. refl) (append-nil (bit_at j bit))

  -- a side that is no variable
  side_other : (f : Form) → is_var f ≡ false → (j : ℕ) (w : Walk) (k : ℕ) (xs : List Text) → w.own ≡ k → w.variables ≡ xs →
      Follows w (walked (noted (is_bit f) (gave_some w j (form_sort d.constants f)) j) (below d f)) (apart f k).1 (variables_of xs (apart f k).0) (λ ys. given_some j (form_sort d.constants f) ++ numbered w.goals ys (below d (apart f k).0)) (λ _. []) (bit_at j (is_bit f)) (below d (apart f k).0)
  side_other f plain j w k xs a b =
      let o = form_sort d.constants f in
      let v = noted (is_bit f) (gave_some w j o) j in
      let n = Follows-note w j k xs o (is_bit f) a b in
      side_plain w j k xs o (is_bit f) a b (below d f) (apart f k).1 (variables_of xs (apart f k).0) (below d (apart f k).0) (below_renames d counted f plain v k xs n.own n.variables)

  name_sort : (n : Text) (fs : Forms) (k : ℕ) → form_sort d.constants (Name n fs) ≡ form_sort d.constants (Name n (apart_all fs k).0)
  name_sort n Last k = refl
  name_sort n (More f fs) k = refl

  pub side_follows : (f : Form) (j : ℕ) (w : Walk) (k : ℕ) (xs : List Text) → w.own ≡ k → w.variables ≡ xs → SideOf f j w k xs
  side_follows (Variable x) j w k xs a b = side_variable x j w k xs a b
  side_follows (Integer z) j w k xs a b = side_other (Integer z) refl j w k xs a b
  side_follows (Name n fs) j w k xs a b =
      let g = Name n (apart_all fs k).0 in
      Follows-same w (side_walked d w j (Name n fs)) (apart_all fs k).1 (variables_in xs (apart_all fs k).0) (λ ys. given_some j (form_sort d.constants (Name n fs)) ++ numbered w.goals ys (below d g)) (λ ys. side_given d w.goals ys j g) (λ _. []) (λ _. []) [] [] (below d g)
      (side_other (Name n fs) refl j w k xs a b) (λ ys. ap (λ (o : Option Sort). given_some j o ++ numbered w.goals ys (below d g)) (name_sort n fs k)) (λ ys. refl) refl
  side_follows (Closed fs) j w k xs a b = side_other (Closed fs) refl j w k xs a b
  side_follows (Open fs f) j w k xs a b = side_other (Open fs f) refl j w k xs a b
  side_follows (Not f) j w k xs a b = side_other (Not f) refl j w k xs a b
  side_follows (And fs) j w k xs a b = side_other (And fs) refl j w k xs a b
  side_follows (Xor fs) j w k xs a b = side_other (Xor fs) refl j w k xs a b
  side_follows (Or fs) j w k xs a b = side_other (Or fs) refl j w k xs a b

  -- ---- goals

  abbrev GoalOf : FormGoal → FormGoal → ℕ → ℕ → Walk → List Text → Type 0
  GoalOf g h l j w xs = Follows w (goal_walked d w j g) l (goal_variables xs h) (λ ys. goal_given d w.goals ys j h) (λ ys. goal_edges w.goals ys j h) (goal_bits j h) (goal_met d j h)

  pub goal_follows : (g : FormGoal) → goal_written g ≡ true → (j : ℕ) (w : Walk) (k : ℕ) (xs : List Text) → w.own ≡ k → w.variables ≡ xs → GoalOf g (apart_goal g k).0 (apart_goal g k).1 j w xs
  goal_follows (ACall f) h j w k xs a b = (call_renames d counted f (and_parts (is_name f) (is_written f) h).0 w k xs a b).follows
  goal_follows (AnEqual f g) h j w k xs a b =
      let v = side_walked d w j f in
      let i = (apart f k).1 in
      let zs = variables_of xs (apart f k).0 in
      let p = side_follows f j w k xs a b in
      let q = side_follows g j v i zs p.own p.variables in
      let x = (apart f k).0 in
      let y = (apart g i).0 in
      let u = side_walked d v j g in
      Follows-same w u (apart g i).1 (variables_of zs y) (λ ys. side_given d w.goals ys j x ++ side_given d v.goals ys j y) (λ ys. side_given d w.goals ys j x ++ side_given d w.goals ys j y)
      (λ ys. side_edges w.goals ys j x ++ side_edges v.goals ys j y) (λ ys. side_edges w.goals ys j x ++ side_edges w.goals ys j y) (side_bits j x ++ side_bits j y) (side_bits j x ++ side_bits j y) (side_met d x ++ side_met d y)
      (Follows-then w v u i (apart g i).1 zs (variables_of zs y) (λ ys. side_given d w.goals ys j x) (λ ys. side_given d v.goals ys j y) (λ ys. side_edges w.goals ys j x) (λ ys. side_edges v.goals ys j y) (side_bits j x) (side_bits j y) (side_met d x) (side_met d y) p q)
      (λ ys. ap (λ c. side_given d w.goals ys j x ++ side_given d c ys j y) p.goals) (λ ys. ap (λ c. side_edges w.goals ys j x ++ side_edges c ys j y) p.goals) refl

  abbrev GoalsOf : List FormGoal → List FormGoal → ℕ → ℕ → Walk → List Text → Type 0
  GoalsOf gs hs l j w xs =
      Follows w (goals_walked d w j gs) l (goals_variables xs hs) (λ ys. each (goal_given d w.goals ys) j hs) (λ ys. each (goal_edges w.goals ys) j hs) (each goal_bits j hs) (each (goal_met d) j hs)

  pub goals_follow : (gs : List FormGoal) → list_all goal_written gs ≡ true → (j : ℕ) (w : Walk) (k : ℕ) (xs : List Text) → w.own ≡ k → w.variables ≡ xs → (l : ℕ) × GoalsOf gs (apart_goals gs k) l j w xs
  goals_follow [] h j w k xs a b = (k, Follows-none w k xs a b)
  goals_follow (g ∷ gs) h j w k xs a b =
      let hp = and_parts (goal_written g) (list_all goal_written gs) h in
      let v = goal_walked d w j g in
      let x = (apart_goal g k).0 in
      let i = (apart_goal g k).1 in
      let zs = goal_variables xs x in
      let p : GoalOf g x i j w xs = goal_follows g hp.0 j w k xs a b in
      let r = goals_follow gs hp.1 (suc j) v i zs p.own p.variables in
      let ys' = apart_goals gs i in
      let u = goals_walked d v (suc j) gs in
      let t : Follows w u r.0 (goals_variables zs ys') (λ ys. goal_given d w.goals ys j x ++ each (goal_given d w.goals ys) (suc j) ys') (λ ys. goal_edges w.goals ys j x ++ each (goal_edges w.goals ys) (suc j) ys') (goal_bits j x ++ each goal_bits (suc j) ys') (goal_met d j x ++ each (goal_met d) (suc j) ys') =
      Follows-same w u r.0 (goals_variables zs ys') (λ ys. goal_given d w.goals ys j x ++ each (goal_given d v.goals ys) (suc j) ys') (λ ys. goal_given d w.goals ys j x ++ each (goal_given d w.goals ys) (suc j) ys')
      (λ ys. goal_edges w.goals ys j x ++ each (goal_edges v.goals ys) (suc j) ys') (λ ys. goal_edges w.goals ys j x ++ each (goal_edges w.goals ys) (suc j) ys') (goal_bits j x ++ each goal_bits (suc j) ys') (goal_bits j x ++ each goal_bits (suc j) ys') (goal_met d j x ++ each (goal_met d) (suc j) ys')
      (Follows-then w v u i r.0 zs (goals_variables zs ys') (λ ys. goal_given d w.goals ys j x) (λ ys. each (goal_given d v.goals ys) (suc j) ys') (λ ys. goal_edges w.goals ys j x) (λ ys. each (goal_edges v.goals ys) (suc j) ys') (goal_bits j x) (each goal_bits (suc j) ys') (goal_met d j x) (each (goal_met d) (suc j) ys') p r.1)
      (λ ys. ap (λ c. goal_given d w.goals ys j x ++ each (goal_given d c ys) (suc j) ys') p.goals) (λ ys. ap (λ c. goal_edges w.goals ys j x ++ each (goal_edges c ys) (suc j) ys') p.goals) refl in (
        r.0,
        subst (λ (l : List Text). Follows w u r.0 l (λ ys. goal_given d w.goals ys j x ++ each (goal_given d w.goals ys) (suc j) ys') (λ ys. goal_edges w.goals ys j x ++ each (goal_edges w.goals ys) (suc j) ys') (goal_bits j x ++ each goal_bits (suc j) ys') (goal_met d j x ++ each (goal_met d) (suc j) ys'))
            (sym (goals_variables-cons xs x ys')) t,
      )

  -- ---- what fits, also fits once renamed

  fits_below : (f : Form) (k : ℕ) → all_fit d (below d f) ≡ all_fit d (below d (apart f k).0)
  fits_below (Variable x) k = sym (ap (λ (r : Form × ℕ). all_fit d (below d r.0)) (renamed_is k x))
  fits_below (Integer z) k = refl
  fits_below (Name n fs) k = (below_renames d counted (Name n fs) refl (record (fresh 0) { own = k }) k [] refl refl).fits
  fits_below (Closed fs) k = (below_renames d counted (Closed fs) refl (record (fresh 0) { own = k }) k [] refl refl).fits
  fits_below (Open fs g) k = (below_renames d counted (Open fs g) refl (record (fresh 0) { own = k }) k [] refl refl).fits
  fits_below (Not g) k = (below_renames d counted (Not g) refl (record (fresh 0) { own = k }) k [] refl refl).fits
  fits_below (And fs) k = (below_renames d counted (And fs) refl (record (fresh 0) { own = k }) k [] refl refl).fits
  fits_below (Xor fs) k = (below_renames d counted (Xor fs) refl (record (fresh 0) { own = k }) k [] refl refl).fits
  fits_below (Or fs) k = (below_renames d counted (Or fs) refl (record (fresh 0) { own = k }) k [] refl refl).fits

  pub fits_call : (f : Form) → is_name f ≡ true → (k : ℕ) → all_fit d (call_places d f) ≡ all_fit d (call_places d (apart f k).0)
  fits_call f h k = (call_renames d counted f h (record (fresh 0) { own = k }) k [] refl refl).fits

  fits_goal : (g : FormGoal) → goal_written g ≡ true → (k : ℕ) → all_fit d (goal_places d g) ≡ all_fit d (goal_places d (apart_goal g k).0)
  fits_goal (ACall f) h k = fits_call f (and_parts (is_name f) (is_written f) h).0 k
  fits_goal (AnEqual f g) h k =
      let i = (apart f k).1 in
      all_fit-append d (below d f) (below d g) ∙ (λ j. fits_below f k j && fits_below g i j) ∙ sym (all_fit-append d (below d (apart f k).0) (below d (apart g i).0))

  pub fits_goals : (gs : List FormGoal) → list_all goal_written gs ≡ true → (k : ℕ) → all_fit d (goals_places d gs) ≡ all_fit d (goals_places d (apart_goals gs k))
  fits_goals [] h k = refl
  fits_goals (g ∷ gs) h k =
      let hp = and_parts (goal_written g) (list_all goal_written gs) h in
      let i = (apart_goal g k).1 in
      all_fit-append d (goal_places d g) (goals_places d gs) ∙ (λ j. fits_goal g hp.0 k j && fits_goals gs hp.1 i j) ∙ sym (all_fit-append d (goal_places d (apart_goal g k).0) (goals_places d (apart_goals gs i)))
