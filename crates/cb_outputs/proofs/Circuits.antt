-- The circuits of an accepted program's goals are there.
use Rattle.std.proofs.Common.{◌≡◌, inl, inr, ℕ, zero, suc, ◌+◌, ◌<◌, Bool, true, false, not, ◌||◌, cond, List, [], ◌∷◌, ◌++◌, map, length, refl, sym, ◌∙◌, ap, subst, arith, length-append}
use Rattle.std.specs.Prelude.{Option, Some, None, slice_get, unwrap_or, position, codes, if◌then◌else◌}
use Rattle.std.specs.List.{list_any}
use Rattle.cb_model.specs.Bits.{Each}
use Rattle.cb_model.specs.Text.{Text}
use Rattle.cb_model.specs.declared.Goal.{Goal}
use Rattle.cb_model.specs.declared.Goal.TheVariants as goal
use Rattle.cb_model.specs.declared.Circuit.{Circuit}
use Rattle.cb_model.specs.Grammar.{Form, Forms, Variable, Integer, Name, Closed, Open, Not, And, Xor, Or, Last, More, FormGoal, ACall, AnEqual, FormClause, Directive, Rule}
use Rattle.cb_model.specs.Directives.{Sign, same_sign, has_sign, count_of, Declared, sorts_of}
use Rattle.cb_model.specs.Sorts.{Body, Numbering, apart, circuit_sign, sign_number, as_trees}
use Rattle.cb_model.specs.Loading.{sign_is, module_sign, spec_sign, first_atom, module_names, names_it, names_module, module_number, plain_goals, is_unknown, goal_unknown, circuit_goal, call_goal, IsGoal, a_call, an_equal, AreGoals, no_goals, more_goals}
use Rattle.cb_model.specs.Facts.{Circuits, FactRefusal, a_module, a_spec, FactsRead, no_facts, no_fact, a_fact, refused}
use Rattle.cb_model.specs.Circuits.{flat}
use Rattle.cb_model.specs.Program.{Program}
use Rattle.cb_laws.proofs.Listed.{or_cases}
use Rattle.cb_laws.proofs.OneFacts.{arguments, sign-arguments, module-arguments, spec-arguments}
use Rattle.cb_laws.proofs.SortedTrees.{behind, position-cons}
use Rattle.cb_outputs.specs.Exists.{HasCircuit}

-- ---- as many flattened modules as module facts

or_false : (a b : Bool) → (a || b) ≡ false → (a ≡ false) × (b ≡ false)
or_false true b h = absurd (cc)
or_false false b h = (refl, h)

names_skip : (n : ℕ) (f : Form) (b : Bool) (gs : List FormGoal) (cs : List FormClause) → sign_is module_sign f ≡ false → length (module_names (Rule n f b gs ∷ cs)) ≡ length (module_names cs)
names_skip n f b gs cs e = ap (λ (x : Bool). length (if x then first_atom f ∷ module_names cs else module_names cs)) e

names_take : (n : ℕ) (f : Form) (b : Bool) (gs : List FormGoal) (cs : List FormClause) → sign_is module_sign f ≡ true → length (module_names (Rule n f b gs ∷ cs)) ≡ suc (length (module_names cs))
names_take n f b gs cs e = ap (λ (x : Bool). length (if x then first_atom f ∷ module_names cs else module_names cs)) e

not_spec : (f : Form) → arguments (apart f 0).0 ≡ 4 → sign_is spec_sign f ≡ true → ⊥
not_spec f e h = let k : arguments (apart f 0).0 ≡ 3 = sign-arguments spec_sign f h in let z : 4 ≡ 3 = sym e ∙ k in absurd (omega (arith, z))

module_is : (f : Form) → arguments (apart f 0).0 ≡ 4 → (sign_is module_sign f || sign_is spec_sign f) ≡ true → sign_is module_sign f ≡ true
module_is f e h = elim (or_cases (sign_is module_sign f) (sign_is spec_sign f) h) [ inl k ↦ k | inr k ↦ absurd (not_spec f e k) ]

spec_is : (f : Form) → arguments (apart f 0).0 ≡ 3 → sign_is module_sign f ≡ false
spec_is f e = step (sign_is module_sign f) refl
  where
    step : (x : Bool) → sign_is module_sign f ≡ x → sign_is module_sign f ≡ false
    step false h = h
    step true h = let k : arguments (apart f 0).0 ≡ 4 = sign-arguments module_sign f h in let z : 3 ≡ 4 = sym e ∙ k in absurd (omega (arith, z))

pub flats_count : (c c' : Circuits) (cs : List FormClause) (r : Option (FactRefusal × ℕ)) → r ≡ None → FactsRead c cs r c' → length c'.flats ≡ length c.flats + length (module_names cs)
flats_count c c' [] r e no_facts = omega arith
flats_count c c' (Directive n x fs ∷ cs) r e (no_fact k h) = flats_count c c' cs r e h
flats_count c c' (Rule n f b gs ∷ cs) r e (no_fact k h) =
    let i = names_skip n f b gs cs (or_false (sign_is module_sign f) (sign_is spec_sign f) k).0 in
    let j = flats_count c c' cs r e h in
    omega (arith, i, j)
flats_count c c' (Directive n x fs ∷ cs) r e (a_fact d k h rest) = absurd (cc)
flats_count c c' (Rule n f b gs ∷ cs) r e (a_fact d k (a_module m q i u v) rest) =
    let t = names_take n f b gs cs (module_is f (module-arguments (apart f 0).0 m i) k) in
    let j = flats_count d c' cs r e rest in
    let l : length d.flats ≡ length (c.flats ++ flat c.flats m ∷ []) = ap (λ (x : Circuits). length x.flats) v in
    let s = length-append c.flats (flat c.flats m ∷ []) in
    omega (arith, t, j, l, s)
flats_count c c' (Rule n f b gs ∷ cs) r e (a_fact d k (a_spec s q i u v) rest) =
    let t = names_skip n f b gs cs (spec_is f (spec-arguments (apart f 0).0 s i)) in
    let j = flats_count d c' cs r e rest in
    let l : length d.flats ≡ length c.flats = ap (λ (x : Circuits). length x.flats) v in
    omega (arith, t, j, l)
flats_count c c' (Rule n f b gs ∷ cs) r e (refused k h) = absurd (cc)

-- ---- a module that is named has a circuit

position_found : {A : Type 0} (q : A → Bool) (xs : List A) → list_any q xs ≡ true → (k : ℕ) × (position q xs ≡ Some k) × (k < length xs)
position_found q [] h = absurd (cc)
position_found q (x ∷ xs) h = step (q x) refl h (λ e. position_found q xs e)
  where
    step : (c : Bool) → q x ≡ c → (c || list_any q xs) ≡ true → (list_any q xs ≡ true → (k : ℕ) × (position q xs ≡ Some k) × (k < length xs)) →
        (k : ℕ) × (position q (x ∷ xs) ≡ Some k) × (k < length (x ∷ xs))
    step true e h go = (0, position-cons q x xs ∙ ap (λ (b : Bool). cond b (Some 0) (behind (position q xs))) e, omega arith)
    step false e h go =
        let r = go h in
        (1 + r.0, position-cons q x xs ∙ ap (λ (b : Bool). cond b (Some 0) (behind (position q xs))) e ∙ ap behind r.1, (let l = r.2 in omega (arith, l)))

slice_there : {A : Type 0} (xs : List A) (k : ℕ) → k < length xs → (x : A) × (slice_get xs k ≡ Some x)
slice_there [] k l = absurd (omega (arith, l))
slice_there (x ∷ xs) zero l = (x, refl)
slice_there (x ∷ xs) (suc k) l = slice_there xs k (omega (arith, l))

not_false : (x : Bool) → not x ≡ false → x ≡ true
not_false true h = refl
not_false false h = absurd (cc)

module _ (p : Program) (d : Declared) (hs : List Sign) (ms : List (Option Text)) (count : length p.circuits ≡ length ms) where
  at_number : (y : Text) → names_module ms (Some y) ≡ true → (c : Circuit) × (slice_get p.circuits (unwrap_or (module_number ms y) 0) ≡ Some c)
  at_number y h =
      let r = position_found (names_it y) ms h in
      let c = slice_there p.circuits r.0 (let l = r.2 in omega (arith, l, count)) in
      (c.0, ap (λ (o : Option ℕ). slice_get p.circuits (unwrap_or o 0)) r.1 ∙ c.1)

  circuit_has : (n : Numbering) (x : Text) (fs : Forms) → names_module ms (first_atom (Name x fs)) ≡ true → HasCircuit p (circuit_goal d n ms (Name x fs))
  circuit_has n x Last h = tt
  circuit_has n x (More m Last) h = tt
  circuit_has n x (More m (More ins Last)) h = tt
  circuit_has n x (More (Name y Last) (More ins (More outs Last))) h = at_number y h
  circuit_has n x (More (Name y (More f fs)) (More ins (More outs Last))) h = absurd (cc)
  circuit_has n x (More (Variable y) (More ins (More outs Last))) h = absurd (cc)
  circuit_has n x (More (Integer z) (More ins (More outs Last))) h = absurd (cc)
  circuit_has n x (More (Closed fs) (More ins (More outs Last))) h = absurd (cc)
  circuit_has n x (More (Open fs f) (More ins (More outs Last))) h = absurd (cc)
  circuit_has n x (More (Not f) (More ins (More outs Last))) h = absurd (cc)
  circuit_has n x (More (And fs) (More ins (More outs Last))) h = absurd (cc)
  circuit_has n x (More (Xor fs) (More ins (More outs Last))) h = absurd (cc)
  circuit_has n x (More (Or fs) (More ins (More outs Last))) h = absurd (cc)
  circuit_has n x (More m (More ins (More outs (More f fs)))) h = tt

  name_has : (n : Numbering) (x : Text) (fs : Forms) (a : Sign) (t f c rest : Bool) → (if c then not (names_module ms (first_atom (Name x fs))) else rest) ≡ false →
      HasCircuit p (if t then goal.True else (if f then goal.Fail else (if c then circuit_goal d n ms (Name x fs) else goal.Call (sign_number n.names a) (as_trees d n (sorts_of d a) fs))))
  name_has n x fs a true f c rest h = tt
  name_has n x fs a false true c rest h = tt
  name_has n x fs a false false true rest h = circuit_has n x fs (not_false _ h)
  name_has n x fs a false false false rest h = tt

  call_has : (n : Numbering) (f : Form) → is_unknown d hs ms f ≡ false → HasCircuit p (call_goal d n ms f)
  call_has n (Variable x) h = absurd (cc)
  call_has n (Integer z) h = absurd (cc)
  call_has n (Closed fs) h = absurd (cc)
  call_has n (Open fs f) h = absurd (cc)
  call_has n (Not f) h = absurd (cc)
  call_has n (And fs) h = absurd (cc)
  call_has n (Xor fs) h = absurd (cc)
  call_has n (Or fs) h = absurd (cc)
  call_has n (Name x fs) h =
      let a : Sign = (x, count_of fs) in
      name_has n x fs a (same_sign a (codes "true", 0)) (same_sign a (codes "fail", 0)) (same_sign a circuit_sign)
      (same_sign a module_sign || same_sign a spec_sign || not (has_sign plain_goals a || has_sign hs a || has_sign (map (λ e. e.0) d.sorts) a)) h

  goal_has : (b : Body) (n : Numbering) (k : ℕ) (f : FormGoal) (g : Goal) → goal_unknown d hs ms f ≡ false → IsGoal d b n ms k f g → HasCircuit p g
  goal_has b n k (ACall f) g h (a_call e) = subst (HasCircuit p) (sym e) (call_has n f h)
  goal_has b n k (AnEqual l r) g h (an_equal s m e) = subst (HasCircuit p) (sym e) tt

  pub goals_have : (b : Body) (n : Numbering) (k : ℕ) (fs : List FormGoal) (gs : List Goal) → list_any (goal_unknown d hs ms) fs ≡ false → AreGoals d b n ms k fs gs → Each (HasCircuit p) gs
  goals_have b n k fs gs h no_goals = tt
  goals_have b n k (f ∷ fs) (g ∷ gs) h (more_goals i r) =
      let q = or_false (goal_unknown d hs ms f) (list_any (goal_unknown d hs ms) fs) h in
      (goal_has b n k f g q.0 i, goals_have b n (suc k) fs gs q.1 r)
