-- A step has one outcome.
use Rattle.std.proofs.Common.{◌≡◌, ℕ, ◌<◌, Bool, true, false, List, [], ◌∷◌, ◌++◌, map, ◌+◌, refl, sym, ◌∙◌, ap, subst, inl, inr, arith}
use Rattle.std.specs.Prelude.{Option, Some, None, slice_get, MatchBool}
use Rattle.cb_model.specs.Bits.{Parts, none, yes_here, no_here}
use Rattle.cb_model.specs.declared.Tree.{Tree}
use Rattle.cb_model.specs.declared.Goal.{Goal}
use Rattle.cb_model.specs.declared.Goal.TheVariants as goal
use Rattle.cb_model.specs.Values.{World}
use Rattle.cb_model.specs.Equations.{Item, Solvable, Refuted}
use Rattle.cb_model.specs.Program.{Program}
use Rattle.cb_model.specs.Derivation.{RuleMatches, Ready, is_demon, Waiting, Branch, Entry, Run, Try, Change, Answered, Dropped, Becomes, Adds, DemonMoves, CallMoves, GoalMoves, RunMoves, Moves, Woken, Replaces, Step, resolved, event_of, Goes, here, on, Ends, whole, stops, Stopped, End, Note, notes_of, stop_of, resolutions_of, Plain, runs, stopped, SoFar, Made, first_branch, passed}
use Rattle.cb_laws.specs.Laws.{StepDetermined, RunDetermined}

-- a list is parted in one way
parts_one : {A : Type 0} {P : A → Type 0} {xs ys zs ys' zs' : List A} → Parts P xs ys zs → Parts P xs ys' zs' → (ys ≡ ys') × (zs ≡ zs')
parts_one none none = (refl, refl)
parts_one (yes_here {x = x} p h) (yes_here p' h') = let e = parts_one h h' in (ap (λ l. x ∷ l) e.0, e.1)
parts_one (yes_here p h) (no_here n h') = absurd (n p)
parts_one (no_here n h) (yes_here p h') = absurd (n p)
parts_one (no_here {x = x} n h) (no_here n' h') = let e = parts_one h h' in (e.0, ap (λ l. x ∷ l) e.1)

some_one : {A : Type 0} (o : Option A) (x y : A) → o ≡ Some x → o ≡ Some y → x ≡ y
some_one o x y e f = cc

solvable_not_refuted : (t : World) (es : List Item) → Solvable t es → Refuted t es → ⊥
solvable_not_refuted t es s r = r.none (s r.a r.admitted).b (s r.a r.admitted).sorted (s r.a r.admitted).sat

woken_one : (p : Program) (b b₁ b₂ : Branch) → Woken p b b₁ → Woken p b b₂ → b₁ ≡ b₂
woken_one p b b₁ b₂ w v =
    let e = parts_one w.parts v.parts in
    let f : record b { goals = map (λ w. w.goal) w.ready ++ b.goals; waiting = w.rest } ≡ record b { goals = map (λ w. w.goal) v.ready ++ b.goals; waiting = v.rest } =
    rw (e.0, e.1) in
    w.is ∙ f ∙ sym v.is

-- ---- what the top entry does

first_one : (P : ℕ → Type 0) (j k : ℕ) → P j → P k → ((i : ℕ) → i < j → P i → ⊥) → ((i : ℕ) → i < k → P i → ⊥) → j ≡ k
first_one P j k p q below_j below_k =
    let not_less : (j < k) → ⊥ = λ h. below_k j h p in
    let not_more : (k < j) → ⊥ = λ h. below_j k h q in
    omega arith

module _ (p : Program) (b : Branch) (pred : ℕ) (args : List Tree) where
  rule_at : (j k : ℕ) (r : RuleMatches p b.items pred args j) (s : RuleMatches p b.items pred args k) → j ≡ k → r.rule ≡ s.rule
  rule_at j k r s e = some_one (slice_get p.clauses k) r.rule s.rule (subst (λ i. slice_get p.clauses i ≡ Some r.rule) e r.is_rule) s.is_rule

  demon_one : (c d : Change) → DemonMoves p b pred args c → DemonMoves p b pred args d → c ≡ d
  demon_one c d (inl m) (inl n) =
      let e : m.0 ≡ n.0 = first_one (RuleMatches p b.items pred args) m.0 n.0 m.1 n.1 m.2 n.2 in
      m.3 ∙ ap (λ r. Adds 1 [] (resolved b pred args r)) (rule_at m.0 n.0 m.1 n.1 e) ∙ sym n.3
  demon_one c d (inl m) (inr n) = absurd (n.0 m.0 m.1)
  demon_one c d (inr m) (inl n) = absurd (m.0 n.0 n.1)
  demon_one c d (inr m) (inr n) = m.1 ∙ sym n.1

  call_one : (c d : Change) → CallMoves p b pred args c → CallMoves p b pred args d → c ≡ d
  call_one c d (inl m) (inl n) = m.1 ∙ sym n.1
  call_one c d (inl m) (inr n) = absurd (n.0 m.0)
  call_one c d (inr m) (inl n) = absurd (m.0 n.0)
  call_one c d (inr m) (inr n) = m.1 ∙ sym n.1

  either_one : (x : Bool) (c d : Change) → MatchBool x (DemonMoves p b pred args c) (CallMoves p b pred args c) → MatchBool x (DemonMoves p b pred args d) (CallMoves p b pred args d) → c ≡ d
  either_one true c d m n = demon_one c d m n
  either_one false c d m n = call_one c d m n

goal_one : (p : Program) (b : Branch) (g : Goal) (c d : Change) → GoalMoves p b g c → GoalMoves p b g d → c ≡ d
goal_one p b goal.True c d m n = m ∙ sym n
goal_one p b goal.Fail c d m n = m ∙ sym n
goal_one p b (goal.Equal l r) c d m n = m ∙ sym n
goal_one p b (goal.Circuit k i o) c d m n =
    m.2 ∙ ap (λ x. Adds 0 [] (Rattle.cb_model.specs.Derivation.with_circuit b x i o)) (some_one (slice_get p.circuits k) m.0 n.0 m.1 n.1) ∙ sym n.2
goal_one p b (goal.Call pred args) c d m n = either_one p b pred args (is_demon p pred) c d m n

run_one : (p : Program) (b : Branch) (gs : List Goal) (c d : Change) → RunMoves p b gs c → RunMoves p b gs d → c ≡ d
run_one p b [] c d m n = m ∙ sym n
run_one p b (g ∷ gs) c d m n = goal_one p (record b { goals = gs }) g c d m n

pub moves_one : (p : Program) (e : Entry) (c d : Change) → Moves p e c → Moves p e d → c ≡ d
moves_one p (Run b) c d m n = run_one p b b.goals c d m n
moves_one p (Try b pred args k) c d m n =
    m.2 ∙ ap (λ x. Adds 1 (Rattle.cb_model.specs.Derivation.try_next p b pred args k) (resolved b pred args x)) (some_one (slice_get p.clauses k) m.0 n.0 m.1 n.1) ∙ sym n.2

pub replaces_one : (p : Program) (c : Change) (es fs : List Entry) → Replaces p c es → Replaces p c fs → es ≡ fs
replaces_one p (Answered b) es fs m n = m ∙ sym n
replaces_one p Dropped es fs m n = m ∙ sym n
replaces_one p (Becomes e) es fs m n = m ∙ sym n
replaces_one p (Adds r below b) es fs (inl m) (inl n) =
    m.1.1.1 ∙ ap (λ x. Run x ∷ below) (woken_one p b m.1.0 n.1.0 m.1.1.0 n.1.1.0) ∙ sym n.1.1.1
replaces_one p (Adds r below b) es fs (inl m) (inr n) = absurd (solvable_not_refuted p.world b.items m.0 n.0)
replaces_one p (Adds r below b) es fs (inr m) (inl n) = absurd (solvable_not_refuted p.world b.items n.0 m.0)
replaces_one p (Adds r below b) es fs (inr m) (inr n) = m.1 ∙ sym n.1

pub step_determined : StepDetermined
step_determined p e s s₁ s₂ v₁ v₂ x y =
    let c : x.change ≡ y.change = moves_one p e x.change y.change x.moves y.moves in
    let es : x.entries ≡ y.entries = replaces_one p y.change x.entries y.entries (subst (λ k. Replaces p k x.entries) c x.replaces) y.replaces in
    (x.stack ∙ ap (λ l. l ++ s) es ∙ sym y.stack, x.gives ∙ ap event_of c ∙ sym y.gives)

-- a stack that has come to an end has no step
pub ends_no_step : (p : Program) (budget used : ℕ) (e : Entry) (s : List Entry) (end : End) (c : Change) → Ends p budget used (e ∷ s) end → Moves p e c → stop_of p budget used c ≡ None → ⊥
ends_no_step p budget used e s end c (stops {w = w} d m f) n g =
    let same : d ≡ c = moves_one p e d c m n in
    let h : stop_of p budget used c ≡ Some w = subst (λ k. stop_of p budget used k ≡ Some w) same f in
    cc

ends_one : (p : Program) (budget used : ℕ) (s : List Entry) (x y : End) → Ends p budget used s x → Ends p budget used s y → x ≡ y
ends_one p budget used [] x y whole whole = refl
ends_one p budget used (e ∷ s) x y (stops {w = w} c m f) (stops {w = v} d n g) =
    let h : stop_of p budget used d ≡ Some w = subst (λ k. stop_of p budget used k ≡ Some w) (moves_one p e c d m n) f in
    ap Stopped (some_one (stop_of p budget used d) w v h g)

-- a whole run has one list of notes and one end
pub runs_one : (p : Program) (budget used u v : ℕ) (s x y : List Entry) (ns ms : List Note) (a b : End) →
    Goes p budget used s ns u x → Ends p budget u x a → Goes p budget used s ms v y → Ends p budget v y b → (ns ≡ ms) × (a ≡ b)
runs_one p budget used u v s x y ns ms a b here e here f = (refl, ends_one p budget used s a b e f)
runs_one p budget used u v (t ∷ s) x y ns ms a b here e (on c es rest m f r i g) h = absurd (ends_no_step p budget used t s a c e m f)
runs_one p budget used u v (t ∷ s) x y ns ms a b (on c es rest m f r i g) e here h = absurd (ends_no_step p budget used t s b c h m f)
runs_one p budget used u v (t ∷ s) x y ns ms a b (on c es rest m f r i g) e (on d es' rest' m' f' r' i' g') h =
    let same : c ≡ d = moves_one p t c d m m' in
    let entries : es ≡ es' = replaces_one p d es es' (subst (λ k. Replaces p k es) same r) r' in
    let go : Goes p budget (used + resolutions_of d) (es' ++ s) rest u x = subst (λ k. Goes p budget (used + resolutions_of k) (es' ++ s) rest u x) same (subst (λ l. Goes p budget (used + resolutions_of c) (l ++ s) rest u x) entries g) in
    let both = runs_one p budget (used + resolutions_of d) u v (es' ++ s) x y rest rest' a b go e g' h in
    (i ∙ ap (λ k. notes_of k ++ rest) same ∙ ap (λ l. notes_of d ++ l) both.0 ∙ sym i', both.1)

-- the same of the run of a query
pub run_determined : RunDetermined
run_determined p q budget ns ms x y (runs u s f e) (runs v t g h) =
    let both = runs_one p budget 0 u v (Run (first_branch q) ∷ []) s t f.rest g.rest x y f.goes e g.goes h in
    (f.is ∙ ap (λ l. Made (first_branch q) ∷ l) both.0 ∙ sym g.is, both.1)
run_determined p q budget ns ms x y (runs u s f e) (stopped w g) = let h = f.begins in absurd (cc)
run_determined p q budget ns ms x y (stopped w g) (runs u s f e) = let h = f.begins in absurd (cc)
run_determined p q budget ns ms x y (stopped w g) (stopped v h) = (refl, ap Stopped (some_one (passed p budget 0 (first_branch q)) w v g h))
