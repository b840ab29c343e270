-- The first branch of a query.
use Rattle.std.proofs.Common.{◌≡◌, ℕ, suc, ◌+◌, ◌-◌, ◌<◌, ◌≤◌, Bool, true, false, List, [], ◌∷◌, ◌++◌, length, Some, pos, refl, sym, ap, subst, ◌∙◌, ◌^◌, append-nil, arith, zero-add}
use Rattle.std.specs.Prelude.{if◌then◌else◌, slice_get}
use Rattle.cb_laws.proofs.Tables.{zero_fits}
use Rattle.cb_model.specs.declared.Sort.{Sort}
use Rattle.cb_model.specs.declared.Tree.{Tree}
use Rattle.cb_model.specs.declared.Goal.{Goal}
use Rattle.cb_model.specs.declared.Goal.TheVariants as goal
use Rattle.cb_model.specs.Bits.{Each}
use Rattle.cb_model.specs.Values.{Bit, Int, Sorts, Valuation, World, tree_value}
use Rattle.cb_model.specs.Program.{Program, bools}
use Rattle.cb_model.specs.Equations.{Solvable}
use Rattle.cb_model.specs.Derivation.{first_branch}
use Rattle.cb_sorts.specs.Source.{Source}
use Rattle.cb_sorts.specs.Asked.{Asked}
use Rattle.cb_sorts.specs.OverFile.{asked_program, asked_query}
use Rattle.cb_goals.specs.declared.Link.{Link}
use Rattle.cb_goals.specs.declared.Pending.{Pending}
use Rattle.cb_goals.specs.declared.Pending.TheVariants as pending
use Rattle.cb_goals.specs.Chain.{goals_at}
use Rattle.cb_goals.proofs.Lists.{goals-empty}
use Rattle.cb_elim.specs.Store.{view_of}
use Rattle.cb_heap.proofs.Steps.{no_some}
use Rattle.cb_wake.specs.Waits.{Waits, no_goals}
use Rattle.cb_ready.specs.Parked.{Parked}
use Rattle.cb_unify.specs.State as state
use Rattle.cb_unify.specs.State.{FitsTable, IsState, no_state}
use Rattle.cb_unify.proofs.Back.{empty-state}
use Rattle.cb_items.specs.Items.{AddsFrame}
use Rattle.cb_items.specs.Shifted.{AreShifted, IsShiftedGoal, shifted}
use Rattle.cb_items.specs.Standing.{HasVariables, IsVals}
use Rattle.cb_branch.specs.Running.{AreGoals, IsBranch, IsTheBranch, Seen, asked_goals, program_of, query_of, unbegun}
use Rattle.cb_branch.specs.Scope.{IsGoalFor, IsRunnable}
use Rattle.cb_branch.proofs.Branches.{variables-more}
use Rattle.cb_branch.proofs.Methods.{seen}

-- ---- goals as they stand

same-valuation : (v : Valuation) → v ≡ shifted 0 v
same-valuation v = λ i. record { bits = λ n. v.bits (sym (zero-add n) i); words = λ n. v.words (sym (zero-add n) i); terms = λ n. v.terms (sym (zero-add n) i) }

same-trees : (xs : List Tree) → AreShifted 0 xs xs
same-trees [] = tt
same-trees (x ∷ xs) = (λ a v. ap (λ u. tree_value a u x) (same-valuation v), same-trees xs)

same-goal : (p : Program) (n : ℕ) (zs : List Sort) (g : Goal) → IsGoalFor p n zs g → IsShiftedGoal 0 g g
same-goal p n zs goal.True h = tt
same-goal p n zs goal.Fail h = tt
same-goal p n zs (goal.Equal l r) h = (λ a v. ap (λ u. tree_value a u l) (same-valuation v), λ a v. ap (λ u. tree_value a u r) (same-valuation v))
same-goal p n zs (goal.Circuit m ins outs) h = absurd h
same-goal p n zs (goal.Call m xs) h = (refl, same-trees xs)

-- ---- nothing is known yet

no-values : (w : World) (constants nodes : ℕ) → IsVals w (no_state constants nodes) []
unfolding view_of
no-values w constants nodes a b is = (
  λ i. tt,
  λ h. (
    a,
    (λ r. Bit false),
    record {
      range = record { at = a; agrees = λ k l. refl; gives = λ x v. absurd v };
      reading = record { fits = λ r z e. absurd (no_some _ z refl e); holds = λ r c e. absurd (no_some _ c refl e) };
    },
    λ n r z e f. absurd (no_some _ r refl e),
  ),
)

no-table : (t : Sorts) (constants nodes : ℕ) → FitsTable t (no_state constants nodes)
no-table t constants nodes = record { number = refl; cells = λ r c e. absurd (no_some _ c refl e) }

no-variables : (constants nodes : ℕ) → HasVariables (no_state constants nodes) []
no-variables constants nodes = record { number = refl; sorts = λ k r z e f. absurd (no_some _ r refl e) }

always-solvable : (w : World) → Solvable w []
always-solvable w a admitted = record { b = record { bits = λ n. false; words = λ n. []; terms = λ n. Int (pos 0) }; sorted = λ n. zero_fits; sat = tt }

-- ---- the first branch

module _ (p : Source) (q : Asked) (nodes : ℕ) (u : state.Seen) (frame : List ℕ) (ls : List Link) (list : ℕ) (runnable : IsRunnable p q) (is : IsState u) (adds : AddsFrame (no_state (length p.declared.constants) nodes) u q.sorts frame) where
  abbrev Begun : Seen
  Begun = record { program = p; query = q; state = u; frames = frame ∷ []; links = ls; top = list; steps = 0; waits = no_goals; parked = [] }

  asked-from : (place : ℕ) (gs : List Goal) → ((i : ℕ) (g : Goal) → slice_get gs i ≡ Some g → slice_get q.goals (place + i) ≡ Some g) → Each (IsGoalFor (asked_program p q []) (length p.names) q.sorts) gs →
      AreGoals Begun (asked_goals place (length gs)) gs
  asked-from place [] f h = tt
  asked-from place (g ∷ gs) f h = (
    record {
      place = record { sorts = q.sorts; goal = g; frame = 0 };
      is = ((let e : place + 0 ≡ place = omega arith in ap (λ n. slice_get q.goals n) (sym e) ∙ f 0 g refl), refl, refl);
      good = h.0;
      cells = frame;
      frame = refl;
      base = 0;
      placed = adds.frame_is;
      shifted = same-goal (asked_program p q []) (length p.names) q.sorts g h.0;
    },
    asked-from (suc place) gs (λ i x e. let n : suc place + i ≡ place + suc i = omega arith in ap (λ m. slice_get q.goals m) n ∙ f (suc i) x e) h.1,
  )

  pub begun-branch : list ≤ length ls → goals_at ls list ≡ asked_goals 0 (length q.goals) → IsTheBranch Begun (first_branch (asked_query q))
  begun-branch inside e = record {
    state = is;
    fits = adds.fits (asked_program p q []).world.arguments (no-table (asked_program p q []).world.arguments (length p.declared.constants) nodes);
    constants = adds.stays.constants;
    drawn = adds.stays.drawn;
    variables = variables-more (no_state (length p.declared.constants) nodes) u [] q.sorts frame adds.grown adds.made adds.frame_is (no-variables (length p.declared.constants) nodes);
    vals = adds.vals (asked_program p q []).world [] (no-values (asked_program p q []).world (length p.declared.constants) nodes);
    solvable = always-solvable (asked_program p q []).world;
    goals = subst (λ (xs : List Pending). AreGoals Begun xs q.goals) (sym e)
        (asked-from 0 q.goals (λ i g f. let n : 0 + i ≡ i = omega arith in ap (λ m. slice_get q.goals m) n ∙ f) runnable.goals);
    top = inside;
    asked = record { cells = frame; at = refl; placed = adds.frame_is };
    waiting = tt;
    next = refl;
    parked = refl;
    there = tt;
    steps = refl;
    runnable = runnable;
  }

-- ---- the list of a query's goals

pub asked-step : (place count : ℕ) → 0 < place → place ≤ count → pending.Asked (place - 1) ∷ asked_goals place (count - place) ≡ asked_goals (place - 1) (count - (place - 1))
asked-step place count h l =
    let n : suc (count - place) ≡ count - (place - 1) = omega arith in
    let m : suc (place - 1) ≡ place = omega arith in
    ap (λ (x : ℕ). pending.Asked (place - 1) ∷ asked_goals x (count - place)) (sym m) ∙ ap (λ (x : ℕ). asked_goals (place - 1) x) n

-- how far it has come
pub record IsAsking (now : List Link) (count list place : ℕ) : Type 0 where
  pub there : list ≤ length now
  pub number : length now + place ≡ count
  pub goals : goals_at now list ≡ asked_goals place (count - place)

pub asking-more : (now new : List Link) (count list place r : ℕ) → IsAsking now count list place → 0 < place → place ≤ count → r ≤ length new → length new ≡ length now + 1 →
    goals_at new r ≡ pending.Asked (place - 1) ∷ goals_at now list → IsAsking new count r (place - 1)
asking-more now new count list place r h z l t n g = record {
  there = t;
  number = let m = h.number in omega arith;
  goals = g ∙ ap (λ (x : List Pending). pending.Asked (place - 1) ∷ x) h.goals ∙ asked-step place count z l;
}

pub asking-start : (cs : List Link) (count : ℕ) → cs ≡ [] → IsAsking cs count 0 count
asking-start cs count e =
    let z : count - count ≡ 0 = omega arith in
    record { there = omega arith; number = let n = ap length e in omega arith; goals = goals-empty cs ∙ ap (λ (n : ℕ). asked_goals count n) (sym z) }

pub asking-whole : (now : List Link) (count list place : ℕ) → IsAsking now count list place → place ≤ 0 → goals_at now list ≡ asked_goals 0 count
asking-whole now count list place h z =
    let e : place ≡ 0 = omega arith in
    let n : count - place ≡ count = omega arith in
    h.goals ∙ ap (λ (x : ℕ). asked_goals x (count - place)) e ∙ ap (λ (x : ℕ). asked_goals 0 x) n

-- ---- what beginning asks of its parts, and leaves

pub pushed-more : {X : Type 0} (b : Bool) (old new : List X) (x : X) → new ≡ (if b then old ++ x ∷ [] else old) → (more : List X) × (new ≡ old ++ more)
pushed-more true old new x e = (x ∷ [], e)
pushed-more false old new x e = ([], e ∙ sym (append-nil old))

module _ (now : Seen) (p : Source) (q : Asked) (u : state.Seen) (fs : List (List ℕ)) (ls : List Link) (top steps : ℕ) (ws : Waits) (pk : List Parked) (v : seen p q u fs ls top steps ws pk ≡ now) (nodes : ℕ) (e : now ≡ unbegun now.program now.query nodes) where
  state-none : u ≡ no_state (length p.declared.constants) nodes
  state-none = ap (λ (o : Seen). o.state) (v ∙ e) ∙ ap (λ (x : Source). no_state (length x.declared.constants) nodes) (sym (ap (λ (o : Seen). o.program) v))

  pub begin-state : IsState u
  begin-state = subst (λ (o : state.Seen). IsState o) (sym state-none) (empty-state (length p.declared.constants) nodes)

  frames-none : fs ≡ []
  frames-none = ap (λ (o : Seen). o.frames) (v ∙ e)

  links-none : ls ≡ []
  links-none = ap (λ (o : Seen). o.links) (v ∙ e)

  steps-none : steps ≡ 0
  steps-none = ap (λ (o : Seen). o.steps) (v ∙ e)

  waits-none : ws ≡ no_goals
  waits-none = ap (λ (o : Seen). o.waits) (v ∙ e)

  parked-none : pk ≡ []
  parked-none = ap (λ (o : Seen). o.parked) (v ∙ e)

  pub links-more : (ls' : List Link) → ls' ≡ ls ++ ls'
  links-more ls' = ap (λ (l : List Link). l ++ ls') (sym links-none)

  pub begin-room : (zs : List Sort) → zs ≡ q.sorts → (program_of now).constants + bools (query_of now).sorts ≤ 4096 → u.store.drawn + bools zs < 2 ^ 32
  unfolding program_of query_of
  begin-room zs f room =
      let d : u.store.drawn ≡ length p.declared.constants = ap (λ (o : state.Seen). o.store.drawn) state-none in
      let a = ap (λ (o : Seen). length o.program.declared.constants) v in
      let b = ap (λ (o : Seen). bools o.query.sorts) v in
      let c = ap bools f in
      omega arith

  pub begin-branch : (t : state.Seen) (frame : List ℕ) (fs' : List (List ℕ)) (ls' : List Link) (list : ℕ) (zs : List Sort) (gs : List Goal) → zs ≡ q.sorts → gs ≡ q.goals → AddsFrame u t zs frame → IsState t →
      fs' ≡ fs ++ frame ∷ [] → IsRunnable now.program now.query → list ≤ length ls' → goals_at ls' list ≡ asked_goals 0 (length gs) → IsBranch (seen p q t fs' ls' list steps ws pk) (first_branch (query_of now))
  unfolding IsBranch query_of
  begin-branch t frame fs' ls' list zs gs ez eg adds is ef runnable inside el =
      let added : AddsFrame (no_state (length p.declared.constants) nodes) t q.sorts frame =
      subst (λ (o : state.Seen). AddsFrame o t q.sorts frame) state-none (subst (λ (x : List Sort). AddsFrame u t x frame) ez adds) in
      let runs : IsRunnable p q = subst (λ (o : Seen). IsRunnable o.program o.query) (sym v) runnable in
      let h = begun-branch p q nodes t frame ls' list runs is added inside (el ∙ ap (λ (x : List Goal). asked_goals 0 (length x)) eg) in
      let framed : fs' ≡ frame ∷ [] = ef ∙ ap (λ (x : List (List ℕ)). x ++ frame ∷ []) frames-none in
      let placed = subst (λ (x : List (List ℕ)). IsTheBranch (seen p q t x ls' list 0 no_goals []) (first_branch (asked_query q))) (sym framed) h in
      let counted = subst (λ (n : ℕ). IsTheBranch (seen p q t fs' ls' list n no_goals []) (first_branch (asked_query q))) (sym steps-none) placed in
      let waits : IsTheBranch (seen p q t fs' ls' list steps ws []) (first_branch (asked_query q)) =
      subst (λ (w : Waits). IsTheBranch (seen p q t fs' ls' list steps w []) (first_branch (asked_query q))) (sym waits-none) counted in
      let held = subst (λ (k : List Parked). IsTheBranch (seen p q t fs' ls' list steps ws k) (first_branch (asked_query q))) (sym parked-none) waits in
      subst (λ (o : Seen). IsTheBranch (seen p q t fs' ls' list steps ws pk) (first_branch (asked_query o.query))) v held
