-- A branch that a run prints is solvable.
use Rattle.std.proofs.Common.{ℕ, zero, suc, ◌+◌, Bool, true, false, List, [], ◌∷◌, ◌++◌, sym, subst, inl, inr, arith, pos}
use Rattle.std.specs.Prelude.{Option, Some, None, option_map, option_to_list, MatchBool, Contains}
use Rattle.cb_model.specs.declared.Tree.{Tree}
use Rattle.cb_model.specs.declared.Goal.{Goal}
use Rattle.cb_model.specs.declared.Goal.TheVariants as goal
use Rattle.cb_model.specs.Bits.{Each}
use Rattle.cb_model.specs.Values.{World, Valuation, Int}
use Rattle.cb_model.specs.Equations.{Solvable}
use Rattle.cb_model.specs.Program.{Program, next_clause, first_clause}
use Rattle.cb_model.specs.Derivation.{Branch, Entry, Run, Try, Change, Answered, Dropped, Becomes, Adds, DemonMoves, CallMoves, GoalMoves, RunMoves, Moves, Replaces, Woken, tried, is_demon, Goes, here, on, Note, first_branch, notes_of, printed_of, resolutions_of}
use Rattle.cb_laws.specs.Laws.{PrintedAreSolvable, PrintedDenote}
use Rattle.cb_laws.proofs.Begins.{printed_append}
use Rattle.cb_laws.proofs.Form.{form_denotes}

module _ (p : Program) where
  -- what is known of an entry: a branch that runs is solvable
  abbrev IsGood : Entry → Type 0
  IsGood (Run b) = Solvable p.world b.items
  IsGood (Try b pred args k) = Unit {0}

  -- what a change may be, where the top entry is good
  abbrev IsRight : Change → Type 0
  IsRight (Answered b) = Solvable p.world b.items
  IsRight Dropped = Unit {0}
  IsRight (Becomes e) = IsGood e
  IsRight (Adds r below b) = Each IsGood below

  option_good : (b : Branch) (pred : ℕ) (args : List Tree) (o : Option ℕ) → Each IsGood (option_to_list (option_map (λ n. Try b pred args n) o))
  option_good b pred args None = tt
  option_good b pred args (Some n) = (tt, tt)

  tried_right : (b : Branch) (pred : ℕ) (args : List Tree) (o : Option ℕ) → IsRight (tried p b pred args o)
  tried_right b pred args None = tt
  tried_right b pred args (Some n) = tt

  call_right : (b : Branch) (pred : ℕ) (args : List Tree) (c : Change) (x : Bool) → Solvable p.world b.items →
      MatchBool x (DemonMoves p b pred args c) (CallMoves p b pred args c) → IsRight c
  call_right b pred args c true s (inl m) = subst IsRight (sym m.3) tt
  call_right b pred args c true s (inr m) = subst IsRight (sym m.1) s
  call_right b pred args c false s (inl m) = subst IsRight (sym m.1) (tried_right b pred args (first_clause p pred))
  call_right b pred args c false s (inr m) = subst IsRight (sym m.1) s

  goal_right : (b : Branch) (g : Goal) (c : Change) → Solvable p.world b.items → GoalMoves p b g c → IsRight c
  goal_right b goal.True c s m = subst IsRight (sym m) s
  goal_right b goal.Fail c s m = subst IsRight (sym m) tt
  goal_right b (goal.Equal l r) c s m = subst IsRight (sym m) tt
  goal_right b (goal.Circuit k i o) c s m = subst IsRight (sym m.2) tt
  goal_right b (goal.Call pred args) c s m = call_right b pred args c (is_demon p pred) s m

  run_right : (b : Branch) (gs : List Goal) (c : Change) → Solvable p.world b.items → RunMoves p b gs c → IsRight c
  run_right b [] c s m = subst IsRight (sym m) s
  run_right b (g ∷ gs) c s m = goal_right (record b { goals = gs }) g c s m

  moves_right : (e : Entry) (c : Change) → IsGood e → Moves p e c → IsRight c
  moves_right (Run b) c s m = run_right b b.goals c s m
  moves_right (Try b pred args k) c s m = subst IsRight (sym m.2) (option_good b pred args (next_clause p pred k))

  each_append : (xs ys : List Entry) → Each IsGood xs → Each IsGood ys → Each IsGood (xs ++ ys)
  each_append [] ys h k = k
  each_append (x ∷ xs) ys h k = (h.0, each_append xs ys h.1 k)

  replaced_good : (c : Change) (es : List Entry) → IsRight c → Replaces p c es → Each IsGood es
  replaced_good (Answered b) es h r = subst (Each IsGood) (sym r) tt
  replaced_good Dropped es h r = subst (Each IsGood) (sym r) tt
  replaced_good (Becomes e) es h r = subst (Each IsGood) (sym r) (h, tt)
  replaced_good (Adds n below b) es h (inl r) =
      let w : Woken p b r.1.0 = r.1.1.0 in
      let s : Solvable p.world r.1.0.items = subst (λ (x : Branch). Solvable p.world x.items) (sym w.is) r.0 in
      subst (Each IsGood) (sym r.1.1.1) (s, h)
  replaced_good (Adds n below b) es h (inr r) = subst (Each IsGood) (sym r.1) h

  -- the notes of a change print only solvable branches
  abbrev ArePrinted : List Note → Type 0
  ArePrinted ns = Each (λ b. Solvable p.world b.items) (printed_of ns)

  notes_right : (c : Change) → IsRight c → ArePrinted (notes_of c)
  notes_right (Answered b) h = (h, tt)
  notes_right Dropped h = tt
  notes_right (Becomes e) h = tt
  notes_right (Adds r below b) h = tt

  branches_append : (xs ys : List Branch) → Each (λ b. Solvable p.world b.items) xs → Each (λ b. Solvable p.world b.items) ys → Each (λ b. Solvable p.world b.items) (xs ++ ys)
  branches_append [] ys h k = k
  branches_append (x ∷ xs) ys h k = (h.0, branches_append xs ys h.1 k)

  printed_right : (budget used u : ℕ) (s t : List Entry) (ns : List Note) → Each IsGood s → Goes p budget used s ns u t → ArePrinted ns
  printed_right budget used u s t ns h here = tt
  printed_right budget used u (e ∷ s) t ns h (on c es rest m f r i g) =
      let right : IsRight c = moves_right e c h.0 m in
      let good : Each IsGood (es ++ s) = each_append es s (replaced_good c es right r) h.1 in
      let more : ArePrinted rest = printed_right budget (used + resolutions_of c) u (es ++ s) t rest good g in
      subst ArePrinted (sym i) (subst (Each (λ b. Solvable p.world b.items)) (sym (printed_append (notes_of c) rest)) (branches_append (printed_of (notes_of c)) (printed_of rest) (notes_right c right) more))

-- some valuation, whatever the names' arguments
abbrev some_valuation : Valuation
some_valuation = record { bits = λ n. false; words = λ n. []; terms = λ n. Int (pos 0) }

pub without_items : (w : World) → Solvable w []
without_items w a h = record { b = some_valuation; sorted = λ n. search arith; sat = tt }

pub printed_are_solvable : PrintedAreSolvable
printed_are_solvable p q budget used ns s f =
    subst (ArePrinted p) (sym f.is) (printed_right p budget 0 used (Run (first_branch q) ∷ []) s f.rest (without_items p.world, tt) f.goes)

each_one : (P : Branch → Type 0) (bs : List Branch) (b : Branch) → Each P bs → Contains bs b → P b
each_one P [] b h c = absurd (omega arith)
each_one P (x ∷ xs) b h (zero, l, e) = subst P e h.0
each_one P (x ∷ xs) b h (suc k, l, e) = each_one P xs b h.1 (k, omega arith, e)

pub printed_denote : PrintedDenote
printed_denote p q budget used ns s b f c terms shape a admitted is m =
    form_denotes p.world b.items terms shape a admitted (each_one (λ (x : Branch). Solvable p.world x.items) (printed_of ns) b (printed_are_solvable p q budget used ns s f) c) is m
