-- The plain derivation: goals from left to right, clauses in the order of the text, depth first.
use Rattle.std.specs.Prelude.{◌≡◌, ℕ, zero, suc, ◌+◌, ◌<◌, Bool, false, nat_lt, if◌then◌else◌, ◌⊎◌, List, [], ◌∷◌, ◌++◌, map, length, get_or, Option, Some, None, slice_get, option_to_list, option_map, MatchBool, ℤ}
use Rattle.cb_model.specs.declared.Sort.{Sort}
use Rattle.cb_model.specs.declared.Sort.TheVariants as sort
use Rattle.cb_model.specs.declared.When.{When}
use Rattle.cb_model.specs.declared.When.TheVariants as when
use Rattle.cb_model.specs.declared.Tree.{Tree}
use Rattle.cb_model.specs.declared.Tree.TheVariants as tree
use Rattle.cb_model.specs.declared.Goal.{Goal}
use Rattle.cb_model.specs.declared.Goal.TheVariants as goal
use Rattle.cb_model.specs.declared.Circuit.{Circuit}
use Rattle.cb_model.specs.Bits.{Bits, Parts, numbers_from}
use Rattle.cb_model.specs.Values.{Ground, Bit, Word, Int, Name, World, Valuation, IsValuation, tree_value}
use Rattle.cb_model.specs.Equations.{Item, Pair, Part, Meets, Solvable, Refuted}
use Rattle.cb_model.specs.declared.Clause.{Clause}
use Rattle.cb_model.specs.Program.{Program, shift_tree, shift_goal, first_clause, next_clause, bools}

-- ---- what is known of a value

-- The outermost form of a value: a list is empty or has a first element, and the number of a name stands for the name
-- with its number of arguments.
pub data Outermost : Type 0 where
  ABit : Outermost
  Empty : Outermost
  NotEmpty : Outermost
  AnInt : ℤ → Outermost
  ANode : ℕ → Outermost

-- the outermost form of a value
abbrev pub outermost : Ground → Outermost
outermost (Bit x) = ABit
outermost (Word []) = Empty
outermost (Word (x ∷ xs)) = NotEmpty
outermost (Int z) = AnInt z
outermost (Name n gs) = ANode n

-- the delay word holds for the argument
abbrev pub WordHolds : World → List Item → When → Tree → Type 0
WordHolds w es when.Any x = Unit {0}
WordHolds w es when.Known x = (a : Bits) (b b' : Valuation) → Meets w es a b → Meets w es a b' → tree_value a b x ≡ tree_value a b' x
WordHolds w es when.Fixed x = (g : Ground) × ((a : Bits) (b : Valuation) → Meets w es a b → tree_value a b x ≡ g)
WordHolds w es when.Nonvar x = (f : Outermost) × ((a : Bits) (b : Valuation) → Meets w es a b → outermost (tree_value a b x) ≡ f)

-- all words hold; where there are none, the goal isn't delayed
abbrev pub WordsHold : World → List Item → List When → List Tree → Type 0
WordsHold w es [] xs = Unit {0}
WordsHold w es (d ∷ ds) (x ∷ xs) = WordHolds w es d x × WordsHold w es ds xs
WordsHold w es (d ∷ ds) [] = ⊥

-- whatever the goal's arguments are, the head's own variables have values that make the head equal to them
abbrev pub Matches : World → List Item → List Tree → List Tree → Type 0
Matches w es head args =
    (a : Bits) (b : Valuation) → Meets w es a b → (own : Valuation) × (IsValuation w own × (map (tree_value a own) head ≡ map (tree_value a b) args))

-- clause k is a rule of the predicate that matches
pub record RuleMatches (p : Program) (es : List Item) (pred : ℕ) (args : List Tree) (k : ℕ) : Type 0 where
  pub rule : Clause
  pub is_rule : slice_get p.clauses k ≡ Some rule
  pub of_pred : rule.pred ≡ pred
  pub matches : Matches p.world es rule.head args

-- whether the clauses of a name are demon rules
abbrev pub is_demon : Program → ℕ → Bool
is_demon p pred = get_or p.demons pred false

-- the delay words of a name
abbrev pub words_of : Program → ℕ → List When
words_of p pred = get_or p.words pred []

-- the goal is ready
abbrev pub Ready : Program → List Item → Goal → Type 0
Ready p es (goal.Call pred args) =
    MatchBool (is_demon p pred) ((k : ℕ) × RuleMatches p es pred args k) (WordsHold p.world es (words_of p pred) args)
Ready p es _ = Unit {0}

-- ---- branches

-- a waiting goal with its number
pub record Waiting : Type 0 where
  pub number : ℕ
  pub goal : Goal

-- goals, waiting goals, the next number, the items, the sorts of all variables, and the number of equation steps
pub record Branch : Type 0 where
  pub goals : List Goal
  pub waiting : List Waiting
  pub next : ℕ
  pub items : List Item
  pub sorts : List Sort
  pub steps : ℕ

-- a branch that runs, or a branch with a call and the clause to try
pub data Entry : Type 0 where
  Run : Branch → Entry
  Try : Branch → ℕ → List Tree → ℕ → Entry

-- what the top entry does: it is an answer, it is dropped, it becomes another entry, or, with so many resolutions,
-- it leaves entries below and adds items to a branch
pub data Change : Type 0 where
  Answered : Branch → Change
  Dropped : Change
  Becomes : Entry → Change
  Adds : ℕ → List Entry → Branch → Change

-- the head is the goal
abbrev pub head_item : ℕ → List Tree → List Tree → Item
head_item pred head args = Pair (tree.Node pred head) (tree.Node pred args)

-- the branch with these goals, items and variables more
abbrev pub extended : Branch → List Goal → List Item → List Sort → Branch
extended b goals items sorts = record b { goals = goals; items = b.items ++ items; sorts = b.sorts ++ sorts; steps = b.steps + 1 }

-- a fresh copy of the clause: its head is equated with the goal, and its body goes in front
abbrev pub resolved : Branch → ℕ → List Tree → Clause → Branch
resolved b pred args c =
    let k = length b.sorts in
    extended b (map (shift_goal k) c.body ++ b.goals) (head_item pred (map (shift_tree k) c.head) args ∷ []) c.sorts

-- the circuit with a fresh variable for each input
abbrev pub with_circuit : Branch → Circuit → Tree → Tree → Branch
with_circuit b c ins outs =
    let own = numbers_from (length b.sorts) c.inputs in
    extended b b.goals (Part c ins outs own ∷ []) (map (λ _. sort.Bool) own)

-- the goal waits with the next number
abbrev pub waits : Branch → Goal → Branch
waits b g = record b { waiting = b.waiting ++ record { number = b.next; goal = g } ∷ []; next = suc b.next }

-- a try of the clause, or the end of the branch
abbrev pub tried : Program → Branch → ℕ → List Tree → Option ℕ → Change
tried p b pred args None = Dropped
tried p b pred args (Some k) = Becomes (Try b pred args k)

-- a try of the next clause, if there is one
abbrev pub try_next : Program → Branch → ℕ → List Tree → ℕ → List Entry
try_next p b pred args k = option_to_list (option_map (λ n. Try b pred args n) (next_clause p pred k))

-- a commit to the first rule that matches, or a wait
abbrev pub DemonMoves : Program → Branch → ℕ → List Tree → Change → Type 0
DemonMoves p b pred args change =
    ((k : ℕ) × (r : RuleMatches p b.items pred args k) × ((j : ℕ) → j < k → RuleMatches p b.items pred args j → ⊥) × (change ≡ Adds 1 [] (resolved b pred args r.rule))) ⊎
    (((k : ℕ) → RuleMatches p b.items pred args k → ⊥) × (change ≡ Becomes (Run (waits b (goal.Call pred args)))))

-- a delayed goal that is not ready waits; another is tried
abbrev pub CallMoves : Program → Branch → ℕ → List Tree → Change → Type 0
CallMoves p b pred args change =
    (Ready p b.items (goal.Call pred args) × (change ≡ tried p b pred args (first_clause p pred))) ⊎
    ((Ready p b.items (goal.Call pred args) → ⊥) × (change ≡ Becomes (Run (waits b (goal.Call pred args)))))

-- the first goal, with the branch behind it
abbrev pub GoalMoves : Program → Branch → Goal → Change → Type 0
GoalMoves p b goal.True change = change ≡ Becomes (Run b)
GoalMoves p b goal.Fail change = change ≡ Dropped
GoalMoves p b (goal.Equal l r) change = change ≡ Adds 0 [] (extended b b.goals (Pair l r ∷ []) [])
GoalMoves p b (goal.Circuit m ins outs) change =
    (c : Circuit) × (slice_get p.circuits m ≡ Some c) × (change ≡ Adds 0 [] (with_circuit b c ins outs))
GoalMoves p b (goal.Call pred args) change = MatchBool (is_demon p pred) (DemonMoves p b pred args change) (CallMoves p b pred args change)

-- the first goal of a branch, or its answer
abbrev pub RunMoves : Program → Branch → List Goal → Change → Type 0
RunMoves p b [] change = change ≡ Answered b
RunMoves p b (g ∷ gs) change = GoalMoves p (record b { goals = gs }) g change

-- what the top entry does
abbrev pub Moves : Program → Entry → Change → Type 0
Moves p (Run b) change = RunMoves p b b.goals change
Moves p (Try b pred args k) change =
    (c : Clause) × (slice_get p.clauses k ≡ Some c) × (change ≡ Adds 1 (try_next p b pred args k) (resolved b pred args c))

-- the branch after its addition, where it goes on: the goals that are now ready go in front in order of number
pub record Woken (p : Program) (b b' : Branch) : Type 0 where
  pub ready : List Waiting
  pub rest : List Waiting
  pub parts : Parts (λ w. Ready p b.items w.goal) b.waiting ready rest
  pub is : b' ≡ record b { goals = map (λ w. w.goal) ready ++ b.goals; waiting = rest }

-- what stands in place of the top entry
abbrev pub Replaces : Program → Change → List Entry → Type 0
Replaces p (Answered b) es = es ≡ []
Replaces p Dropped es = es ≡ []
Replaces p (Becomes e) es = es ≡ e ∷ []
Replaces p (Adds r below b) es =
    (Solvable p.world b.items × ((b' : Branch) × (Woken p b b' × (es ≡ Run b' ∷ below)))) ⊎
    (Refuted p.world b.items × (es ≡ below))

-- the answer of a change
abbrev pub event_of : Change → Option Branch
event_of (Answered b) = Some b
event_of _ = None

-- one step of the stack, with the answer that it gives
pub record Step (p : Program) (e : Entry) (s s' : List Entry) (event : Option Branch) : Type 0 where
  pub change : Change
  pub moves : Moves p e change
  pub entries : List Entry
  pub replaces : Replaces p change entries
  pub stack : s' ≡ entries ++ s
  pub gives : event ≡ event_of change

-- ---- whole runs

-- what a stop line names
pub data Budget : Type 0 where
  Resolutions : Budget
  Variables : Budget
  Equations : Budget

-- how a run ends
pub data End : Type 0 where
  Whole : End
  Stopped : Budget → End

-- a branch that was made, and one that was printed
pub data Note : Type 0 where
  Made : Branch → Note
  Printed : Branch → Note

-- the resolutions of a change
abbrev pub resolutions_of : Change → ℕ
resolutions_of (Adds r below b) = r
resolutions_of _ = 0

-- what a change makes or prints
abbrev pub notes_of : Change → List Note
notes_of (Answered b) = Printed b ∷ []
notes_of (Adds r below b) = Made b ∷ []
notes_of _ = []

-- the budget that a branch would pass, in the order of the checks; `used` counts the resolutions, its own included
abbrev pub passed : Program → ℕ → ℕ → Branch → Option Budget
passed p budget used b =
    if nat_lt budget used then Some Resolutions
    else (if nat_lt 4096 (p.constants + bools b.sorts) then Some Variables
    else (if nat_lt 1000000 b.steps then Some Equations else None))

-- the budget that a change would pass
abbrev pub stop_of : Program → ℕ → ℕ → Change → Option Budget
stop_of p budget used (Adds r below b) = passed p budget (used + r) b
stop_of p budget used _ = None

-- some steps from a stack and a count of resolutions to others, with what is made and printed on the way
pub data Goes (p : Program) (budget : ℕ) : ℕ → List Entry → List Note → ℕ → List Entry → Type 0 where
  here : {used : ℕ} {s : List Entry} → Goes p budget used s [] used s
  on : {used used' : ℕ} {e : Entry} {s s' : List Entry} {notes : List Note} (c : Change) (es : List Entry) (ns : List Note) →
      Moves p e c → stop_of p budget used c ≡ None → Replaces p c es → notes ≡ notes_of c ++ ns →
      Goes p budget (used + resolutions_of c) (es ++ s) ns used' s' → Goes p budget used (e ∷ s) notes used' s'

-- there is no further step
pub data Ends (p : Program) (budget : ℕ) : ℕ → List Entry → End → Type 0 where
  whole : {used : ℕ} → Ends p budget used [] Whole
  stops : {used : ℕ} {e : Entry} {s : List Entry} {w : Budget} (c : Change) →
      Moves p e c → stop_of p budget used c ≡ Some w → Ends p budget used (e ∷ s) (Stopped w)

-- a query: its goals and the sorts of its variables
pub record Query : Type 0 where
  pub goals : List Goal
  pub sorts : List Sort

-- the branch that a query begins with
abbrev pub first_branch : Query → Branch
first_branch q = record { goals = q.goals; waiting = []; next = 0; items = []; sorts = q.sorts; steps = 0 }

-- what a query makes and prints so far, and where it stands; making its first branch needs the query's variables
pub record SoFar (p : Program) (q : Query) (budget : ℕ) (notes : List Note) (used : ℕ) (s : List Entry) : Type 0 where
  pub begins : passed p budget 0 (first_branch q) ≡ None
  pub rest : List Note
  pub goes : Goes p budget 0 (Run (first_branch q) ∷ []) rest used s
  pub is : notes ≡ Made (first_branch q) ∷ rest

-- the whole run of a query
pub data Plain (p : Program) (q : Query) (budget : ℕ) : List Note → End → Type 0 where
  runs : {ns : List Note} {end : End} (used : ℕ) (s : List Entry) → SoFar p q budget ns used s → Ends p budget used s end → Plain p q budget ns end
  stopped : (w : Budget) → passed p budget 0 (first_branch q) ≡ Some w → Plain p q budget [] (Stopped w)

-- the branches that were printed, in order
abbrev pub printed_of : List Note → List Branch
printed_of [] = []
printed_of (Made b ∷ ns) = printed_of ns
printed_of (Printed b ∷ ns) = b ∷ printed_of ns

-- the branches that are made or printed up to and with the next answer or the end
abbrev pub stretch : List Note → List Branch
stretch [] = []
stretch (Made b ∷ ns) = b ∷ stretch ns
stretch (Printed b ∷ ns) = b ∷ []

-- the same after the k-th answer
abbrev pub stretch_after : ℕ → List Note → List Branch
stretch_after zero ns = stretch ns
stretch_after (suc k) [] = []
stretch_after (suc k) (Made b ∷ ns) = stretch_after (suc k) ns
stretch_after (suc k) (Printed b ∷ ns) = stretch_after k ns
