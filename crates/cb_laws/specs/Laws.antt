-- Laws of the definitions: each is the contract of a function of this crate.
use Rattle.std.specs.Prelude.{◌≡◌, ℕ, ◌<◌, ◌≤◌, ◌⊎◌, Bool, true, not, ◌&&◌, MatchBool, List, [], ◌∷◌, ◌++◌, map, length, flat_map, ◌↔◌, Option, None, Contains}
use Rattle.std.specs.List.{list_all}
use Rattle.cb_model.specs.declared.Expr.{Expr}
use Rattle.cb_model.specs.declared.Tree.{Tree}
use Rattle.cb_model.specs.declared.Tree.TheVariants as tree
use Rattle.cb_model.specs.declared.Goal.{Goal}
use Rattle.cb_model.specs.declared.Goal.TheVariants as goal
use Rattle.cb_model.specs.declared.Clause.{Clause}
use Rattle.cb_model.specs.Directives.{Sign, has_sign, Declared, sorts_of, directives, heads}
use Rattle.cb_model.specs.Sorted.{clause_fits, goal_fits, operands_fit}
use Rattle.cb_model.specs.Loading.{module_names, body_of, query_body, BodyRefusal, IsClause, signs_of, goals_signs}
use Rattle.cb_model.specs.Output.{Loaded, IsLoaded, IsQuery}
use Rattle.cb_model.specs.Facts.{Circuits, FactRefusal, FactsRead}
use Rattle.cb_model.specs.Bits.{Bits, Each, bits_of, some_bits, every_bits, xor}
use Rattle.cb_model.specs.Text.{Text}
use Rattle.cb_model.specs.Values.{Admitted, World, expr_value, in_scope, tree_in_scope}
use Rattle.cb_model.specs.Equations.{Item, Pair, Solvable, Refuted, Table, ReadsBelow, Substitution, Solves, ReadsOnly, item_in_scope}
use Rattle.cb_model.specs.Program.{Program}
use Rattle.cb_model.specs.Derivation.{Ready, Entry, Branch, Step, Query, Note, End, Plain, SoFar, printed_of}
use Rattle.cb_model.specs.Answers.{leaves, IsShape, Gives, Denotes}
use Rattle.cb_model.specs.Line.{Names, printed_terms, IsLine}
use Rattle.cb_model.specs.Room.{room_with, BelowRoom}
use Rattle.cb_model.specs.Tokens.{Token, Fault, Lexes, line_at}
use Rattle.cb_model.specs.Written.{AreClauses, AreQueries, is_name, goal_written}
use Rattle.cb_model.specs.Grammar.{IsReading, Whole, Form, FormGoal, FormClause, FormQuery, ReadsClause, ReadsQuery, ReadsAll}

-- ---- Boolean pairs

-- a Boolean pair
abbrev pub Equal : Type 0
Equal = Expr × Expr

-- the item of a pair
abbrev pub pair_item : Equal → Item
pair_item e = Pair (tree.Leaf e.0) (tree.Leaf e.1)

-- tables that satisfy the pairs at every assignment
abbrev pub SolvesAll : List Equal → (ℕ → Table) → Type 0
SolvesAll es x = (a : Bits) → Each (λ e. expr_value a (λ n. x n a) e.0 ≡ expr_value a (λ n. x n a) e.1) es

-- Boolean pairs are solvable exactly where they have a solution in the algebra
abbrev pub SolvableByTables : Type 0
SolvableByTables = (w : World) (es : List Equal) → Solvable w (map pair_item es) ↔ ((x : ℕ → Table) × SolvesAll es x)

-- whether the pairs hold at these bits
abbrev pub pairs_hold : List Equal → Bits → Bits → Bool
pairs_hold [] a b = true
pairs_hold (e ∷ es) a b = not (xor (expr_value a b e.0) (expr_value a b e.1)) && pairs_hold es a b

-- whether the pairs read only these constants and variables
abbrev pub pairs_in_scope : ℕ → ℕ → List Equal → Bool
pairs_in_scope c v [] = true
pairs_in_scope c v (e ∷ es) = in_scope c v e.0 && (in_scope c v e.1 && pairs_in_scope c v es)

-- whether each row of the constants has a row of the variables at which the pairs hold
abbrev pub solvable_by_rows : ℕ → ℕ → List Equal → Bool
solvable_by_rows c v es = every_bits c (λ r. some_bits v (λ s. pairs_hold es (bits_of r) (bits_of s)))

-- Boolean pairs are solvable or refuted, as trying all rows says
abbrev pub SolvableDecided : Type 0
SolvableDecided = (w : World) (c v : ℕ) (es : List Equal) → pairs_in_scope c v es ≡ true →
    MatchBool (solvable_by_rows c v es) (Solvable w (map pair_item es)) (Refuted w (map pair_item es))

-- they are solvable exactly where they have a solution in the algebra free over the first c constants
abbrev pub SolvableByTablesBelow : Type 0
SolvableByTablesBelow = (w : World) (c v : ℕ) (es : List Equal) → pairs_in_scope c v es ≡ true →
    Solvable w (map pair_item es) ↔ ((x : ℕ → Table) × ((n : ℕ) → ReadsBelow c (x n)) × SolvesAll es x)

-- equations of all sorts and circuit items that have a solution in the algebra are solvable
abbrev pub SolutionGivesValues : Type 0
SolutionGivesValues = (w : World) (es : List Item) (s : Substitution) → Solves w es s → Solvable w es

-- each item has only constants below c and variables below v
abbrev pub InScope : ℕ → ℕ → List Item → Type 0
InScope c v es = list_all (item_in_scope c v) es ≡ true

-- equations of all three sorts and circuit items are solvable exactly where they have a solution in the algebra over the c constants
abbrev pub SolvableInAlgebra : Type 0
SolvableInAlgebra = (w : World) (c v : ℕ) (es : List Item) → InScope c v es → Solvable w es ↔ ((s : Substitution) × (ReadsOnly c s × Solves w es s))

-- equations of all sorts and circuit items are solvable or refuted
abbrev pub Decided : Type 0
Decided = (w : World) (c v : ℕ) (es : List Item) → InScope c v es → Solvable w es ⊎ Refuted w es

-- ---- the derivation

-- a goal that is ready stays ready after more equations
abbrev pub ReadyStays : Type 0
ReadyStays = (p : Program) (es more : List Item) (g : Goal) → Ready p es g → Ready p (es ++ more) g

-- a goal is ready or not, where the equations are solvable
abbrev pub ReadyDecided : Type 0
ReadyDecided = (p : Program) (v : ℕ) (es : List Item) (g : Goal) → InScope p.constants v es → Solvable p.world es → Ready p es g ⊎ (Ready p es g → ⊥)

-- a step has one outcome
abbrev pub StepDetermined : Type 0
StepDetermined = (p : Program) (e : Entry) (s s₁ s₂ : List Entry) (v₁ v₂ : Option Branch) → Step p e s s₁ v₁ → Step p e s s₂ v₂ → (s₁ ≡ s₂) × (v₁ ≡ v₂)

-- a whole run has one list of branches that are made and printed, and one end
abbrev pub RunDetermined : Type 0
RunDetermined = (p : Program) (q : Query) (budget : ℕ) (ns ms : List Note) (x y : End) → Plain p q budget ns x → Plain p q budget ms y → (ns ≡ ms) × (x ≡ y)

-- one list of notes begins the other
abbrev pub NotesBegin : List Note → List Note → Type 0
NotesBegin ns ms = (more : List Note) × (ms ≡ ns ++ more)

-- of two beginnings of one query's run, the notes of one begin those of the other
abbrev pub SameBeginning : Type 0
SameBeginning = (p : Program) (q : Query) (budget u v : ℕ) (ns ms : List Note) (s t : List Entry) → SoFar p q budget ns u s → SoFar p q budget ms v t →
    NotesBegin ns ms ⊎ NotesBegin ms ns

-- so the one that prints more prints first what the other prints
abbrev pub SamePrints : Type 0
SamePrints = (p : Program) (q : Query) (budget u v : ℕ) (ns ms : List Note) (s t : List Entry) → SoFar p q budget ns u s → SoFar p q budget ms v t →
    length (printed_of ns) ≤ length (printed_of ms) → (more : List Branch) × (printed_of ms ≡ printed_of ns ++ more)

-- the equations of a branch that a run prints are solvable
abbrev pub PrintedAreSolvable : Type 0
PrintedAreSolvable = (p : Program) (q : Query) (budget used : ℕ) (ns : List Note) (s : List Entry) → SoFar p q budget ns used s →
    Each (λ b. Solvable p.world b.items) (printed_of ns)

-- ---- answers

-- the parametric form denotes exactly the leaf bits of the solutions
abbrev pub FormDenotes : Type 0
FormDenotes = (w : World) (es : List Item) (terms shape : List Tree) (a : Bits) → Admitted w a → Solvable w es → IsShape w es terms shape → (m : ℕ) →
    Denotes (Gives w es terms shape a) m

-- so the parametric form of each branch that a run prints denotes exactly the leaf bits of the branch's solutions
abbrev pub PrintedDenote : Type 0
PrintedDenote = (p : Program) (q : Query) (budget used : ℕ) (ns : List Note) (s : List Entry) (b : Branch) → SoFar p q budget ns used s →
    Contains (printed_of ns) b → (terms shape : List Tree) (a : Bits) → Admitted p.world a → IsShape p.world b.items terms shape → (m : ℕ) →
    Denotes (Gives p.world b.items terms shape a) m

-- solvable equations have a shape for all terms
abbrev pub HasShape : Type 0
HasShape = (w : World) (c v : ℕ) (es : List Item) (terms : List Tree) → InScope c v es → Solvable w es → (shape : List Tree) × IsShape w es terms shape

-- and it is one
abbrev pub ShapeIsOne : Type 0
ShapeIsOne = (w : World) (es : List Item) (terms s s' : List Tree) → Solvable w es → IsShape w es terms s → IsShape w es terms s' → s ≡ s'

-- so the line of a branch is one
abbrev pub LineIsOne : Type 0
LineIsOne = (p : Program) (names : Names) (b : Branch) (x y : Text) → Solvable p.world b.items → IsLine p names b x → IsLine p names b y → x ≡ y

-- and so is the bound of a branch: a number is below it exactly where it is below the formula at the leaves of the shape
abbrev pub RoomIsOne : Type 0
RoomIsOne = (p : Program) (names : Names) (b : Branch) (shape : List Tree) (n : ℕ) → Solvable p.world b.items →
    IsShape p.world b.items (printed_terms names b) shape → BelowRoom p names b n ↔ (n < room_with p b (length (flat_map leaves shape)))

-- a branch without a solution has the bound without leaves
abbrev pub RoomOfNone : Type 0
RoomOfNone = (p : Program) (names : Names) (b : Branch) (n : ℕ) → Refuted p.world b.items → BelowRoom p names b n ↔ (n < room_with p b 0)

-- ---- sorts

-- each name has as many sorts as arguments
abbrev pub AreCounted : Declared → Type 0
AreCounted d = (a : Sign) → length (sorts_of d a) ≡ a.1

-- what directives without a refusal declare is counted so
abbrev pub DirectivesCount : Type 0
DirectivesCount = (cs : List FormClause) (d : Declared) → directives cs ≡ record { refusal = None; declared = d } → AreCounted d

-- The clause of an accepted rule, over names among which those of the rule are, has in each place a tree of its sort.
abbrev pub ClausesFit : Type 0
ClausesFit = (d : Declared) (hs names : List Sign) (ms : List (Option Text)) (f : Form) (gs : List FormGoal) (c : Clause) → AreCounted d → is_name f ≡ true →
    list_all (has_sign names) (signs_of f ++ goals_signs gs) ≡ true → BodyRefusal d hs ms (body_of f gs) None → IsClause d names ms f gs c →
    clause_fits (map (sorts_of d) names) c ≡ true

-- the clauses of the program of an accepted file do, and so do the goals of an accepted query over it
abbrev pub TreesFit : Type 0
TreesFit = (file : Text) (l : Loaded) (gs : List FormGoal) (p : Program) (q : Query) (names : Names) → IsLoaded file l →
    BodyRefusal l.declared (heads l.clauses) (module_names l.clauses) (query_body gs) None → IsQuery l gs p q names →
    (list_all (clause_fits p.world.arguments) p.clauses ≡ true) × (list_all (goal_fits p.world.arguments q.sorts) q.goals ≡ true)

-- the trees of a goal
abbrev pub goal_trees : Goal → List Tree
goal_trees (goal.Equal l r) = l ∷ r ∷ []
goal_trees (goal.Circuit m ins outs) = ins ∷ outs ∷ []
goal_trees (goal.Call pred args) = args
goal_trees _ = []

-- the trees of a clause
abbrev pub clause_trees : Clause → List Tree
clause_trees c = c.head ++ flat_map goal_trees c.body

-- The clauses of the program of an accepted file have only constants of the file and variables of their own, and so have
-- the goals of an accepted query over it.
abbrev pub TreesInScope : Type 0
TreesInScope = (file : Text) (l : Loaded) (gs : List FormGoal) (p : Program) (q : Query) (names : Names) → IsLoaded file l →
    BodyRefusal l.declared (heads l.clauses) (module_names l.clauses) (query_body gs) None → IsQuery l gs p q names →
    (list_all (λ c. list_all (tree_in_scope p.constants (length c.sorts)) (clause_trees c)) p.clauses ≡ true) ×
    (list_all (tree_in_scope p.constants (length q.sorts)) (flat_map goal_trees q.goals) ≡ true)

-- In the clauses of the program of an accepted file each chain has an operand, and so in the goals of a written query.
abbrev pub ChainsHaveOperands : Type 0
ChainsHaveOperands = (file : Text) (l : Loaded) (gs : List FormGoal) (p : Program) (q : Query) (names : Names) → IsLoaded file l → list_all goal_written gs ≡ true → IsQuery l gs p q names →
    (list_all (λ c. list_all operands_fit (clause_trees c)) p.clauses ≡ true) × (list_all operands_fit (flat_map goal_trees q.goals) ≡ true)

-- ---- the grammar

-- a list of tokens is read as one list of clauses at most
abbrev pub ClausesAreOne : Type 0
ClausesAreOne = (ts : List Token) (xs ys : List FormClause) → ReadsAll ReadsClause ts xs → ReadsAll ReadsClause ts ys → xs ≡ ys

-- and as one list of queries at most
abbrev pub QueriesAreOne : Type 0
QueriesAreOne = (ts : List Token) (xs ys : List FormQuery) → ReadsAll ReadsQuery ts xs → ReadsAll ReadsQuery ts ys → xs ≡ ys

-- clauses have one first refusal of their facts or none, and what is read before it is one
abbrev pub FactsAreOne : Type 0
FactsAreOne = (c d e : Circuits) (cs : List FormClause) (r s : Option (FactRefusal × ℕ)) → FactsRead c cs r d → FactsRead c cs s e → (r ≡ s) × (d ≡ e)

-- what the grammar reads is in its form, and no longer than the text
abbrev pub ReadingIsWritten : Type 0
ReadingIsWritten = (source : Text) →
    ((cs : List FormClause) → IsReading ReadsClause source (Whole cs) → AreClauses (length source) cs) ×
    ((qs : List FormQuery) → IsReading ReadsQuery source (Whole qs) → AreQueries (length source) qs)

-- each token's line is that of its first byte
abbrev pub TokenLines : Type 0
TokenLines = (source : Text) (ts : List Token) (f : Option Fault) → Lexes 0 1 source ts f → Each (λ t. t.line ≡ line_at source t.start) ts
