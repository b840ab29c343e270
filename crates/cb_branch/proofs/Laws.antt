-- What holds of any running branch.
use Rattle.std.proofs.Common.{◌≡◌, ℕ, ◌<◌, ◌≤◌, ◌++◌, false, List, [], ◌∷◌, length, refl, ap, sym, ◌∙◌, subst, arith, append_assoc}
use Rattle.std.specs.Prelude.{get_or, map}
use Rattle.std.proofs.lemmas.List.{append-nil}
use Rattle.cb_model.specs.declared.Tree.{Tree}
use Rattle.cb_model.specs.declared.Goal.{Goal}
use Rattle.cb_model.specs.declared.Goal.TheVariants as goal
use Rattle.cb_model.specs.Program.{Program}
use Rattle.cb_model.specs.Derivation.{Branch, Waiting, is_demon}
use Rattle.cb_sorts.specs.Source.{Source}
use Rattle.cb_sorts.specs.Asked.{Asked}
use Rattle.cb_sorts.specs.OverFile.{asked_program, asked_query}
use Rattle.cb_goals.specs.Chain.{goals_at}
use Rattle.cb_unify.proofs.Back as back
use Rattle.cb_unify.specs.State as state
use Rattle.cb_model.specs.declared.Sort.{Sort}
use Rattle.cb_heap.specs.declared.Ref.{Ref}
use Rattle.cb_wake.specs.Waits as wake
use Rattle.cb_goals.specs.declared.Pending.{Pending}
use Rattle.cb_goals.specs.declared.Pending.TheVariants as pending
use Rattle.cb_branch.specs.Scope.{IsGoalFor}
use Rattle.cb_items.specs.Shifted.{AreShifted, IsShiftedGoal}
use Rattle.cb_items.specs.Calls.{AreCalled, IsCalled}
use Rattle.cb_branch.specs.Running.{AreGoals, AreWaiting, IsTheBranch, StandsFor, StandsInCells, call_of, IsBranch, IsCall, Keeps, Seen, fulls_of, nodes_of, program_of, query_of, unbegun, with_fulls, work_of}
use Rattle.cb_branch.specs.Lending.{left_with}
use Rattle.cb_branch.specs.Laws.{HasItsValues}
use Rattle.cb_items.proofs.Bridges.{fulls-grown, fulls-vals, stands-later}
use Rattle.cb_wake.proofs.Back.{keeps-self, keeps-then as waits-then}
use Rattle.cb_branch.proofs.Branches.{asked, asked-on, goals-on, got-mapped, there-on, waiting-on}
use Rattle.cb_ready.proofs.Standing.{fits-number}

pub keeps-refl : (s : Seen) → Keeps s s
unfolding Keeps
keeps-refl s = record {
  program = refl;
  query = refl;
  state = back.keeps-none s.state;
  holds = λ is. is;
  fulls = omega arith;
  nodes = refl;
  frames = ([], sym (append-nil s.frames));
  links = ([], sym (append-nil s.links));
  waits = keeps-self s.waits;
  parked = ([], sym (append-nil s.parked));
}

pub keeps-then : (s t u : Seen) → Keeps s t → Keeps t u → Keeps s u
unfolding Keeps
keeps-then s t u h k = record {
  program = k.program ∙ h.program;
  query = k.query ∙ h.query;
  state = back.keeps-then s.state t.state u.state h.state k.state;
  holds = λ is. k.holds (h.holds is);
  fulls = let a = h.fulls in let b = k.fulls in omega arith;
  nodes = k.nodes ∙ h.nodes;
  frames = (h.frames.0 ++ k.frames.0, k.frames.1 ∙ ap (λ x. x ++ k.frames.0) h.frames.1 ∙ append_assoc s.frames h.frames.0 k.frames.0);
  links = (h.links.0 ++ k.links.0, k.links.1 ∙ ap (λ x. x ++ k.links.0) h.links.1 ∙ append_assoc s.links h.links.0 k.links.0);
  waits = waits-then s.waits t.waits u.waits h.waits k.waits;
  parked = (h.parked.0 ++ k.parked.0, k.parked.1 ∙ ap (λ x. x ++ k.parked.0) h.parked.1 ∙ append_assoc s.parked h.parked.0 k.parked.0);
}

-- a later count of refusals
pub keeps-with : (n : ℕ) (s : Seen) → fulls_of s ≤ n → Keeps s (with_fulls n s)
unfolding Keeps with_fulls fulls_of
keeps-with n s h = record {
  program = refl;
  query = refl;
  state = back.keeps-fulls s.state n;
  holds = λ is. back.state-fulls n s.state is;
  fulls = h;
  nodes = refl;
  frames = ([], sym (append-nil s.frames));
  links = ([], sym (append-nil s.links));
  waits = keeps-self s.waits;
  parked = ([], sym (append-nil s.parked));
}

pub program-keeps : (s t : Seen) → Keeps s t → program_of t ≡ program_of s
unfolding Keeps program_of
program-keeps s t h = λ i. asked_program (h.program i) (h.query i) []

pub query-keeps : (s t : Seen) → Keeps s t → query_of t ≡ query_of s
unfolding Keeps query_of
query-keeps s t h = ap asked_query h.query

-- the program and the query themselves, with their names
pub source-keeps : (s t : Seen) → Keeps s t → t.program ≡ s.program
unfolding Keeps
source-keeps s t h = h.program

pub asked-keeps : (s t : Seen) → Keeps s t → t.query ≡ s.query
unfolding Keeps
asked-keeps s t h = h.query

pub nodes-keep : (s t : Seen) → Keeps s t → nodes_of t ≡ nodes_of s
unfolding Keeps nodes_of
nodes-keep s t h = h.nodes

pub fulls-keep : (s t : Seen) → Keeps s t → fulls_of s ≤ fulls_of t
unfolding Keeps fulls_of
fulls-keep s t h = h.fulls

pub fulls-with : (n : ℕ) (s : Seen) → fulls_of (with_fulls n s) ≡ n
unfolding with_fulls fulls_of
fulls-with n s = refl

pub branch-fulls : (n : ℕ) (s : Seen) (b : Branch) → IsBranch s b → IsBranch (with_fulls n s) b
unfolding IsBranch with_fulls
branch-fulls n s b h = record {
  state = back.state-fulls n s.state h.state;
  fits = h.fits;
  constants = h.constants;
  drawn = h.drawn;
  variables = record { number = h.variables.number; sorts = h.variables.sorts };
  vals = fulls-vals n (asked_program s.program s.query []).world s.state b.items h.vals;
  solvable = h.solvable;
  goals = goals-on s (state.with_fulls n s.state) s.frames [] s.links s.top s.steps (goals_at s.links s.top) b.goals (sym (append-nil s.frames)) (fulls-grown n s.state) h.goals;
  top = h.top;
  asked = asked-on s (state.with_fulls n s.state) s.frames [] s.links s.top s.steps (sym (append-nil s.frames)) (fulls-grown n s.state) h.asked;
  waiting = waiting-on s (state.with_fulls n s.state) s.frames s.links s.top s.steps (wake.waiting s.waits) b.waiting (fulls-grown n s.state) h.waiting;
  next = h.next;
  parked = h.parked;
  there = there-on (length s.program.names) s.state (state.with_fulls n s.state) s.parked (fulls-grown n s.state) h.there;
  steps = h.steps;
  runnable = h.runnable;
}

-- a state that was lent
pub left-is : (n : ℕ) (s : Seen) → left_with n s ≡ with_fulls n s
unfolding with_fulls
left-is n s = refl

pub loan-keeps : (s : Seen) (n : ℕ) (b : Branch) → IsBranch s b → IsBranch (left_with n s) b
unfolding with_fulls
loan-keeps s n b h = branch-fulls n s b h

-- the waiting goals are calls in cells
calls-are : (s : Seen) (ks : List ℕ) (ws : List Waiting) → AreWaiting s ks ws → AreCalled (asked s).world.arguments s.state ws (map (λ k. get_or (map call_of s.parked) k (0, [])) ks)
calls-are s [] [] h = tt
calls-are s (k ∷ ks) (w ∷ ws) h =
    let p = h.0 in
    let c : get_or (map call_of s.parked) k (0, []) ≡ call_of p.call = got-mapped call_of s.parked k p.call (0, []) p.at in (
      subst (λ (y : ℕ × List Ref). IsCalled (asked s).world.arguments s.state w.goal y.0 y.1) (sym c)
          (subst (λ (g : Goal). IsCalled (asked s).world.arguments s.state g p.call.pred p.call.args) (sym p.is.is) (refl, p.cells.args)),
      calls-are s ks ws h.1,
    )
calls-are s [] (w ∷ ws) h = absurd h
calls-are s (k ∷ ks) [] h = absurd h

-- what a branch's terms say
pub has-values : (s : Seen) (b : Branch) → IsBranch s b → HasItsValues s b
unfolding IsBranch program_of
has-values s b h = record {
  state = h.state;
  fits = h.fits;
  constants = h.constants;
  drawn = h.drawn;
  variables = h.variables;
  vals = h.vals;
  waiting = calls-are s (wake.waiting s.waits) b.waiting h.waiting;
}

pub call-fulls : (n : ℕ) (s : Seen) (call pred : ℕ) (args : List Tree) → IsCall s call pred args → IsCall (with_fulls n s) call pred args
unfolding IsCall with_fulls
call-fulls n s call pred args h = (h.0, stands-later _ s.state (state.with_fulls n s.state) call _ (fulls-grown n s.state) h.1)

pub work-fulls : (n : ℕ) (s : Seen) → work_of (with_fulls n s) ≡ work_of s
unfolding with_fulls work_of
work-fulls n s = refl

called-name : Goal → ℕ
called-name (goal.Call n xs) = n
called-name _ = 0

called-args : Goal → List Tree
called-args (goal.Call n xs) = xs
called-args _ = []

-- as many as there were
pub shifted-number : (k : ℕ) (xs ys : List Tree) → AreShifted k xs ys → length ys ≡ length xs
shifted-number k [] [] h = refl
shifted-number k (x ∷ xs) (y ∷ ys) h = let e = shifted-number k xs ys h.1 in omega arith
shifted-number k [] (y ∷ ys) h = absurd h
shifted-number k (x ∷ xs) [] h = absurd h

-- what is asked of a called name
call-good : (p : Program) (n k : ℕ) (zs : List Sort) (g : Goal) (pred : ℕ) (args : List Tree) → IsGoalFor p n zs g → IsShiftedGoal k g (goal.Call pred args) →
    (pred < n) × (is_demon p pred ≡ false) × (length args ≡ length (get_or p.world.arguments pred []))
call-good p n k zs goal.True pred args h e = absurd e
call-good p n k zs goal.Fail pred args h e = absurd e
call-good p n k zs (goal.Equal l r) pred args h e = absurd e
call-good p n k zs (goal.Circuit m ins outs) pred args h e = absurd e
call-good p n k zs (goal.Call m xs) pred args h e = (
  subst (λ (x : ℕ). x < n) e.0 h.0,
  subst (λ (x : ℕ). is_demon p x ≡ false) e.0 h.1,
  shifted-number k xs args e.1 ∙ subst (λ (x : ℕ). length xs ≡ length (get_or p.world.arguments x [])) e.0 (fits-number p.world.arguments zs m xs h.2.fits),
)

cells-good : (s : Seen) (n call pred : ℕ) (args : List Tree) → StandsInCells s n call (goal.Call pred args) → (pred < length s.program.names) × (is_demon (asked s) pred ≡ false) × (length args ≡ length (get_or (asked s).world.arguments pred []))
unfolding called-name called-args
cells-good s n call pred args h =
    let e : n ≡ pred = sym (ap called-name h.is) in
    (subst (λ (x : ℕ). x < length s.program.names) e h.named, subst (λ (x : ℕ). is_demon (asked s) x ≡ false) e h.plain, ap length (ap called-args h.is) ∙ subst (λ (x : ℕ). length h.args ≡ length (get_or (asked s).world.arguments x [])) e h.number)

one-good : (s : Seen) (x : Pending) (pred : ℕ) (args : List Tree) → StandsFor s x (goal.Call pred args) → (pred < length s.program.names) × (is_demon (asked s) pred ≡ false) × (length args ≡ length (get_or (asked s).world.arguments pred []))
one-good s (pending.Asked place) pred args h = call-good (asked s) (length s.program.names) h.base h.place.sorts h.place.goal pred args h.good h.shifted
one-good s (pending.Body clause place frame) pred args h = call-good (asked s) (length s.program.names) h.base h.place.sorts h.place.goal pred args h.good h.shifted
one-good s (pending.Called n call) pred args h = cells-good s n call.0 pred args h

pub goals-call : (s : Seen) (xs : List Pending) (gs rest : List Goal) (pred : ℕ) (args : List Tree) → AreGoals s xs gs → gs ≡ goal.Call pred args ∷ rest →
    (pred < length s.program.names) × (is_demon (asked s) pred ≡ false) × (length args ≡ length (get_or (asked s).world.arguments pred []))
goals-call s xs gs rest pred args h e = one xs (subst (λ (x : List Goal). AreGoals s xs x) e h)
  where
    one : (ys : List Pending) → AreGoals s ys (goal.Call pred args ∷ rest) → (pred < length s.program.names) × (is_demon (asked s) pred ≡ false) × (length args ≡ length (get_or (asked s).world.arguments pred []))
    one [] k = absurd k
    one (y ∷ ys) k = one-good s y pred args k.0

pub call-named : (s : Seen) (b : Branch) (pred : ℕ) (args : List Tree) (rest : List Goal) → IsBranch s b → b.goals ≡ goal.Call pred args ∷ rest → pred < length s.program.names
unfolding IsBranch
call-named s b pred args rest h e = (goals-call s (goals_at s.links s.top) b.goals rest pred args h.goals e).0

-- what is asked of the first goal's name, and the number of its arguments
pub good-first : (s : Seen) (b : Branch) (pred : ℕ) (args : List Tree) (rest : List Goal) → IsTheBranch s b → b.goals ≡ goal.Call pred args ∷ rest →
    (length args ≡ length (get_or (asked s).world.arguments pred [])) × (pred < length s.program.names) × (is_demon (asked s) pred ≡ false)
good-first s b pred args rest h e = let k = goals-call s (goals_at s.links s.top) b.goals rest pred args h.goals e in (k.2, k.0, k.1)

-- no called name is a demon's
pub call-plain : (s : Seen) (b : Branch) (pred : ℕ) (args : List Tree) (rest : List Goal) → IsBranch s b → b.goals ≡ goal.Call pred args ∷ rest → is_demon (program_of s) pred ≡ false
unfolding IsBranch program_of
call-plain s b pred args rest h e = (goals-call s (goals_at s.links s.top) b.goals rest pred args h.goals e).1

pub program-unbegun : (p : Source) (q : Asked) (nodes : ℕ) → program_of (unbegun p q nodes) ≡ asked_program p q []
unfolding program_of
program-unbegun p q nodes = refl

pub query-unbegun : (p : Source) (q : Asked) (nodes : ℕ) → query_of (unbegun p q nodes) ≡ asked_query q
unfolding query_of
query-unbegun p q nodes = refl

pub nodes-unbegun : (p : Source) (q : Asked) (nodes : ℕ) → nodes_of (unbegun p q nodes) ≡ nodes
unfolding nodes_of
nodes-unbegun p q nodes = refl
