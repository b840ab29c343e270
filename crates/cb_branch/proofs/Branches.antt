-- A branch that goes on: what its goals stand for, and what it is after an addition.
use Rattle.std.proofs.Common.{◌≡◌, inl, inr, ℕ, zero, suc, ◌+◌, ◌<◌, ◌≤◌, List, [], ◌∷◌, ◌++◌, length, map, Some, refl, sym, ap, subst, ◌∙◌, arith}
use Rattle.std.specs.Prelude.{get_or, slice_get}
use Rattle.cb_model.specs.declared.Sort.{Sort}
use Rattle.cb_model.specs.declared.Tree.{Tree}
use Rattle.cb_model.specs.declared.Tree.TheVariants as tree
use Rattle.cb_model.specs.declared.Goal.{Goal}
use Rattle.cb_model.specs.declared.Goal.TheVariants as goal
use Rattle.cb_model.specs.declared.Clause.{Clause}
use Rattle.cb_model.specs.Bits.{Each}
use Rattle.cb_model.specs.Program.{Program, bools, shift_goal, shift_tree}
use Rattle.cb_model.specs.Equations.{Item}
use Rattle.cb_model.specs.Derivation.{Branch, Waiting, extended}
use Rattle.cb_sorts.specs.OverFile.{asked_program}
use Rattle.cb_goals.specs.declared.Link.{Link}
use Rattle.cb_goals.specs.declared.Pending.{Pending}
use Rattle.cb_goals.specs.declared.Pending.TheVariants as pending
use Rattle.cb_goals.specs.Chain.{goals_at, body_goals}
use Rattle.cb_heap.specs.declared.Ref.{Ref}
use Rattle.cb_wake.specs.Waits as wake
use Rattle.cb_unify.specs.State as state
use Rattle.cb_unify.specs.State.{IsState, FitsTable}
use Rattle.cb_unify.specs.Growth.{IsGrown}
use Rattle.cb_unify.proofs.Opened.{bools-append, get-left, where-is}
use Rattle.cb_branch.specs.Running.{Seen, Place, IsAt, StandsFor, StandsInCells, StandsInText, AreGoals, AreWaiting, HasAsked, IsTheBranch, behind}
use Rattle.cb_items.specs.Shifted.{IsShiftedGoal, AreShifted}
use Rattle.cb_branch.specs.Scope.{IsGoalFor}
use Rattle.cb_items.specs.Standing.{IsFrame, IsVals, HasVariables}
use Rattle.cb_ready.specs.Asking.{IsThere}
use Rattle.cb_ready.specs.Parked.{Parked}
use Rattle.cb_ready.proofs.Standing.{parked-later}
use Rattle.cb_branch.specs.Terms.{Adds}
use Rattle.cb_items.proofs.Lists.{append-nil, got-left, length-append, some-of, some-one}
use Rattle.cb_items.proofs.Bridges.{frame-later, stands-later}
use Rattle.cb_items.proofs.Shifts.{shifted-value}
use Rattle.cb_branch.proofs.Cells.{there-later}

-- the program that is asked
abbrev pub asked : Seen → Program
asked s = asked_program s.program s.query []

-- the same program, query and parked calls, with another state, frames and goals
abbrev pub moved : Seen → state.Seen → List (List ℕ) → List Link → ℕ → ℕ → Seen
moved s u fs ls top steps = record { program = s.program; query = s.query; state = u; frames = fs; links = ls; top = top; steps = steps; waits = s.waits; parked = s.parked }

-- what a map gives where something stands
pub got-mapped : {A B : Type 0} (f : A → B) (xs : List A) (k : ℕ) (x : A) (d : B) → slice_get xs k ≡ Some x → get_or (map f xs) k d ≡ f x
got-mapped {A = A} {B = B} f [] k x d e = absurd (cc)
got-mapped {A = A} {B = B} f (y ∷ ys) zero x d e = ap f (some-one y x e)
got-mapped {A = A} {B = B} f (y ∷ ys) (suc k) x d e = got-mapped f ys k x d e

-- ---- goals

at-later : (s : Seen) (u : state.Seen) (fs : List (List ℕ)) (ls : List Link) (top steps : ℕ) (x : Pending) (w : Place) → IsAt s x w → IsAt (moved s u fs ls top steps) x w
at-later s u fs ls top steps (pending.Asked place) w h = h
at-later s u fs ls top steps (pending.Body clause place frame) w h = h
at-later s u fs ls top steps (pending.Called pred call) w h = h

text-on : (s : Seen) (u : state.Seen) (fs more : List (List ℕ)) (ls : List Link) (top steps : ℕ) (x : Pending) (g : Goal) → fs ≡ s.frames ++ more → IsGrown s.state u → StandsInText s x g →
    StandsInText (moved s u fs ls top steps) x g
text-on s u fs more ls top steps x g e grown h = record {
  place = h.place;
  is = at-later s u fs ls top steps x h.place h.is;
  good = h.good;
  cells = h.cells;
  frame = ap (λ (l : List (List ℕ)). slice_get l h.place.frame) e ∙ got-left s.frames more h.place.frame h.cells h.frame;
  base = h.base;
  placed = frame-later s.state u h.base h.place.sorts h.cells grown h.placed;
  shifted = h.shifted;
}

cells-on : (s : Seen) (u : state.Seen) (fs : List (List ℕ)) (ls : List Link) (top steps pred call : ℕ) (g : Goal) → IsGrown s.state u → StandsInCells s pred call g → StandsInCells (moved s u fs ls top steps) pred call g
cells-on s u fs ls top steps pred call g grown h = record {
  args = h.args;
  is = h.is;
  there = there-later s.state u call grown h.there;
  stands = stands-later (asked s).world.arguments s.state u call (tree.Node pred h.args) grown h.stands;
  number = h.number;
  named = h.named;
  plain = h.plain;
}

stands-on : (s : Seen) (u : state.Seen) (fs more : List (List ℕ)) (ls : List Link) (top steps : ℕ) (x : Pending) (g : Goal) → fs ≡ s.frames ++ more → IsGrown s.state u → StandsFor s x g →
    StandsFor (moved s u fs ls top steps) x g
stands-on s u fs more ls top steps (pending.Asked place) g e grown h = text-on s u fs more ls top steps (pending.Asked place) g e grown h
stands-on s u fs more ls top steps (pending.Body clause place frame) g e grown h = text-on s u fs more ls top steps (pending.Body clause place frame) g e grown h
stands-on s u fs more ls top steps (pending.Called pred call) g e grown h = cells-on s u fs ls top steps pred call.0 g grown h

pub goals-on : (s : Seen) (u : state.Seen) (fs more : List (List ℕ)) (ls : List Link) (top steps : ℕ) (xs : List Pending) (gs : List Goal) → fs ≡ s.frames ++ more → IsGrown s.state u → AreGoals s xs gs →
    AreGoals (moved s u fs ls top steps) xs gs
goals-on s u fs more ls top steps [] [] e grown h = tt
goals-on s u fs more ls top steps (x ∷ xs) (g ∷ gs) e grown h = (stands-on s u fs more ls top steps x g e grown h.0, goals-on s u fs more ls top steps xs gs e grown h.1)
goals-on s u fs more ls top steps [] (g ∷ gs) e grown h = absurd h
goals-on s u fs more ls top steps (x ∷ xs) [] e grown h = absurd h

-- the waiting goals stay
cells-there : (s u : state.Seen) (rs : List Ref) → IsGrown s u → Each (λ r. r.0 < length s.heap.sorts) rs → Each (λ r. r.0 < length u.heap.sorts) rs
cells-there s u [] g h = tt
cells-there s u (r ∷ rs) g h = (there-later s u r.0 g h.0, cells-there s u rs g h.1)

pub there-on : (n : ℕ) (s u : state.Seen) (cs : List Parked) → IsGrown s u → Each (IsThere n s) cs → Each (IsThere n u) cs
there-on n s u [] g h = tt
there-on n s u (c ∷ cs) g h = (record { name = h.0.name; args = cells-there s u c.args g h.0.args }, there-on n s u cs g h.1)

pub waiting-on : (s : Seen) (u : state.Seen) (fs : List (List ℕ)) (ls : List Link) (top steps : ℕ) (ks : List ℕ) (ws : List Waiting) → IsGrown s.state u → AreWaiting s ks ws →
    AreWaiting (moved s u fs ls top steps) ks ws
unfolding cells-on
waiting-on s u fs ls top steps [] [] grown h = tt
waiting-on s u fs ls top steps (k ∷ ks) (w ∷ ws) grown h = (
  record {
    number = h.0.number;
    call = h.0.call;
    at = h.0.at;
    is = cells-on s u fs ls top steps h.0.call.pred h.0.call.call.0 w.goal grown h.0.is;
    cells = parked-later (asked s).world.arguments s.state u grown h.0.call h.0.is.args h.0.cells;
  },
  waiting-on s u fs ls top steps ks ws grown h.1,
)
waiting-on s u fs ls top steps [] (w ∷ ws) grown h = absurd h
waiting-on s u fs ls top steps (k ∷ ks) [] grown h = absurd h

-- the frame of the query stays
pub asked-on : (s : Seen) (u : state.Seen) (fs more : List (List ℕ)) (ls : List Link) (top steps : ℕ) → fs ≡ s.frames ++ more → IsGrown s.state u → HasAsked s → HasAsked (moved s u fs ls top steps)
asked-on s u fs more ls top steps e grown h = record {
  cells = h.cells;
  at = ap (λ (l : List (List ℕ)). slice_get l 0) e ∙ got-left s.frames more 0 h.cells h.at;
  placed = frame-later s.state u 0 s.query.sorts h.cells grown h.placed;
}

pub goals-append : (s : Seen) (xs ys : List Pending) (gs hs : List Goal) → AreGoals s xs gs → AreGoals s ys hs → AreGoals s (xs ++ ys) (gs ++ hs)
goals-append s [] ys [] hs h k = k
goals-append s (x ∷ xs) ys (g ∷ gs) hs h k = (h.0, goals-append s xs ys gs hs h.1 k)
goals-append s [] ys (g ∷ gs) hs h k = absurd h
goals-append s (x ∷ xs) ys [] hs h k = absurd h

-- a goal that stands in the text
abbrev pub IsText : Pending → Type 0
IsText (pending.Asked place) = Unit {0}
IsText (pending.Body clause place frame) = Unit {0}
IsText (pending.Called pred call) = ⊥

pub is-text : (x : Pending) → ((pred : ℕ) (call : Ref) → x ≡ pending.Called pred call → ⊥) → IsText x
is-text (pending.Asked place) h = tt
is-text (pending.Body clause place frame) h = tt
is-text (pending.Called pred call) h = h pred call refl

pub in-text : (s : Seen) (x : Pending) (g : Goal) → IsText x → StandsFor s x g → StandsInText s x g
in-text s (pending.Asked place) g i h = h
in-text s (pending.Body clause place frame) g i h = h
in-text s (pending.Called pred call) g i h = absurd i

-- an equation stands there
pub equal-text : (s : Seen) (x : Pending) (l r : Tree) → StandsFor s x (goal.Equal l r) → IsText x
equal-text s (pending.Asked place) l r h = tt
equal-text s (pending.Body clause place frame) l r h = tt
equal-text s (pending.Called pred call) l r h = let e = h.is in absurd (cc)

pub in-cells : (s : Seen) (x : Pending) (g : Goal) (pred : ℕ) (call : Ref) → x ≡ pending.Called pred call → StandsFor s x g → StandsInCells s pred call.0 g
in-cells s x g pred call e h = subst (λ (y : Pending). StandsFor s y g) e h

-- the first goal, and the others
pub goals-first : (s : Seen) (x : Pending) (xs : List Pending) (gs : List Goal) → AreGoals s (x ∷ xs) gs → (g : Goal) × (rest : List Goal) × (gs ≡ g ∷ rest) × StandsFor s x g × AreGoals s xs rest
goals-first s x xs [] h = absurd h
goals-first s x xs (g ∷ gs) h = (g, gs, refl, h.0, h.1)

pub goals-none : (s : Seen) (gs : List Goal) → AreGoals s [] gs → gs ≡ []
goals-none s [] h = refl
goals-none s (g ∷ gs) h = absurd h

all-shifted : (k : ℕ) (xs : List Tree) → AreShifted k xs (map (shift_tree k) xs)
all-shifted k [] = tt
all-shifted k (x ∷ xs) = (λ a v. shifted-value a v k x, all-shifted k xs)

goal-shifted : (p : Program) (n k : ℕ) (zs : List Sort) (g : Goal) → IsGoalFor p n zs g → IsShiftedGoal k g (shift_goal k g)
goal-shifted p n k zs goal.True h = tt
goal-shifted p n k zs goal.Fail h = tt
goal-shifted p n k zs (goal.Equal l r) h = (λ a v. shifted-value a v k l, λ a v. shifted-value a v k r)
goal-shifted p n k zs (goal.Circuit m ins outs) h = absurd h
goal-shifted p n k zs (goal.Call m xs) h = (refl, all-shifted k xs)

-- the body of a clause under a frame
module _ (t : Seen) (c : Clause) (clause number k : ℕ) (cells : List ℕ) (there : slice_get t.program.clauses clause ≡ Some c) (at : slice_get t.frames number ≡ Some cells) (placed : IsFrame t.state k c.sorts cells) where
  body-from : (place : ℕ) (gs : List Goal) → ((i : ℕ) (g : Goal) → slice_get gs i ≡ Some g → slice_get c.body (place + i) ≡ Some g) → Each (IsGoalFor (asked t) (length t.program.names) c.sorts) gs →
      AreGoals t (body_goals clause number place (length gs)) (map (shift_goal k) gs)
  body-from place [] f h = tt
  body-from place (g ∷ gs) f h = (
    record {
      place = record { sorts = c.sorts; goal = g; frame = number };
      is = (c, there, (let e : place + 0 ≡ place = omega arith in ap (λ n. slice_get c.body n) (sym e) ∙ f 0 g refl), refl, refl);
      good = h.0;
      cells = cells;
      frame = at;
      base = k;
      placed = placed;
      shifted = goal-shifted (asked t) (length t.program.names) k c.sorts g h.0;
    },
    body-from (suc place) gs (λ i x e. let n : suc place + i ≡ place + suc i = omega arith in ap (λ m. slice_get c.body m) n ∙ f (suc i) x e) h.1,
  )

  pub body-stands : Each (IsGoalFor (asked t) (length t.program.names) c.sorts) c.body → AreGoals t (body_goals clause number 0 (length c.body)) (map (shift_goal k) c.body)
  body-stands h = body-from 0 c.body (λ i g e. let n : 0 + i ≡ i = omega arith in ap (λ m. slice_get c.body m) n ∙ e) h

-- ---- variables

pub variables-same : (s u : state.Seen) (zs : List Sort) → IsGrown s u → u.made ≡ s.made → HasVariables s zs → HasVariables u (zs ++ [])
variables-same s u zs grown made h = record {
  number = ap length made ∙ h.number ∙ ap length (sym (append-nil zs));
  sorts = λ k r z e f. ap (λ (l : List Sort). slice_get l r) grown.sorts.1 ∙ get-left s.heap.sorts grown.sorts.0 r z
      (h.sorts k r z (ap (λ (l : List ℕ). slice_get l k) (sym made) ∙ e) (ap (λ (l : List Sort). slice_get l k) (sym (append-nil zs)) ∙ f));
}

pub variables-more : (s u : state.Seen) (ss zs : List Sort) (cells : List ℕ) → IsGrown s u → u.made ≡ s.made ++ cells → IsFrame u (length s.made) zs cells → HasVariables s ss → HasVariables u (ss ++ zs)
variables-more s u ss zs cells grown made placed h = record {
  number = ap length made ∙ length-append s.made cells ∙ (let a = h.number in let b = placed.number in let c = length-append ss zs in omega arith);
  sorts = λ k r z e f. elim (where-is ss zs k z f) [
    | inl i ↦
        let old = some-of s.made k (let a = h.number in let b = i.0 in omega arith) in
        let same : old.0 ≡ r = some-one old.0 r (sym (ap (λ (l : List ℕ). slice_get l k) made ∙ got-left s.made cells k old.0 old.1) ∙ e) in
        ap (λ (l : List Sort). slice_get l r) grown.sorts.1 ∙ get-left s.heap.sorts grown.sorts.0 r z (h.sorts k r z (subst (λ q. slice_get s.made k ≡ Some q) same old.1) i.1)
    | inr i ↦
        let p = placed.places i.0 z i.2 in
        let n : length s.made + i.0 ≡ k = (let a = h.number in let b = i.1 in omega arith) in
        let same : p.cell ≡ r = some-one p.cell r (sym p.made ∙ ap (λ m. slice_get u.made m) n ∙ e) in
        subst (λ q. slice_get u.heap.sorts q ≡ Some z) same p.sort
  ];
}

-- ---- after an addition

pub addition-goes : (s : Seen) (b : Branch) (u : state.Seen) (fs : List (List ℕ)) (ls : List Link) (list steps : ℕ) (x : Item) (zs : List Sort) (gs : List Goal) →
    IsTheBranch s b → Adds (asked s).world s.state u (bools zs) x → HasVariables u (b.sorts ++ zs) →
    AreGoals (moved s u fs ls list steps) (goals_at ls list) gs → HasAsked (moved s u fs ls list steps) → list ≤ length ls → steps ≡ s.steps + 1 →
    IsTheBranch (moved s u fs ls list steps) (extended b gs (x ∷ []) zs)
addition-goes s b u fs ls list steps x zs gs h adds vars goals first inside st = record {
  state = adds.state;
  fits = adds.fits;
  constants = adds.stays.constants ∙ h.constants;
  drawn = adds.stays.drawn ∙ (let d = h.drawn in let e = bools-append b.sorts zs in omega arith);
  variables = vars;
  vals = adds.vals b.items h.vals;
  solvable = adds.solvable b.items h.vals;
  goals = goals;
  top = inside;
  asked = first;
  waiting = waiting-on s u fs ls list steps (wake.waiting s.waits) b.waiting adds.grown h.waiting;
  next = h.next;
  parked = h.parked;
  there = there-on (length s.program.names) s.state u s.parked adds.grown h.there;
  steps = (let d = h.steps in omega (arith, st));
  runnable = h.runnable;
}

-- the same branch without its first goal, over cells that were added
pub behind-stands : (s : Seen) (b : Branch) (u : state.Seen) (ls : List Link) (list : ℕ) (rest : List Goal) →
    IsTheBranch s b → IsState u → IsGrown s.state u → u.made ≡ s.state.made → FitsTable (asked s).world.arguments u → u.store.constants ≡ s.state.store.constants → u.store.drawn ≡ s.state.store.drawn →
    IsVals (asked s).world u b.items → AreGoals s (goals_at ls list) rest → list ≤ length ls →
    IsTheBranch (moved s u s.frames ls list s.steps) (behind b rest)
behind-stands s b u ls list rest h is grown made fits ec ed vals goals inside = record {
  state = is;
  fits = fits;
  constants = ec ∙ h.constants;
  drawn = ed ∙ h.drawn;
  variables = subst (λ (zs : List Sort). HasVariables u zs) (append-nil b.sorts) (variables-same s.state u b.sorts grown made h.variables);
  vals = vals;
  solvable = h.solvable;
  goals = goals-on s u s.frames [] ls list s.steps (goals_at ls list) rest (sym (append-nil s.frames)) grown goals;
  top = inside;
  asked = asked-on s u s.frames [] ls list s.steps (sym (append-nil s.frames)) grown h.asked;
  waiting = waiting-on s u s.frames ls list s.steps (wake.waiting s.waits) b.waiting grown h.waiting;
  next = h.next;
  parked = h.parked;
  there = there-on (length s.program.names) s.state u s.parked grown h.there;
  steps = h.steps;
  runnable = h.runnable;
}
