-- What the first goal of a branch is, and what taking it comes to.
use Rattle.std.proofs.Common.{◌≡◌, ℕ, ◌+◌, ◌<◌, ◌≤◌, true, List, [], ◌∷◌, ◌++◌, length, map, Some, refl, sym, ap, subst, ◌∙◌, arith}
use Rattle.std.specs.Prelude.{slice_get}
use Rattle.cb_laws.proofs.Values.{value-node}
use Rattle.cb_model.specs.declared.Sort.{Sort}
use Rattle.cb_model.specs.declared.Sort.TheVariants as sort
use Rattle.cb_model.specs.declared.Tree.{Tree}
use Rattle.cb_model.specs.declared.Tree.TheVariants as tree
use Rattle.cb_model.specs.declared.Goal.{Goal}
use Rattle.cb_model.specs.declared.Goal.TheVariants as goal
use Rattle.cb_model.specs.declared.Clause.{Clause}
use Rattle.cb_model.specs.Bits.{Bits}
use Rattle.cb_model.specs.Values.{Ground, Name, Valuation, World, grounds, tree_in_scope, tree_value}
use Rattle.cb_model.specs.Program.{Program, bools, shift_goal, shift_tree}
use Rattle.cb_model.specs.Equations.{Item, Pair, Refuted}
use Rattle.cb_model.specs.Derivation.{Branch, extended, head_item, resolved}
use Rattle.cb_goals.specs.declared.Link.{Link}
use Rattle.cb_goals.specs.declared.Pending.{Pending}
use Rattle.cb_goals.specs.Chain.{body_goals, goals_at}
use Rattle.cb_heap.specs.declared.Ref.{Ref}
use Rattle.cb_goals.specs.declared.Pending.TheVariants as pending
use Rattle.cb_unify.specs.State as state
use Rattle.cb_unify.specs.State.{FitsTable, IsState}
use Rattle.cb_branch.specs.declared.First.TheVariants as first
use Rattle.cb_branch.specs.Running.{AreGoals, IsAt, IsBranch, IsFirst, IsTheBranch, Place, Seen, StandsFor, StandsInText, behind}
use Rattle.cb_items.specs.Shifted.{AreShifted, IsShifted, IsShiftedGoal, shifted}
use Rattle.cb_items.specs.Standing.{IsFrame, Stands}
use Rattle.cb_items.proofs.Lists.{append-nil, got-back, some-one}
use Rattle.cb_items.proofs.Bridges.{built-stands, extended-items, made-there}
use Rattle.cb_branch.specs.Scope.{IsClauseFor, IsGoalFor, IsTreeFor}
use Rattle.cb_branch.specs.Terms.{Adds, ForEquation, ForHead, IsBuildable, IsHead, IsRenamed, Makes, NoItem}
use Rattle.cb_branch.proofs.Cells.{sort-there}
use Rattle.cb_branch.proofs.Branches.{IsText, addition-goes, asked, asked-on, equal-text, in-cells, in-text, behind-stands, body-stands, goals-append, goals-first, goals-none, goals-on, moved, variables-more, variables-same}

-- ---- kinds of goals

kind-true : (k : ℕ) (g : Goal) → IsShiftedGoal k goal.True g → g ≡ goal.True
kind-true k goal.True h = refl
kind-true k goal.Fail h = absurd h
kind-true k (goal.Equal l r) h = absurd h
kind-true k (goal.Circuit m i o) h = absurd h
kind-true k (goal.Call n xs) h = absurd h

kind-fail : (k : ℕ) (g : Goal) → IsShiftedGoal k goal.Fail g → g ≡ goal.Fail
kind-fail k goal.Fail h = refl
kind-fail k goal.True h = absurd h
kind-fail k (goal.Equal l r) h = absurd h
kind-fail k (goal.Circuit m i o) h = absurd h
kind-fail k (goal.Call n xs) h = absurd h

kind-equal : (k : ℕ) (x y : Tree) (g : Goal) → IsShiftedGoal k (goal.Equal x y) g → (l : Tree) × (r : Tree) × (g ≡ goal.Equal l r)
kind-equal k x y (goal.Equal l r) h = (l, r, refl)
kind-equal k x y goal.True h = absurd h
kind-equal k x y goal.Fail h = absurd h
kind-equal k x y (goal.Circuit m i o) h = absurd h
kind-equal k x y (goal.Call n xs) h = absurd h

kind-call : (k n : ℕ) (xs : List Tree) (g : Goal) → IsShiftedGoal k (goal.Call n xs) g → (args : List Tree) × (g ≡ goal.Call n args)
kind-call k n xs (goal.Call m ys) h = (ys, ap (λ (x : ℕ). goal.Call x ys) (sym h.0))
kind-call k n xs goal.True h = absurd h
kind-call k n xs goal.Fail h = absurd h
kind-call k n xs (goal.Equal l r) h = absurd h
kind-call k n xs (goal.Circuit m i o) h = absurd h

-- ---- the first goal

-- where the list is a goal in front of another, the branch's first goal is what it stands for
pub taken : (s : Seen) (b : Branch) (x : Pending) (xs : List Pending) → IsTheBranch s b → goals_at s.links s.top ≡ x ∷ xs →
    (g : Goal) × (rest : List Goal) × (b.goals ≡ g ∷ rest) × StandsFor s x g × AreGoals s xs rest
taken s b x xs h e = goals-first s x xs b.goals (subst (λ (ys : List Pending). AreGoals s ys b.goals) e h.goals)

-- the same, of a goal that is known
pub taken-as : (s : Seen) (b : Branch) (g : Goal) (rest : List Goal) (x : Pending) (xs : List Pending) → IsTheBranch s b → b.goals ≡ g ∷ rest → goals_at s.links s.top ≡ x ∷ xs →
    StandsFor s x g × AreGoals s xs rest
taken-as s b g rest x xs h e f = subst (λ (gs : List Goal). AreGoals s (x ∷ xs) gs) e (subst (λ (ys : List Pending). AreGoals s ys b.goals) f h.goals)

module _ (s : Seen) (b : Branch) (is : IsBranch s b) where
  open-branch : IsTheBranch s b
  unfolding IsBranch
  open-branch = is

  pub first-nothing : goals_at s.links s.top ≡ [] → IsFirst first.Nothing b.goals
  first-nothing e = goals-none s b.goals (subst (λ (ys : List Pending). AreGoals s ys b.goals) e open-branch.goals)

  module _ (x : Pending) (xs : List Pending) (e : goals_at s.links s.top ≡ x ∷ xs) where
    pub first-called : (pred : ℕ) (call : Ref) → x ≡ pending.Called pred call → IsFirst (first.Call pred) b.goals
    first-called pred call f = let t = taken s b x xs open-branch e in let c = in-cells s x t.0 pred call f t.3 in (c.args, t.1, t.2 ∙ ap (λ (g : Goal). g ∷ t.1) c.is)

    module _ (text : IsText x) where
      first-text : StandsInText s x (taken s b x xs open-branch e).0
      first-text = let t = taken s b x xs open-branch e in in-text s x t.0 text t.3

      pub first-place : (w : Place) × IsAt s x w
      first-place = (first-text.place, first-text.is)

      module _ (g : Goal) (wr : (w : Place) → IsAt s x w → w.goal ≡ g) where
        first-shifted : (k : ℕ) × (g' : Goal) × (rest : List Goal) × (b.goals ≡ g' ∷ rest) × IsShiftedGoal k g g' × IsGoalFor (asked s) (length s.program.names) first-text.place.sorts g
        first-shifted =
            let t = taken s b x xs open-branch e in
            let f = first-text in
            let p = wr f.place f.is in
            (f.base, t.0, t.1, t.2, subst (λ (y : Goal). IsShiftedGoal f.base y t.0) p f.shifted, subst (λ (y : Goal). IsGoalFor (asked s) (length s.program.names) f.place.sorts y) p f.good)

      pub first-true : ((w : Place) → IsAt s x w → w.goal ≡ goal.True) → IsFirst first.True b.goals
      first-true wr = let t = first-shifted goal.True wr in (t.2, t.3 ∙ ap (λ (g : Goal). g ∷ t.2) (kind-true t.0 t.1 t.4))

      pub first-fail : ((w : Place) → IsAt s x w → w.goal ≡ goal.Fail) → IsFirst first.Fail b.goals
      first-fail wr = let t = first-shifted goal.Fail wr in (t.2, t.3 ∙ ap (λ (g : Goal). g ∷ t.2) (kind-fail t.0 t.1 t.4))

      pub first-equal : (u v : Tree) → ((w : Place) → IsAt s x w → w.goal ≡ goal.Equal u v) → IsFirst first.Equal b.goals
      first-equal u v wr = let t = first-shifted (goal.Equal u v) wr in let k = kind-equal t.0 u v t.1 t.4 in (k.0, k.1, t.2, t.3 ∙ ap (λ (g : Goal). g ∷ t.2) k.2)

      pub first-call : (n : ℕ) (us : List Tree) → ((w : Place) → IsAt s x w → w.goal ≡ goal.Call n us) → IsFirst (first.Call n) b.goals
      first-call n us wr = let t = first-shifted (goal.Call n us) wr in let k = kind-call t.0 n us t.1 t.4 in (k.0, t.2, t.3 ∙ ap (λ (g : Goal). g ∷ t.2) k.1)

      pub first-circuit : (m : ℕ) (u v : Tree) → ((w : Place) → IsAt s x w → w.goal ≡ goal.Circuit m u v) → ⊥
      first-circuit m u v wr = (first-shifted (goal.Circuit m u v) wr).5

-- ---- an equation

equation-parts : (p : Program) (n k : ℕ) (zs : List Sort) (g : Goal) (u v l r : Tree) → g ≡ goal.Equal u v → IsGoalFor p n zs g → IsShiftedGoal k g (goal.Equal l r) →
    (z : Sort) × IsTreeFor p zs z u × IsTreeFor p zs z v × IsShifted k u l × IsShifted k v r
equation-parts p n k zs g u v l r e h i =
    let a = subst (λ (x : Goal). IsGoalFor p n zs x) e h in
    let c = subst (λ (x : Goal). IsShiftedGoal k x (goal.Equal l r)) e i in
    (a.0, a.1, a.2, c.0, c.1)

buildable-of : (s : Seen) (b : Branch) (zs : List Sort) (z : Sort) (cells : List ℕ) (base : ℕ) (u : Tree) → IsTheBranch s b → IsFrame s.state base zs cells → IsTreeFor (asked s) zs z u →
    IsBuildable s.state (asked s).world.arguments zs cells z u
buildable-of s b zs z cells base u h f t = record {
  table = h.fits;
  frame_is = record {
    number = f.number;
    sorts = λ k r y e i. let p = f.places k y e in let same : p.cell ≡ r = some-one p.cell r (sym p.at ∙ i) in subst (λ q. slice_get s.state.heap.sorts q ≡ Some y) same p.sort;
  };
  scope = subst (λ n. tree_in_scope n (length zs) u ≡ true) (sym h.constants) t.scope;
  fits = t.fits;
}

module _ (s : Seen) (b : Branch) (l r : Tree) (rest : List Goal) (x : Pending) (list : ℕ) (u v : Tree) (cells : List ℕ) (h : IsTheBranch s b) (e : b.goals ≡ goal.Equal l r ∷ rest)
    (at : goals_at s.links s.top ≡ x ∷ goals_at s.links list) (wr : (w : Place) → IsAt s x w → (w.goal ≡ goal.Equal u v) × (slice_get s.frames w.frame ≡ Some cells)) where
  pub equation-at : StandsInText s x (goal.Equal l r) × AreGoals s (goals_at s.links list) rest
  equation-at = let t = taken-as s b (goal.Equal l r) rest x (goals_at s.links list) h e at in (in-text s x (goal.Equal l r) (equal-text s x l r t.0) t.0, t.1)

  pub equation-frame : IsFrame s.state equation-at.0.base equation-at.0.place.sorts cells
  equation-frame =
      let t = equation-at.0 in
      subst (λ (c : List ℕ). IsFrame s.state t.base t.place.sorts c) (some-one t.cells cells (sym t.frame ∙ (wr t.place t.is).1)) t.placed

  pub equation-trees : (z : Sort) × IsTreeFor (asked s) equation-at.0.place.sorts z u × IsTreeFor (asked s) equation-at.0.place.sorts z v × IsShifted equation-at.0.base u l × IsShifted equation-at.0.base v r
  equation-trees = let t = equation-at.0 in equation-parts (asked s) (length s.program.names) t.base t.place.sorts t.place.goal u v l r (wr t.place t.is).0 t.good t.shifted

  pub equation-left : IsBuildable s.state (asked s).world.arguments equation-at.0.place.sorts cells equation-trees.0 u
  equation-left = buildable-of s b equation-at.0.place.sorts equation-trees.0 cells equation-at.0.base u h equation-frame equation-trees.1

  pub equation-right : IsBuildable s.state (asked s).world.arguments equation-at.0.place.sorts cells equation-trees.0 v
  equation-right = buildable-of s b equation-at.0.place.sorts equation-trees.0 cells equation-at.0.base v h equation-frame equation-trees.2

  pub equation-buildable : (t : List (List Sort)) × (zs : List Sort) × (z : Sort) × IsBuildable s.state t zs cells z u × IsBuildable s.state t zs cells z v
  equation-buildable = ((asked s).world.arguments, equation-at.0.place.sorts, equation-trees.0, equation-left, equation-right)

  equation-of : (P : World → Item → Type 0) → ForEquation s.state cells u v P → P (asked s).world (Pair l r)
  equation-of P f = f (asked s).world equation-at.0.place.sorts equation-trees.0 equation-at.0.base l r equation-left equation-right equation-frame equation-trees.3 equation-trees.4

  pub equation-goes : (t : state.Seen) → list ≤ length s.links → ForEquation s.state cells u v (λ w i. Adds w s.state t 0 i × (t.made ≡ s.state.made)) →
      IsTheBranch (moved s t s.frames s.links list (s.steps + 1)) (extended b rest (Pair l r ∷ []) [])
  equation-goes t inside f =
      let a = equation-of (λ w i. Adds w s.state t 0 i × (t.made ≡ s.state.made)) f in
      addition-goes s b t s.frames s.links list (s.steps + 1) (Pair l r) [] rest h a.0 (variables-same s.state t b.sorts a.0.grown a.1 h.variables)
      (goals-on s t s.frames [] s.links list (s.steps + 1) (goals_at s.links list) rest (sym (append-nil s.frames)) a.0.grown equation-at.1)
      (asked-on s t s.frames [] s.links list (s.steps + 1) (sym (append-nil s.frames)) a.0.grown h.asked) inside refl

  pub equation-fails : ForEquation s.state cells u v (λ w i. NoItem w s.state i) → Refuted (asked s).world (b.items ++ Pair l r ∷ [])
  equation-fails f = equation-of (λ w i. NoItem w s.state i) f b.items h.vals

-- ---- a call

call-parts : (p : Program) (n k : ℕ) (zs : List Sort) (g : Goal) (m : ℕ) (us : List Tree) (pred : ℕ) (args : List Tree) → g ≡ goal.Call m us → IsGoalFor p n zs g → IsShiftedGoal k g (goal.Call pred args) →
    (m ≡ pred) × IsTreeFor p zs sort.Term (tree.Node m us) × AreShifted k us args
call-parts p n k zs g m us pred args e h i =
    let a = subst (λ (x : Goal). IsGoalFor p n zs x) e h in
    let c = subst (λ (x : Goal). IsShiftedGoal k x (goal.Call pred args)) e i in
    (c.0, a.2, c.1)

args-shifted : (a : Bits) (v : Valuation) (k : ℕ) (us args : List Tree) → AreShifted k us args → map (tree_value a v) args ≡ map (tree_value a (shifted k v)) us
args-shifted a v k [] [] h = refl
args-shifted a v k (x ∷ xs) (y ∷ ys) h = let e = h.0 a v in let t = args-shifted a v k xs ys h.1 in λ i. e i ∷ t i
args-shifted a v k [] (y ∷ ys) h = absurd h
args-shifted a v k (x ∷ xs) [] h = absurd h

call-shifted : (k m pred : ℕ) (us args : List Tree) → m ≡ pred → AreShifted k us args → IsShifted k (tree.Node m us) (tree.Node pred args)
call-shifted k m pred us args e h a v =
    value-node a v pred args ∙ ap (λ (gs : List Ground). Name pred (grounds gs)) (args-shifted a v k us args h) ∙ ap (λ (n : ℕ). Name n (grounds (map (tree_value a (shifted k v)) us))) (sym e)
    ∙ sym (value-node a (shifted k v) m us)

module _ (s : Seen) (b : Branch) (pred : ℕ) (args : List Tree) (rest : List Goal) (x : Pending) (list m : ℕ) (us : List Tree) (cells : List ℕ) (h : IsTheBranch s b) (e : b.goals ≡ goal.Call pred args ∷ rest)
    (at : goals_at s.links s.top ≡ x ∷ goals_at s.links list) (wr : (w : Place) → IsAt s x w → (w.goal ≡ goal.Call m us) × (slice_get s.frames w.frame ≡ Some cells)) (text : IsText x) where
  pub call-at : StandsInText s x (goal.Call pred args) × AreGoals s (goals_at s.links list) rest
  call-at = let t = taken-as s b (goal.Call pred args) rest x (goals_at s.links list) h e at in (in-text s x (goal.Call pred args) text t.0, t.1)

  pub call-frame : IsFrame s.state call-at.0.base call-at.0.place.sorts cells
  call-frame =
      let t = call-at.0 in
      subst (λ (c : List ℕ). IsFrame s.state t.base t.place.sorts c) (some-one t.cells cells (sym t.frame ∙ (wr t.place t.is).1)) t.placed

  pub call-trees : (m ≡ pred) × IsTreeFor (asked s) call-at.0.place.sorts sort.Term (tree.Node m us) × AreShifted call-at.0.base us args
  call-trees = let t = call-at.0 in call-parts (asked s) (length s.program.names) t.base t.place.sorts t.place.goal m us pred args (wr t.place t.is).0 t.good t.shifted

  pub call-tree : IsBuildable s.state (asked s).world.arguments call-at.0.place.sorts cells sort.Term (tree.Node m us)
  call-tree = buildable-of s b call-at.0.place.sorts sort.Term cells call-at.0.base (tree.Node m us) h call-frame call-trees.1

  pub call-buildable : (t : List (List Sort)) × (zs : List Sort) × IsBuildable s.state t zs cells sort.Term (tree.Node m us)
  call-buildable = ((asked s).world.arguments, call-at.0.place.sorts, call-tree)

  module _ (t : state.Seen) (r : ℕ) (ist : IsState t) (inside : list ≤ length s.links)
      (makes : (ts : List (List Sort)) (zs : List Sort) → IsBuildable s.state ts zs cells sort.Term (tree.Node m us) → Makes ts s.state t zs cells sort.Term (tree.Node m us) r) where
    pub call-made : Makes (asked s).world.arguments s.state t call-at.0.place.sorts cells sort.Term (tree.Node m us) r
    call-made = makes (asked s).world.arguments call-at.0.place.sorts call-tree

    pub call-behind : IsTheBranch (moved s t s.frames s.links list s.steps) (behind b rest)
    call-behind = behind-stands s b t s.links list rest h ist call-made.extended.grown call-made.extended.made call-made.fits call-made.stays.constants (let d = call-made.stays.drawn in omega arith)
        (extended-items s.state t call-made.extended (made-there s.state h.state) (asked s).world call-made.fits b.items h.vals) call-at.1 inside

    pub call-cell : (r < length t.heap.sorts) × Stands (asked s).world.arguments t r (tree.Node pred args)
    call-cell = (
      sort-there t r sort.Term call-made.sort,
      built-stands (asked s).world.arguments s.state t call-at.0.place.sorts cells (tree.Node m us) (tree.Node pred args) r call-made.built call-made.extended.grown call-at.0.base call-frame
          (call-shifted call-at.0.base m pred us args call-trees.0 call-trees.2),
    )

last-got : (fs : List (List ℕ)) (f : List ℕ) → slice_get (fs ++ f ∷ []) (length fs) ≡ Some f
last-got fs f = let n : length fs + 0 ≡ length fs = omega arith in ap (λ k. slice_get (fs ++ f ∷ []) k) (sym n) ∙ got-back fs (f ∷ []) 0

-- ---- a clause

module _ (s : Seen) (b : Branch) (pred : ℕ) (args : List Tree) (clause call : ℕ) (c : Clause) (h : IsTheBranch s b) (there : slice_get s.program.clauses clause ≡ Some c) (of : c.pred ≡ pred)
    (cells : Stands (asked s).world.arguments s.state call (tree.Node pred args)) where
  good : IsClauseFor (asked s) (length s.program.names) c
  good = h.runnable.clauses clause c there

  pub clause-head : IsHead s.state (asked s).world.arguments c.sorts c.pred c.head
  clause-head = record {
    table = h.fits;
    scope = subst (λ n. tree_in_scope n (length c.sorts) (tree.Node c.pred c.head) ≡ true) (sym h.constants) good.head.scope;
    fits = good.head.fits;
  }

  clause-of : (P : World → Item → Type 0) → ForHead s.state c.sorts c.pred c.head call P → P (asked s).world (head_item pred (map (shift_tree (length b.sorts)) c.head) args)
  clause-of P f =
      subst (λ (k : ℕ). P (asked s).world (head_item pred (map (shift_tree k) c.head) args)) h.variables.number
      (subst (λ (p : ℕ). P (asked s).world (Pair (tree.Node p (map (shift_tree (length s.state.made)) c.head)) (tree.Node pred args))) of
      (subst (λ (p : ℕ). P (asked s).world (Pair (tree.Node c.pred (map (shift_tree (length s.state.made)) c.head)) (tree.Node p args))) of
      (f (asked s).world args clause-head (subst (λ (p : ℕ). Stands (asked s).world.arguments s.state call (tree.Node p args)) (sym of) cells))))

  pub clause-fails : ForHead s.state c.sorts c.pred c.head call (λ w i. NoItem w s.state i) → Refuted (asked s).world (resolved b pred args c).items
  clause-fails f = clause-of (λ w i. NoItem w s.state i) f b.items h.vals

  pub clause-goes : (t : state.Seen) (frame : List ℕ) (fs : List (List ℕ)) (ls more : List Link) (list : ℕ) → fs ≡ s.frames ++ frame ∷ [] → list ≤ length ls →
      goals_at ls list ≡ body_goals clause (length s.frames) 0 (length c.body) ++ goals_at s.links s.top →
      ForHead s.state c.sorts c.pred c.head call (λ w i. Adds w s.state t (bools c.sorts) i × IsRenamed s.state t c.sorts frame) →
      IsTheBranch (moved s t fs ls list (s.steps + 1)) (resolved b pred args c)
  clause-goes t frame fs ls more list ef inside el f =
      let a = clause-of (λ w i. Adds w s.state t (bools c.sorts) i × IsRenamed s.state t c.sorts frame) f in
      let u = moved s t fs ls list (s.steps + 1) in
      let placed : IsFrame t (length b.sorts) c.sorts frame = subst (λ (k : ℕ). IsFrame t k c.sorts frame) h.variables.number a.1.frame_is in
      let at : slice_get fs (length s.frames) ≡ Some frame = ap (λ (l : List (List ℕ)). slice_get l (length s.frames)) ef ∙ last-got s.frames frame in
      let body : AreGoals u (body_goals clause (length s.frames) 0 (length c.body)) (map (shift_goal (length b.sorts)) c.body) = body-stands u c clause (length s.frames) (length b.sorts) frame there at placed good.body in
      let others : AreGoals u (goals_at s.links s.top) b.goals = goals-on s t fs (frame ∷ []) ls list (s.steps + 1) (goals_at s.links s.top) b.goals ef a.0.grown h.goals in
      addition-goes s b t fs ls list (s.steps + 1) (head_item pred (map (shift_tree (length b.sorts)) c.head) args) c.sorts (map (shift_goal (length b.sorts)) c.body ++ b.goals) h a.0
      (variables-more s.state t b.sorts c.sorts frame a.0.grown a.1.made a.1.frame_is h.variables)
      (subst (λ (xs : List Pending). AreGoals u xs (map (shift_goal (length b.sorts)) c.body ++ b.goals)) (sym el) (goals-append u _ _ _ _ body others))
      (asked-on s t fs (frame ∷ []) ls list (s.steps + 1) ef a.0.grown h.asked) inside refl
