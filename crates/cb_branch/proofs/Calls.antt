-- What the calls of a branch ask of its parts, and what they leave.
use Rattle.std.proofs.Common.{◌≡◌, ◌^◌, ℕ, zero, suc, ◌+◌, ◌*◌, ◌<◌, ◌≤◌, List, [], ◌∷◌, length, Some, refl, sym, ap, subst, ◌∙◌, arith, append-nil}
use Rattle.std.specs.Prelude.{get_or, slice_get}
use Rattle.cb_model.specs.declared.Sort.{Sort}
use Rattle.cb_model.specs.declared.Sort.TheVariants as sort
use Rattle.cb_model.specs.declared.Tree.{Tree}
use Rattle.cb_model.specs.declared.Tree.TheVariants as tree
use Rattle.cb_model.specs.declared.Goal.{Goal}
use Rattle.cb_model.specs.declared.Goal.TheVariants as goal
use Rattle.cb_model.specs.declared.Clause.{Clause}
use Rattle.cb_model.specs.Values.{Sorts}
use Rattle.cb_model.specs.Program.{bools}
use Rattle.cb_model.specs.Derivation.{Branch}
use Rattle.cb_sorts.specs.Source.{Source}
use Rattle.cb_sorts.specs.Asked.{Asked}
use Rattle.cb_goals.specs.declared.Link.{Link}
use Rattle.cb_goals.specs.declared.Pending.{Pending}
use Rattle.cb_goals.specs.declared.Pending.TheVariants as pending
use Rattle.cb_goals.specs.Chain.{goals_at}
use Rattle.cb_heap.specs.declared.Ref.{Ref}
use Rattle.cb_wake.specs.Waits as wake
use Rattle.cb_wake.specs.Waits.{Waits}
use Rattle.cb_ready.specs.Parked.{Parked}
use Rattle.cb_unify.specs.State as state
use Rattle.cb_unify.specs.State.{IsState}
use Rattle.cb_unify.proofs.Opened.{grown-same}
use Rattle.cb_unify.proofs.Back.{keeps-none}
use Rattle.cb_items.specs.Shifted.{IsShiftedGoal}
use Rattle.cb_items.specs.Standing.{Stands}
use Rattle.cb_items.proofs.Lists.{got-within, some-one}
use Rattle.cb_branch.specs.Running.{AreGoals, HasRoom, IsAt, IsBranch, IsCall, IsLater, IsResolvable, IsTheBranch, Keeps, Place, Seen, StandsFor, StandsInText, Starts, behind, program_of, work_of}
use Rattle.cb_branch.specs.Scope.{IsGoalFor}
use Rattle.cb_branch.specs.Terms.{IsBuildable, IsHead, Makes}
use Rattle.cb_branch.proofs.Branches.{IsText, asked, behind-stands, equal-text, goals-none, in-cells, in-text}
use Rattle.cb_branch.proofs.Takes.{call-behind, call-buildable, call-cell, clause-head, taken-as}
use Rattle.cb_branch.proofs.Methods.{seen}
use Rattle.cb_wake.proofs.Back.{keeps-self}
use Rattle.cb_branch.proofs.Work.{work-falls}

-- ---- kinds of goals, by what they stand for

equal-kind : (k : ℕ) (g : Goal) (l r : Tree) → IsShiftedGoal k g (goal.Equal l r) → (x : Tree) × (y : Tree) × (g ≡ goal.Equal x y)
equal-kind k (goal.Equal x y) l r h = (x, y, refl)
equal-kind k goal.True l r h = absurd h
equal-kind k goal.Fail l r h = absurd h
equal-kind k (goal.Circuit m i o) l r h = absurd h
equal-kind k (goal.Call n xs) l r h = absurd h

pub call-kind : (k : ℕ) (g : Goal) (n : ℕ) (ts : List Tree) → IsShiftedGoal k g (goal.Call n ts) → (m : ℕ) × (xs : List Tree) × (g ≡ goal.Call m xs)
call-kind k (goal.Call m xs) n ts h = (m, xs, refl)
call-kind k goal.True n ts h = absurd h
call-kind k goal.Fail n ts h = absurd h
call-kind k (goal.Equal x y) n ts h = absurd h
call-kind k (goal.Circuit m i o) n ts h = absurd h

-- ---- the first goal of a branch that has one

module _ (now : Seen) (g : Goal) (st : Starts now g) where
  opened : IsTheBranch now st.b
  unfolding IsBranch
  opened = st.is

  pub list-inside : now.top ≤ length now.links
  list-inside = opened.top

  pub not-nothing : goals_at now.links now.top ≡ [] → ⊥
  not-nothing e = let n : g ∷ st.rest ≡ [] = sym st.goals ∙ goals-none now st.b.goals (subst (λ (xs : List Pending). AreGoals now xs st.b.goals) e opened.goals) in absurd (cc)

  module _ (x : Pending) (xs : List Pending) (e : goals_at now.links now.top ≡ x ∷ xs) where
    first-for : StandsFor now x g
    first-for = (taken-as now st.b g st.rest x xs opened st.goals e).0

    module _ (text : IsText x) where
      first-is : StandsInText now x g
      first-is = in-text now x g text first-for

      pub place-there : (w : Place) × IsAt now x w
      place-there = (first-is.place, first-is.is)

      -- the frame that is named is there
      pub frame-number : (n : ℕ) → ((w : Place) → IsAt now x w → n ≡ w.frame) → n < length now.frames
      frame-number n h = let p = first-is in let s = got-within now.frames p.place.frame p.cells p.frame in let q = h p.place p.is in omega arith

-- an equation stands in the text
pub equal-is : (now : Seen) (l r : Tree) (st : Starts now (goal.Equal l r)) (x : Pending) (xs : List Pending) (e : goals_at now.links now.top ≡ x ∷ xs) → IsText x
equal-is now l r st x xs e = equal-text now x l r (first-for now (goal.Equal l r) st x xs e)

pub not-equal : (now : Seen) (l r : Tree) (st : Starts now (goal.Equal l r)) (x : Pending) (xs : List Pending) (e : goals_at now.links now.top ≡ x ∷ xs) (g : Goal) → ((w : Place) → IsAt now x w → g ≡ w.goal) →
    ((u v : Tree) → g ≡ goal.Equal u v → ⊥) → ⊥
not-equal now l r st x xs e g wr other =
    let p = first-is now (goal.Equal l r) st x xs e (equal-is now l r st x xs e) in
    let k = equal-kind p.base p.place.goal l r p.shifted in
    other k.0 k.1 (wr p.place p.is ∙ k.2)

pub not-call : (now : Seen) (n : ℕ) (ts : List Tree) (st : Starts now (goal.Call n ts)) (x : Pending) (xs : List Pending) (e : goals_at now.links now.top ≡ x ∷ xs) (text : IsText x) (g : Goal) →
    ((w : Place) → IsAt now x w → g ≡ w.goal) → ((m : ℕ) (us : List Tree) → g ≡ goal.Call m us → ⊥) → ⊥
not-call now n ts st x xs e text g wr other =
    let p = first-is now (goal.Call n ts) st x xs e text in
    let k = call-kind p.base p.place.goal n ts p.shifted in
    other k.0 k.1 (wr p.place p.is ∙ k.2)

-- a called name is one of the program's
pub call-name : (now : Seen) (n : ℕ) (ts : List Tree) (st : Starts now (goal.Call n ts)) (x : Pending) (xs : List Pending) (e : goals_at now.links now.top ≡ x ∷ xs) (text : IsText x) (m : ℕ) (us : List Tree) →
    ((w : Place) → IsAt now x w → w.goal ≡ goal.Call m us) → m < length now.program.names
call-name now n ts st x xs e text m us wr =
    let p = first-is now (goal.Call n ts) st x xs e text in
    (subst (λ (g : Goal). IsGoalFor (asked now) (length now.program.names) p.place.sorts g) (wr p.place p.is) p.good).0

-- what was read of the text, with the cells of the frame
pub read-at : (now : Seen) (x : Pending) (g h : Goal) (n : ℕ) (cells : List ℕ) (fs : List (List ℕ)) → ((w : Place) → IsAt now x w → (g ≡ w.goal) × (n ≡ w.frame)) → g ≡ h → slice_get fs n ≡ Some cells →
    (w : Place) → IsAt now x w → (w.goal ≡ h) × (slice_get fs w.frame ≡ Some cells)
read-at now x g h n cells fs wr e f w at = let p = wr w at in (sym p.0 ∙ e, ap (λ k. slice_get fs k) (sym p.1) ∙ f)

-- ---- the state

pub state-here : (now : Seen) (p : Source) (q : Asked) (u : state.Seen) (fs : List (List ℕ)) (ls : List Link) (top steps : ℕ) (ws : Waits) (pk : List Parked) → seen p q u fs ls top steps ws pk ≡ now → (b : Branch) → IsBranch now b → IsState u
unfolding IsBranch
state-here now p q u fs ls top steps ws pk v b is = subst (λ (o : Seen). IsState o.state) (sym v) is.state

-- ---- a goal that is taken away

module _ (now : Seen) (p : Source) (q : Asked) (u : state.Seen) (fs : List (List ℕ)) (ls : List Link) (top steps : ℕ) (ws : Waits) (pk : List Parked) (v : seen p q u fs ls top steps ws pk ≡ now) where
  abbrev here : Seen
  here = seen p q u fs ls top steps ws pk

  -- a list of goals with its first goal away, over the same cells
  pub skip-behind : (x : Pending) (list : ℕ) → goals_at ls top ≡ x ∷ goals_at ls list → list ≤ length ls → (b : Branch) (g : Goal) (rest : List Goal) → IsBranch now b → b.goals ≡ g ∷ rest →
      IsBranch (seen p q u fs ls list steps ws pk) (behind b rest)
  unfolding IsBranch
  skip-behind x list at inside b g rest is e =
      let h : IsTheBranch here b = subst (λ (o : Seen). IsTheBranch o b) (sym v) is in
      behind-stands here b u ls list rest h h.state (grown-same u) refl h.fits refl refl h.vals (taken-as here b g rest x (goals_at ls list) h e at).1 inside

  pub work-less : (x : Pending) (list : ℕ) (t : state.Seen) (n : ℕ) → goals_at ls top ≡ x ∷ goals_at ls list → work_of (seen p q t fs ls list n ws pk) < work_of now
  unfolding work_of
  work-less x list t n at =
      let e = ap length at in
      let g = length (goals_at ls list) in
      let h = length (goals_at ls top) in
      let m = length (wake.waiting ws) in
      subst (λ (o : Seen). (g + m) * ((g + m) + 2) + g < work_of o) v (work-falls (h + m) h (g + m) g (omega arith) (omega arith))

  pub skip-keeps : (list : ℕ) → Keeps now (seen p q u fs ls list steps ws pk)
  unfolding Keeps
  skip-keeps list = subst (λ (o : Seen). IsLater o (seen p q u fs ls list steps ws pk)) v (record {
    program = refl;
    query = refl;
    state = keeps-none u;
    holds = λ is. is;
    fulls = omega arith;
    nodes = refl;
    frames = ([], sym (append-nil fs));
    links = ([], sym (append-nil ls));
    waits = keeps-self ws;
    parked = ([], sym (append-nil pk));
  })

  -- ---- a call

  module _ (x : Pending) (list m : ℕ) (us : List Tree) (cells : List ℕ) (at : goals_at ls top ≡ x ∷ goals_at ls list) (inside : list ≤ length ls)
      (wr : (w : Place) → IsAt now x w → (w.goal ≡ goal.Call m us) × (slice_get fs w.frame ≡ Some cells)) (text : IsText x) where
    wr-here : (w : Place) → IsAt here x w → (w.goal ≡ goal.Call m us) × (slice_get fs w.frame ≡ Some cells)
    wr-here = subst (λ (o : Seen). (w : Place) → IsAt o x w → (w.goal ≡ goal.Call m us) × (slice_get fs w.frame ≡ Some cells)) (sym v) wr

    pub call-can : (b : Branch) (pred : ℕ) (args : List Tree) (rest : List Goal) → IsBranch now b → b.goals ≡ goal.Call pred args ∷ rest → (t : Sorts) × (zs : List Sort) × IsBuildable u t zs cells sort.Term (tree.Node m us)
    unfolding IsBranch
    call-can b pred args rest is e = call-buildable here b pred args rest x list m us cells (subst (λ (o : Seen). IsTheBranch o b) (sym v) is) e at wr-here text

    pub call-is : (t : state.Seen) (r : ℕ) → IsState t → ((ts : Sorts) (zs : List Sort) → IsBuildable u ts zs cells sort.Term (tree.Node m us) → Makes ts u t zs cells sort.Term (tree.Node m us) r) →
        (b : Branch) (pred : ℕ) (args : List Tree) (rest : List Goal) → IsBranch now b → b.goals ≡ goal.Call pred args ∷ rest → IsBranch (seen p q t fs ls list steps ws pk) (behind b rest) × IsCall (seen p q t fs ls list steps ws pk) r pred args
    unfolding IsBranch IsCall
    call-is t r ist makes b pred args rest is e =
        let h = subst (λ (o : Seen). IsTheBranch o b) (sym v) is in
        (call-behind here b pred args rest x list m us cells h e at wr-here text t r ist inside makes, call-cell here b pred args rest x list m us cells h e at wr-here text t r ist inside makes)

  -- a call whose arguments are in cells

  tree-of : Goal → Tree
  tree-of (goal.Call n xs) = tree.Node n xs
  tree-of _ = tree.Node 0 []

  pub called-is : (x : Pending) (list n : ℕ) (r : Ref) → x ≡ pending.Called n r → goals_at ls top ≡ x ∷ goals_at ls list → list ≤ length ls →
      (b : Branch) (pred : ℕ) (args : List Tree) (rest : List Goal) → IsBranch now b → b.goals ≡ goal.Call pred args ∷ rest → IsBranch (seen p q u fs ls list steps ws pk) (behind b rest) × IsCall (seen p q u fs ls list steps ws pk) r.0 pred args
  unfolding IsBranch IsCall tree-of
  called-is x list n r f at inside b pred args rest is e =
      let h : IsTheBranch here b = subst (λ (o : Seen). IsTheBranch o b) (sym v) is in
      let g = taken-as here b (goal.Call pred args) rest x (goals_at ls list) h e at in
      let c = in-cells here x (goal.Call pred args) n r f g.0 in (
        behind-stands here b u ls list rest h h.state (grown-same u) refl h.fits refl refl h.vals g.1 inside,
        (c.there, subst (λ (y : Tree). Stands (asked here).world.arguments u r.0 y) (sym (ap tree-of c.is)) c.stands),
      )

-- ---- room

room-drawn : (s : Seen) (b : Branch) (n : ℕ) → IsBranch s b → (program_of s).constants + bools b.sorts + n ≤ 4096 → s.state.store.drawn + n ≤ 4096
unfolding IsBranch program_of
room-drawn s b n is h = let d = is.drawn in omega arith

room-steps : (s : Seen) (b : Branch) → IsBranch s b → b.steps ≡ s.steps
unfolding IsBranch
room-steps s b is = is.steps

pub steps-few : (s : Seen) (n : ℕ) → HasRoom s n → s.steps < 1000000
steps-few s n h = let a = h.steps in let e = room-steps s h.b h.is in omega arith

-- ---- a clause

module _ (now : Seen) (clause call : ℕ) (h : IsResolvable now clause call) where
  branch-of : IsTheBranch now h.b
  unfolding IsBranch
  branch-of = h.is

  pub source-has : slice_get now.program.clauses clause ≡ Some h.c
  unfolding program_of
  source-has = h.there

  pub clause-there : clause < length now.program.clauses
  clause-there = got-within now.program.clauses clause h.c source-has

  pub same-clause : (c : Clause) → slice_get now.program.clauses clause ≡ Some c → c ≡ h.c
  same-clause c e = some-one c h.c (sym e ∙ source-has)

  pub resolve-inside : now.top ≤ length now.links
  resolve-inside = branch-of.top

  pub resolve-call : call < length now.state.heap.sorts
  unfolding IsCall
  resolve-call = h.cells.0

  pub resolve-head : (c : Clause) → slice_get now.program.clauses clause ≡ Some c → (t : Sorts) × IsHead now.state t c.sorts c.pred c.head
  unfolding IsCall
  resolve-head c e =
      let s = same-clause c e in
      ((asked now).world.arguments, subst (λ (x : Clause). IsHead now.state (asked now).world.arguments x.sorts x.pred x.head) (sym s) (clause-head now h.b h.pred h.args clause call h.c branch-of source-has h.of h.cells.1))

  pub resolve-room : (c : Clause) → slice_get now.program.clauses clause ≡ Some c → now.state.store.drawn + bools c.sorts < 2 ^ 32
  resolve-room c e =
      let s = ap (λ (x : Clause). bools x.sorts) (same-clause c e) in
      let d = room-drawn now h.room.b (bools h.c.sorts) h.room.is h.room.variables in
      omega arith

  pub resolve-steps : now.steps < 1000000
  resolve-steps = steps-few now (bools h.c.sorts) h.room

  pub resolve-body : (c : Clause) → slice_get now.program.clauses clause ≡ Some c → length c.body < 2 ^ 32
  resolve-body c e = (branch-of.runnable.clauses clause c e).few

-- what is behind a list's first goal is a list that is there
pub rest-inside : (now : Seen) (p : Source) (q : Asked) (u : state.Seen) (fs : List (List ℕ)) (ls : List Link) (top steps : ℕ) (ws : Waits) (pk : List Parked) → seen p q u fs ls top steps ws pk ≡ now → (g : Goal) → Starts now g → (list : ℕ) → list < top → list ≤ length ls
rest-inside now p q u fs ls top steps ws pk v g st list h =
    let i = list-inside now g st in
    let a = ap (λ (o : Seen). o.top) v in
    let b = ap (λ (o : Seen). length o.links) v in
    omega arith

-- the lists are those that are seen
pub goals-here : (now : Seen) (p : Source) (q : Asked) (u : state.Seen) (fs : List (List ℕ)) (ls : List Link) (top steps : ℕ) (ws : Waits) (pk : List Parked) → seen p q u fs ls top steps ws pk ≡ now → (xs : List Pending) → goals_at ls top ≡ xs → goals_at now.links now.top ≡ xs
goals-here now p q u fs ls top steps ws pk v xs e = sym (ap (λ (o : Seen). goals_at o.links o.top) v) ∙ e

pub top-here : (now : Seen) (p : Source) (q : Asked) (u : state.Seen) (fs : List (List ℕ)) (ls : List Link) (top steps : ℕ) (ws : Waits) (pk : List Parked) → seen p q u fs ls top steps ws pk ≡ now → now.top ≤ length now.links → top ≤ length ls
top-here now p q u fs ls top steps ws pk v h = let a = ap (λ (o : Seen). o.top) v in let b = ap (λ (o : Seen). length o.links) v in omega arith

pub frame-here : (now : Seen) (p : Source) (q : Asked) (u : state.Seen) (fs : List (List ℕ)) (ls : List Link) (top steps : ℕ) (ws : Waits) (pk : List Parked) → seen p q u fs ls top steps ws pk ≡ now → (n : ℕ) → n < length now.frames → n < length fs
frame-here now p q u fs ls top steps ws pk v n h = let a = ap (λ (o : Seen). length o.frames) v in omega arith

-- the cells that stand in a place of the frames
pub got-cells : (fs : List (List ℕ)) (n : ℕ) (cells : List ℕ) → n < length fs → cells ≡ get_or fs n cells → slice_get fs n ≡ Some cells
got-cells [] n cells l e = absurd (omega arith)
got-cells (f ∷ fs) zero cells l e = ap Some (sym e)
got-cells (f ∷ fs) (suc n) cells l e = got-cells fs n cells (omega arith) e
