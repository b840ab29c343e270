-- Calls of a branch that are put into cells, asked whether they are ready, and put aside, over the parts of the branch.
use Rattle.std.proofs.Common.{◌≡◌, ◌↔◌, ℕ, zero, suc, ◌<◌, ◌≤◌, Bool, true, false, Ok, Err, List, [], ◌∷◌, ◌++◌, length, map, get_or, Some, None, refl, sym, ap, subst, ◌∙◌, arith}
use Rattle.std.specs.Prelude.{IfOk, IsTrue, Result, not, slice_get}
use Rattle.cb_dd.specs.declared.Stop.{Stop}
use Rattle.cb_model.specs.declared.Clause.{Clause}
use Rattle.std.proofs.lemmas.Option.{slice_get-get_or}
use Rattle.cb_model.specs.declared.Sort.{Sort}
use Rattle.cb_model.specs.declared.Tree.{Tree}
use Rattle.cb_model.specs.declared.Tree.TheVariants as tree
use Rattle.cb_model.specs.declared.Goal.{Goal}
use Rattle.cb_model.specs.declared.Goal.TheVariants as goal
use Rattle.cb_model.specs.Bits.{Each, Parts}
use Rattle.cb_model.specs.Equations.{Item, Solvable}
use Rattle.cb_model.specs.Program.{Program}
use Rattle.cb_model.specs.Derivation.{Branch, Ready, Waiting, Woken, is_demon, waits}
use Rattle.cb_sorts.specs.Source.{Source}
use Rattle.cb_sorts.specs.Asked.{Asked}
use Rattle.cb_sorts.specs.OverFile.{asked_program}
use Rattle.cb_goals.specs.declared.Link.{Link}
use Rattle.cb_goals.specs.declared.Pending.{Pending}
use Rattle.cb_goals.specs.declared.Pending.TheVariants as pending
use Rattle.cb_goals.specs.Chain.{goals_at}
use Rattle.cb_heap.specs.declared.Ref.{Ref}
use Rattle.cb_unify.specs.State as state
use Rattle.cb_unify.specs.State.{FitsTable, IsState}
use Rattle.cb_unify.proofs.Back.{keeps-none}
use Rattle.cb_wake.specs.Waits as wake
use Rattle.cb_wake.specs.Waits.{Waits}
use Rattle.cb_wake.specs.Moments as wakes
use Rattle.cb_wake.proofs.Back.{keeps-self}
use Rattle.cb_items.specs.Standing.{Stands}
use Rattle.cb_items.specs.Shifted.{IsShiftedGoal}
use Rattle.cb_items.proofs.Lists.{append-nil, each-at, some-one}
use Rattle.cb_ready.specs.Parked.{Parked, IsParked as HasCells}
use Rattle.cb_ready.specs.Asking.{IsAskable, IsReadyAt, asking}
use Rattle.cb_ready.proofs.Words.{ready-at}
use Rattle.cb_ready.specs.Ready.{IsAsked, IsPlainCall, TellsReady}
use Rattle.cb_branch.specs.Running.{AreGoals, GoesOn, IsAt, IsBranch, IsCall, IsCelled, IsLater, IsParked, IsTheBranch, IsWaiting, Keeps, OnCells, Place, Seen, StandsFor, StandsInCells, StandsInText, Starts, StartsInCells, Wakes, behind, call_of, calls_of, pending_at, program_of}
use Rattle.cb_branch.proofs.Branches.{IsText, asked, goals-none, got-mapped, in-text}
use Rattle.cb_branch.proofs.Takes.{taken-as}
use Rattle.cb_branch.proofs.Fronts.{called-front, none-wakes, numbers-below, parked-behind, part-below, woken-stands}
use Rattle.cb_branch.proofs.Calls.{call-kind}
use Rattle.cb_branch.proofs.Laws.{good-first, program-keeps, shifted-number}
use Rattle.cb_branch.proofs.Methods.{seen}

-- ---- a call that is put into cells

-- what is asked of a call's name stays
pub cells-of : (old now : Seen) (b : Branch) (pred n call : ℕ) (args : List Tree) (rest : List Goal) → Keeps old now → IsBranch old b → b.goals ≡ goal.Call n args ∷ rest → pred ≡ n → IsCall now call n args →
    StandsInCells now pred call (goal.Call n args)
unfolding IsBranch IsCall Keeps
cells-of old now b pred n call args rest k h e same c =
    let f = good-first old b n args rest h e in
    let p = k.program in
    let q = k.query in
    let g : (length args ≡ length (get_or (asked now).world.arguments n [])) × (n < length now.program.names) × (is_demon (asked now) n ≡ false) =
    subst (λ (x : Source). (length args ≡ length (get_or (asked_program x now.query []).world.arguments n [])) × (n < length x.names) × (is_demon (asked_program x now.query []) n ≡ false)) (sym p)
    (subst (λ (x : Asked). (length args ≡ length (get_or (asked_program old.program x []).world.arguments n [])) × (n < length old.program.names) × (is_demon (asked_program old.program x []) n ≡ false)) (sym q) f) in
    record {
      args = args;
      is = ap (λ (m : ℕ). goal.Call m args) (sym same);
      there = c.0;
      stands = subst (λ (m : ℕ). Stands (asked now).world.arguments now.state call (tree.Node m args)) (sym same) c.1;
      number = subst (λ (m : ℕ). length args ≡ length (get_or (asked now).world.arguments m [])) (sym same) g.0;
      named = subst (λ (m : ℕ). m < length now.program.names) (sym same) g.1;
      plain = subst (λ (m : ℕ). is_demon (asked now) m ≡ false) (sym same) g.2;
    }

-- the answer by number is the answer for the waiting goal
decides-at : (s : Seen) (b : Branch) → IsTheBranch s b → (k : ℕ) (w : Waiting) → IsParked s k w → IsReadyAt (asking s.state s.program s.query s.parked) k ↔ Ready (asked s) b.items w.goal
decides-at s b h k w i =
    let a : IsAsked s.state (asked s) b.items i.call.pred i.call.args i.is.args =
    record { vals = h.vals; fits = h.fits; args = i.cells.args; call = record { plain = i.is.plain; number = i.is.number; words = h.runnable.words } } in
    subst (λ (g : Goal). IsReadyAt (asking s.state s.program s.query s.parked) k ↔ Ready (asked s) b.items g) (sym i.is.is)
    (ready-at (asking s.state s.program s.query s.parked) b.items k i.call i.is.args i.at a)

solvable-of : (s : Seen) (b : Branch) → IsBranch s b → Solvable (program_of s).world b.items
unfolding IsBranch program_of
solvable-of s b is = is.solvable

goals-of : (s : Seen) (b : Branch) → IsBranch s b → AreGoals s (goals_at s.links s.top) b.goals
unfolding IsBranch
goals-of s b is = is.goals

first-one : (g h : Goal) (gs hs : List Goal) → g ∷ gs ≡ h ∷ hs → g ≡ h
first-one g h gs hs e = cc

-- what a map gives in a place
mapped-at : {A B : Type 0} (f : A → B) (xs : List A) (k : ℕ) (x : A) → slice_get xs k ≡ Some x → slice_get (map f xs) k ≡ Some (f x)
mapped-at {A = A} {B = B} f [] k x e = absurd (cc)
mapped-at {A = A} {B = B} f (y ∷ ys) zero x e = ap (λ (z : A). Some (f z)) (some-one y x e)
mapped-at {A = A} {B = B} f (y ∷ ys) (suc k) x e = mapped-at f ys k x e

map-length : {A B : Type 0} (f : A → B) (xs : List A) → length (map f xs) ≡ length xs
map-length {A = A} {B = B} f [] = refl
map-length {A = A} {B = B} f (x ∷ xs) = ap suc (map-length f xs)

past : {A : Type 0} (xs : List A) (k : ℕ) → slice_get xs k ≡ None → length xs ≤ k
past {A = A} [] k e = omega arith
past {A = A} (x ∷ xs) zero e = absurd (cc)
past {A = A} (x ∷ xs) (suc k) e = let h = past xs k e in omega arith

-- what stands for a call is one, with as many arguments
call-shape : (k m : ℕ) (us : List Tree) (g : Goal) → IsShiftedGoal k (goal.Call m us) g → (args : List Tree) × (g ≡ goal.Call m args) × (length args ≡ length us)
call-shape k m us (goal.Call n ys) h = (ys, ap (λ (x : ℕ). goal.Call x ys) (sym h.0), shifted-number k us ys h.1)
call-shape k m us goal.True h = absurd h
call-shape k m us goal.Fail h = absurd h
call-shape k m us (goal.Equal l r) h = absurd h
call-shape k m us (goal.Circuit i ins outs) h = absurd h

head-name : List Goal → ℕ
head-name (goal.Call n xs ∷ gs) = n
head-name _ = 0

-- one list has one first name
pub same-name : (gs : List Goal) (n m : ℕ) (xs ys : List Tree) (rest others : List Goal) → gs ≡ goal.Call n xs ∷ rest → gs ≡ goal.Call m ys ∷ others → m ≡ n
unfolding head-name
same-name gs n m xs ys rest others e f = sym (ap head-name f) ∙ ap head-name e

pub not-delayed : (b : Bool) → not b ≡ true → b ≡ false
not-delayed true e = absurd (cc)
not-delayed false e = refl

-- ---- the first goal of a branch is a call where that of another is

same-at : (s : Seen) (x : Pending) (w u : Place) → IsAt s x w → IsAt s x u → w.goal ≡ u.goal
same-at s (pending.Asked place) w u h k = some-one w.goal u.goal (sym h.0 ∙ k.0)
same-at s (pending.Body clause place frame) w u h k =
    some-one w.goal u.goal (sym h.2 ∙ ap (λ (c : Clause). slice_get c.body place) (some-one h.0 k.0 (sym h.1 ∙ k.1)) ∙ k.2)
same-at s (pending.Called pred call) w u h k = absurd h

text-call : (s : Seen) (x : Pending) (n : ℕ) (ts : List Tree) (g : Goal) → StandsInText s x (goal.Call n ts) → StandsInText s x g → (m : ℕ) × (args : List Tree) × (g ≡ goal.Call m args)
text-call s x n ts g h k =
    let w = call-kind h.base h.place.goal n ts h.shifted in
    let e : k.place.goal ≡ goal.Call w.0 w.1 = same-at s x k.place h.place k.is h.is ∙ w.2 in
    let c = call-shape k.base w.0 w.1 g (subst (λ (y : Goal). IsShiftedGoal k.base y g) e k.shifted) in
    (w.0, c.0, c.1)

is-call : (s : Seen) (x : Pending) (n : ℕ) (ts : List Tree) (g : Goal) → StandsFor s x (goal.Call n ts) → StandsFor s x g → (m : ℕ) × (args : List Tree) × (g ≡ goal.Call m args)
is-call s (pending.Asked place) n ts g h k = text-call s (pending.Asked place) n ts g h k
is-call s (pending.Body clause place frame) n ts g h k = text-call s (pending.Body clause place frame) n ts g h k
is-call s (pending.Called pred call) n ts g h k = (pred, k.args, k.is)

first-call-at : (s : Seen) (xs : List Pending) (n : ℕ) (ts : List Tree) (rest gs : List Goal) → AreGoals s xs (goal.Call n ts ∷ rest) → AreGoals s xs gs →
    (m : ℕ) × (args : List Tree) × (others : List Goal) × (gs ≡ goal.Call m args ∷ others)
first-call-at s [] n ts rest gs h k = absurd h
first-call-at s (x ∷ xs) n ts rest [] h k = absurd k
first-call-at s (x ∷ xs) n ts rest (g ∷ gs) h k = let c = is-call s x n ts g h.0 k.0 in (c.0, c.1, gs, ap (λ (y : Goal). y ∷ gs) c.2)

pub first-call-of : (s : Seen) (n : ℕ) (ts : List Tree) (st : Starts s (goal.Call n ts)) (b : Branch) → IsBranch s b → (m : ℕ) × (args : List Tree) × (rest : List Goal) × (b.goals ≡ goal.Call m args ∷ rest)
unfolding IsBranch
first-call-of s n ts st b is =
    first-call-at s (goals_at s.links s.top) n ts st.rest b.goals (subst (λ (gs : List Goal). AreGoals s (goals_at s.links s.top) gs) st.goals (goals-of s st.b st.is)) is.goals

-- whether the first goal is ready, by the branch that has it in cells
pub ready-by : (old mid : Seen) (n : ℕ) (ts : List Tree) (st : Starts old (goal.Call n ts)) (pred call : ℕ) (x : Bool) → IsCelled old mid pred call → Keeps old mid →
    OnCells mid pred call (λ b g. IsTrue x ↔ Ready (program_of mid) b.items g) → (b : Branch) (g : Goal) (rest : List Goal) → IsBranch old b → b.goals ≡ g ∷ rest → IsTrue x ↔ Ready (program_of old) b.items g
ready-by old mid n ts st pred call x celled keeps tells b g rest is e =
    let k = first-call-of old n ts st b is in
    let z = celled b k.0 k.1 k.2 is k.3 in
    let a : IsTrue x ↔ Ready (program_of mid) b.items (goal.Call k.0 k.1) = tells b (goal.Call k.0 k.1) k.2 z.0 k.3 z.1 in
    let f : goal.Call k.0 k.1 ≡ g = first-one (goal.Call k.0 k.1) g k.2 rest (sym k.3 ∙ e) in
    subst (λ (y : Goal). IsTrue x ↔ Ready (program_of old) b.items y) f (subst (λ (p : Program). IsTrue x ↔ Ready p b.items (goal.Call k.0 k.1)) (program-keeps old mid keeps) a)

pub true-of : (x : Bool) → ◌≡◌ {A = Result Bool Stop} (Ok x) (Ok true) → IsTrue x
true-of x e = cc

pub false-of : (x : Bool) → ◌≡◌ {A = Result Bool Stop} (Ok x) (Ok false) → IsTrue x → ⊥
false-of x e t = absurd (cc)

pub if-ok : {A E : Type 0} {P Q : A → Type 0} (r : Result A E) → ((x : A) → P x → Q x) → IfOk r P → IfOk r Q
if-ok {A = A} {E = E} {P = P} {Q = Q} (Ok x) f h = f x h
if-ok {A = A} {E = E} {P = P} {Q = Q} (Err e) f h = tt

module _ (now : Seen) (p : Source) (q : Asked) (u : state.Seen) (fs : List (List ℕ)) (ls : List Link) (top steps : ℕ) (ws : Waits) (pk : List Parked) (v : seen p q u fs ls top steps ws pk ≡ now) where
  abbrev here : Seen
  here = seen p q u fs ls top steps ws pk

  pub here-is : (b : Branch) → IsBranch now b → IsTheBranch here b
  unfolding IsBranch
  here-is b is = subst (λ (o : Seen). IsTheBranch o b) (sym v) is

  pub list-here : (b : Branch) → IsBranch now b → top ≤ length ls
  list-here b is = (here-is b is).top

  -- a call in cells goes in front
  pub put-front : (ls' : List Link) (list pred : ℕ) (call : Ref) → list ≤ length ls' → goals_at ls' list ≡ pending.Called pred call ∷ goals_at ls top →
      (b : Branch) (g : Goal) (rest : List Goal) → IsBranch now (behind b rest) → b.goals ≡ g ∷ rest → StandsInCells now pred call.0 g →
      IsBranch (seen p q u fs ls' list steps ws pk) b × StandsInCells (seen p q u fs ls' list steps ws pk) pred call.0 g
  unfolding IsBranch
  put-front ls' list pred call inside at b g rest is e c =
      let k : StandsInCells here pred call.0 g = subst (λ (o : Seen). StandsInCells o pred call.0 g) (sym v) c in
      let h = called-front here (behind b rest) ls' list pred call g (here-is (behind b rest) is) inside at k in (
        subst (λ (gs : List Goal). IsTheBranch (seen p q u fs ls' list steps ws pk) (record b { goals = gs })) (sym e) h,
        record { args = k.args; is = k.is; there = k.there; stands = k.stands; number = k.number; named = k.named; plain = k.plain },
      )

  -- only lists were added
  pub keeps-lists : (ls' more : List Link) (list : ℕ) → ls' ≡ ls ++ more → Keeps now (seen p q u fs ls' list steps ws pk)
  unfolding Keeps
  keeps-lists ls' more list e = subst (λ (o : Seen). IsLater o (seen p q u fs ls' list steps ws pk)) v (record {
    program = refl;
    query = refl;
    state = keeps-none u;
    holds = λ is. is;
    fulls = omega arith;
    nodes = refl;
    frames = ([], sym (append-nil fs));
    links = (more, e);
    waits = keeps-self ws;
    parked = ([], sym (append-nil pk));
  })

  -- other goals wait
  pub keeps-waits : (ls' more : List Link) (list : ℕ) (ws' : Waits) (pk' held : List Parked) → ls' ≡ ls ++ more → wakes.KeepsMoments ws ws' → pk' ≡ pk ++ held → Keeps now (seen p q u fs ls' list steps ws' pk')
  unfolding Keeps
  keeps-waits ls' more list ws' pk' held e k f = subst (λ (o : Seen). IsLater o (seen p q u fs ls' list steps ws' pk')) v (record {
    program = refl;
    query = refl;
    state = keeps-none u;
    holds = λ is. is;
    fulls = omega arith;
    nodes = refl;
    frames = ([], sym (append-nil fs));
    links = (more, e);
    waits = k;
    parked = (held, f);
  })

  -- there is a first goal
  pub not-none : (b : Branch) (g : Goal) (rest : List Goal) → IsBranch now b → b.goals ≡ g ∷ rest → goals_at ls top ≡ [] → ⊥
  not-none b g rest is e n = let f = goals-none here b.goals (subst (λ (xs : List Pending). AreGoals here xs b.goals) n (here-is b is).goals) in let k : g ∷ rest ≡ [] = sym e ∙ f in absurd (cc)

  -- a call of a name without a delay, as its place in the text tells
  pub at-once : (x : Pending) (list m count : ℕ) (us : List Tree) → goals_at ls top ≡ x ∷ goals_at ls list → IsText x → ((w : Place) → IsAt now x w → w.goal ≡ goal.Call m us) → count ≡ length us →
      ((a : Asked) (es : List Item) (xs : List Tree) → IsPlainCall (asked_program p a []) m xs → length xs ≤ count → Ready (asked_program p a []) es (goal.Call m xs)) →
      (b : Branch) (g : Goal) (rest : List Goal) → IsBranch now b → b.goals ≡ g ∷ rest → Ready (program_of now) b.items g
  unfolding program_of
  at-once x list m count us at text wr n f b g rest is e =
      let h = here-is b is in
      let t = in-text here x g text (taken-as here b g rest x (goals_at ls list) h e at).0 in
      let r = subst (λ (o : Seen). (w : Place) → IsAt o x w → w.goal ≡ goal.Call m us) (sym v) wr in
      let i : IsShiftedGoal t.base (goal.Call m us) g = subst (λ (y : Goal). IsShiftedGoal t.base y g) (r t.place t.is) t.shifted in
      let k = call-shape t.base m us g i in
      let d = good-first here b m k.0 rest h (e ∙ ap (λ (y : Goal). y ∷ rest) k.1) in
      let l = k.2 in
      let z = f q b.items k.0 (record { plain = d.2; number = d.0; words = h.runnable.words }) (omega arith) in
      subst (λ (o : Seen). Ready (asked o) b.items g) v (subst (λ (y : Goal). Ready (asked here) b.items y) (sym k.1) z)

  -- ---- a call in cells that comes first

  module _ (pred call : ℕ) (st : StartsInCells now pred call) where
    pub cells-here : StandsInCells here pred call st.g
    cells-here = subst (λ (o : Seen). StandsInCells o pred call st.g) (sym v) st.cells

    pub starts-state : IsState u
    starts-state = (here-is st.b st.is).state

    pub starts-call : call < length u.heap.sorts
    starts-call = cells-here.there

    pub starts-name : pred < length p.names
    starts-name = cells-here.named

    pub starts-held : (c : Parked) → c.pred ≡ pred → c.call.0 ≡ call →
        ((t : List (List Sort)) (xs : List Tree) → FitsTable t u → Stands t u call (tree.Node pred xs) → HasCells t u c xs) → HasCells (asked here).world.arguments u c cells-here.args
    starts-held c e f k = k (asked here).world.arguments cells-here.args (here-is st.b st.is).fits cells-here.stands

  -- what the answer says of the branch
  pub tells-first : (pred call : ℕ) (c : Parked) (x : Bool) →
      ((t : List (List Sort)) (xs : List Tree) → FitsTable t u → Stands t u call (tree.Node pred xs) → HasCells t u c xs) → TellsReady u p pred c.args x →
      OnCells now pred call (λ b g. IsTrue x ↔ Ready (program_of now) b.items g)
  unfolding program_of
  tells-first pred call c x k tells b g rest is e held =
      let h = here-is b is in
      let i : StandsInCells here pred call g = subst (λ (o : Seen). StandsInCells o pred call g) (sym v) held in
      let m = k (asked here).world.arguments i.args h.fits i.stands in
      let a : IsAsked u (asked here) b.items pred c.args i.args =
      record { vals = h.vals; fits = h.fits; args = m.args; call = record { plain = i.plain; number = i.number; words = h.runnable.words } } in
      subst (λ (o : Seen). IsTrue x ↔ Ready (asked o) b.items g) v (subst (λ (y : Goal). IsTrue x ↔ Ready (asked here) b.items y) (sym i.is) (tells q b.items i.args a))

  -- put aside
  pub aside : (list : ℕ) (y : Pending) (pred call : ℕ) (c : Parked) (ws' : Waits) (pk' : List Parked) → goals_at ls top ≡ y ∷ goals_at ls list → list < top → c.pred ≡ pred → c.call.0 ≡ call →
      ((t : List (List Sort)) (xs : List Tree) → FitsTable t u → Stands t u call (tree.Node pred xs) → HasCells t u c xs) → ws' ≡ record ws { still = ws.still ++ true ∷ [] } → pk' ≡ pk ++ c ∷ [] →
      OnCells now pred call (λ b g. IsBranch (seen p q u fs ls list steps ws' pk') (waits b g))
  unfolding IsBranch
  aside list y pred call c ws' pk' at less e f k ew ep b g rest is eg held =
      let h = here-is b is in
      let i : StandsInCells here c.pred c.call.0 g =
      subst (λ (n : ℕ). StandsInCells here n c.call.0 g) (sym e) (subst (λ (n : ℕ). StandsInCells here pred n g) (sym f) (subst (λ (o : Seen). StandsInCells o pred call g) (sym v) held)) in
      let s : Stands (asked here).world.arguments u call (tree.Node pred i.args) =
      subst (λ (n : ℕ). Stands (asked here).world.arguments u n (tree.Node pred i.args)) f (subst (λ (n : ℕ). Stands (asked here).world.arguments u c.call.0 (tree.Node n i.args)) e i.stands) in
      let inside = h.top in
      let r = parked-behind here b list c g rest h (omega arith) (taken-as here b g rest y (goals_at ls list) h eg at).1 i (k (asked here).world.arguments i.args h.fits s) in
      subst (λ (w : Waits). IsTheBranch (seen p q u fs ls list steps w pk') (waits (behind b rest) g)) (sym ew)
      (subst (λ (l : List Parked). IsTheBranch (seen p q u fs ls list steps (record ws { still = ws.still ++ true ∷ [] }) l) (waits (behind b rest) g)) (sym ep) r)

  -- ---- waking

  pub askable : (b : Branch) → IsBranch now b → IsAskable u p q pk
  askable b is = let h = here-is b is in record { state = h.state; fits = h.fits; calls = h.there }

  pub woken-numbers : (b : Branch) (P : ℕ → Type 0) (woken left : List ℕ) → IsBranch now b → Parts P (wake.waiting ws) woken left → Each (λ k. k < length pk) woken
  woken-numbers b P woken left is parts = let h = here-is b is in part-below P (length pk) (wake.waiting ws) woken left parts (numbers-below here (wake.waiting ws) b.waiting h.waiting)

  pub wakes-to : (ls' : List Link) (list : ℕ) (ws' : Waits) (woken : List ℕ) → list ≤ length ls' → goals_at ls' list ≡ map (pending_at pk) woken ++ goals_at ls top →
      Parts (IsReadyAt (asking u p q pk)) (wake.waiting ws) woken (wake.waiting ws') → length ws'.still ≡ length ws.still →
      (b : Branch) → IsBranch now b → Wakes (program_of now) (seen p q u fs ls' list steps ws' pk) b
  unfolding IsBranch program_of
  wakes-to ls' list ws' woken inside at parts still b is =
      let h = here-is b is in
      let r = woken-stands here b ls' list ws' (IsReadyAt (asking u p q pk)) woken h inside at parts still (decides-at here b h) in
      record { woken = r.woken; wakes = subst (λ (o : Seen). Woken (asked o) b r.woken) v r.wakes; is = r.is }

  pub wakes-none : length pk ≡ 0 → (b : Branch) → IsBranch now b → Wakes (program_of now) now b
  unfolding IsBranch program_of
  wakes-none e b is =
      let r = none-wakes now b is (ap (λ (o : Seen). length o.parked) (sym v) ∙ e) in
      record { woken = r.woken; wakes = r.wakes; is = r.is }

  -- ---- a waiting goal that is shown

  pub waiting-at : (b : Branch) (k n : ℕ) (c : Parked) → IsBranch now b → slice_get (wake.waiting ws) k ≡ Some n → slice_get pk n ≡ Some c → IsWaiting now k c.pred c.args
  waiting-at b k n c is e f =
      let shown : slice_get (calls_of here) k ≡ Some (call_of c) =
      mapped-at (λ m. get_or (map call_of pk) m (0, [])) (wake.waiting ws) k n e ∙ ap (λ (x : ℕ × List Ref). Some x) (got-mapped call_of pk n c (0, []) f) in
      sym (ap (λ (o : Seen). slice_get (calls_of o) k) v) ∙ shown

  pub waiting-there : (b : Branch) (k n : ℕ) → IsBranch now b → slice_get (wake.waiting ws) k ≡ Some n → n < length pk
  waiting-there b k n is e = let h = here-is b is in each-at (λ j. j < length pk) (wake.waiting ws) k n (numbers-below here (wake.waiting ws) b.waiting h.waiting) e

  pub got-parked : (b : Branch) (k n : ℕ) (c : Parked) (pred : ℕ) (rs : List Ref) → IsBranch now b → slice_get (wake.waiting ws) k ≡ Some n → n < length pk → c ≡ get_or pk n c → pred ≡ c.pred → rs ≡ c.args →
      IsWaiting now k pred rs
  got-parked b k n c pred rs is e l f g h =
      let at : slice_get pk n ≡ Some c = slice_get-get_or pk n c l ∙ ap (λ (x : Parked). Some x) (sym f) in
      subst (λ (m : ℕ). IsWaiting now k m rs) (sym g) (subst (λ (xs : List Ref). IsWaiting now k c.pred xs) (sym h) (waiting-at b k n c is e at))

  pub waiting-past : (k : ℕ) → slice_get (wake.waiting ws) k ≡ None → length (calls_of now) ≤ k
  waiting-past k e =
      let n = ap (λ (o : Seen). length (calls_of o)) v in
      let m = map-length (λ j. get_or (map call_of pk) j (0, [])) (wake.waiting ws) in
      let l = past (wake.waiting ws) k e in
      omega arith

  -- ---- an addition, and what wakes after it

  pub same-program : (t : state.Seen) (fs' : List (List ℕ)) (ls' : List Link) (top' steps' : ℕ) → program_of (seen p q t fs' ls' top' steps' ws pk) ≡ program_of now
  unfolding program_of
  same-program t fs' ls' top' steps' = ap (λ (o : Seen). asked o) v

  pub goes : (t : state.Seen) (fs' : List (List ℕ)) (ls' : List Link) (top' steps' : ℕ) (new : Seen) (b : Branch) → IsBranch (seen p q t fs' ls' top' steps' ws pk) b →
      Wakes (program_of (seen p q t fs' ls' top' steps' ws pk)) new b → GoesOn (program_of now) new b
  goes t fs' ls' top' steps' new b is w =
      let e = same-program t fs' ls' top' steps' in
      record {
        solvable = subst (λ (x : Program). Solvable x.world b.items) e (solvable-of (seen p q t fs' ls' top' steps' ws pk) b is);
        woken = w.woken;
        wakes = subst (λ (x : Program). Woken x b w.woken) e w.wakes;
        is = w.is;
      }
