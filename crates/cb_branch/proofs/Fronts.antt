-- What goes in front of a branch's goals, and what waits.
use Rattle.std.proofs.Common.{◌≡◌, ◌↔◌, ℕ, zero, suc, ◌+◌, ◌-◌, ◌<◌, ◌≤◌, Bool, true, false, List, [], ◌∷◌, ◌++◌, length, map, drop, Some, refl, sym, ap, subst, ◌∙◌, arith}
use Rattle.std.specs.Prelude.{slice_get}
use Rattle.cb_model.specs.declared.Goal.{Goal}
use Rattle.cb_model.specs.Bits.{Each, Parts, none, yes_here, no_here}
use Rattle.cb_model.specs.Equations.{Item}
use Rattle.cb_model.specs.Derivation.{Branch, Ready, Waiting, Woken}
use Rattle.cb_goals.specs.declared.Link.{Link}
use Rattle.cb_goals.specs.declared.Pending.{Pending}
use Rattle.cb_goals.specs.declared.Pending.TheVariants as pending
use Rattle.cb_goals.specs.Chain.{KeepsLists, goals_at}
use Rattle.cb_goals.proofs.Lists.{keeps-self, keeps-then}
use Rattle.std.proofs.Math.Seq.{drop-length}
use Rattle.cb_heap.specs.declared.Ref.{Ref}
use Rattle.cb_wake.specs.Waits as wake
use Rattle.cb_wake.specs.Waits.{Waits, numbers_of}
use Rattle.cb_ready.specs.Asking.{IsThere}
use Rattle.cb_ready.proofs.Standing.{standing-there}
use Rattle.cb_ready.specs.Parked.{Parked, IsParked as HasCells}
use Rattle.cb_items.proofs.Lists.{append-nil, each-snoc, got-left, got-within, length-append}
use Rattle.cb_branch.specs.Running.{AreGoals, AreWaiting, HasAsked, IsAt, IsParked, IsTheBranch, Place, Seen, StandsFor, StandsInCells, StandsInText, called, pending_at}
use Rattle.cb_branch.proofs.Branches.{asked, goals-append, got-mapped}

-- the same program, query and terms, with other lists of goals and parked calls
abbrev pub fronted : Seen → List Link → ℕ → Waits → List Parked → Seen
fronted s ls top ws pk = record s { links = ls; top = top; waits = ws; parked = pk }

module _ (s : Seen) (ls : List Link) (top : ℕ) (ws : Waits) (pk : List Parked) where
  text-front : (x : Pending) (g : Goal) → ((w : Place) → IsAt s x w → IsAt (fronted s ls top ws pk) x w) → StandsInText s x g → StandsInText (fronted s ls top ws pk) x g
  text-front x g f h = record { place = h.place; is = f h.place h.is; good = h.good; cells = h.cells; frame = h.frame; base = h.base; placed = h.placed; shifted = h.shifted }

  pub cells-front : (pred call : ℕ) (g : Goal) → StandsInCells s pred call g → StandsInCells (fronted s ls top ws pk) pred call g
  cells-front pred call g h = record { args = h.args; is = h.is; there = h.there; stands = h.stands; number = h.number; named = h.named; plain = h.plain }

  stands-front : (x : Pending) (g : Goal) → StandsFor s x g → StandsFor (fronted s ls top ws pk) x g
  stands-front (pending.Asked place) g h = text-front (pending.Asked place) g (λ w i. i) h
  stands-front (pending.Body clause place frame) g h = text-front (pending.Body clause place frame) g (λ w i. i) h
  stands-front (pending.Called pred call) g h = cells-front pred call.0 g h

  goals-front : (xs : List Pending) (gs : List Goal) → AreGoals s xs gs → AreGoals (fronted s ls top ws pk) xs gs
  goals-front [] [] h = tt
  goals-front (x ∷ xs) (g ∷ gs) h = (stands-front x g h.0, goals-front xs gs h.1)
  goals-front [] (g ∷ gs) h = absurd h
  goals-front (x ∷ xs) [] h = absurd h

  parked-front : (more : List Parked) → pk ≡ s.parked ++ more → (k : ℕ) (w : Waiting) → IsParked s k w → IsParked (fronted s ls top ws pk) k w
  unfolding cells-front
  parked-front more e k w h = record {
    number = h.number;
    call = h.call;
    at = ap (λ (l : List Parked). slice_get l k) e ∙ got-left s.parked more k h.call h.at;
    is = cells-front h.call.pred h.call.call.0 w.goal h.is;
    cells = h.cells;
  }

  pub waiting-front : (more : List Parked) → pk ≡ s.parked ++ more → (ks : List ℕ) (vs : List Waiting) → AreWaiting s ks vs → AreWaiting (fronted s ls top ws pk) ks vs
  waiting-front more e [] [] h = tt
  waiting-front more e (k ∷ ks) (v ∷ vs) h = (parked-front more e k v h.0, waiting-front more e ks vs h.1)
  waiting-front more e [] (v ∷ vs) h = absurd h
  waiting-front more e (k ∷ ks) [] h = absurd h

  asked-front : HasAsked s → HasAsked (fronted s ls top ws pk)
  asked-front h = record { cells = h.cells; at = h.at; placed = h.placed }

  -- the same terms, with other goals, some of which wait
  pub front-stands : (b : Branch) (gs : List Goal) (vs : List Waiting) (next : ℕ) → IsTheBranch s b → top ≤ length ls → AreGoals s (goals_at ls top) gs →
      AreWaiting (fronted s ls top ws pk) (wake.waiting ws) vs → next ≡ length ws.still → length pk ≡ length ws.still → Each (IsThere (length s.program.names) s.state) pk →
      IsTheBranch (fronted s ls top ws pk) (record b { goals = gs; waiting = vs; next = next })
  front-stands b gs vs next h inside goals waiting en ep there = record {
    state = h.state;
    fits = h.fits;
    constants = h.constants;
    drawn = h.drawn;
    variables = h.variables;
    vals = h.vals;
    solvable = h.solvable;
    goals = goals-front (goals_at ls top) gs goals;
    top = inside;
    asked = asked-front h.asked;
    waiting = waiting;
    next = en;
    parked = ep;
    there = there;
    steps = h.steps;
    runnable = h.runnable;
  }

-- ---- a call that goes in front

pub called-front : (s : Seen) (b : Branch) (ls : List Link) (top pred : ℕ) (call : Ref) (g : Goal) → IsTheBranch s b → top ≤ length ls → goals_at ls top ≡ pending.Called pred call ∷ goals_at s.links s.top →
    StandsInCells s pred call.0 g → IsTheBranch (fronted s ls top s.waits s.parked) (record b { goals = g ∷ b.goals })
called-front s b ls top pred call g h inside at c =
    front-stands s ls top s.waits s.parked b (g ∷ b.goals) b.waiting b.next h inside (subst (λ (xs : List Pending). AreGoals s xs (g ∷ b.goals)) (sym at) (c, h.goals))
    (waiting-front s ls top s.waits s.parked [] (sym (append-nil s.parked)) (wake.waiting s.waits) b.waiting h.waiting) h.next h.parked h.there

-- ---- a call that waits

numbers-snoc : (k : ℕ) (xs : List Bool) → numbers_of k (xs ++ true ∷ []) ≡ numbers_of k xs ++ (k + length xs) ∷ []
numbers-snoc k [] = let e : k ≡ k + 0 = omega arith in ap (λ (n : ℕ). n ∷ []) e
numbers-snoc k (true ∷ xs) = let e : suc k + length xs ≡ k + suc (length xs) = omega arith in ap (λ (l : List ℕ). k ∷ l) (numbers-snoc (suc k) xs ∙ ap (λ (n : ℕ). numbers_of (suc k) xs ++ n ∷ []) e)
numbers-snoc k (false ∷ xs) = let e : suc k + length xs ≡ k + suc (length xs) = omega arith in numbers-snoc (suc k) xs ∙ ap (λ (n : ℕ). numbers_of (suc k) xs ++ n ∷ []) e

waiting-snoc : (s : Seen) (ks : List ℕ) (vs : List Waiting) (k : ℕ) (v : Waiting) → AreWaiting s ks vs → IsParked s k v → AreWaiting s (ks ++ k ∷ []) (vs ++ v ∷ [])
waiting-snoc s [] [] k v h i = (i, tt)
waiting-snoc s (j ∷ ks) (u ∷ vs) k v h i = (h.0, waiting-snoc s ks vs k v h.1 i)
waiting-snoc s [] (u ∷ vs) k v h i = absurd h
waiting-snoc s (j ∷ ks) [] k v h i = absurd h

-- one goal less, which waits with the next number
pub parked-behind : (s : Seen) (b : Branch) (list : ℕ) (p : Parked) (g : Goal) (rest : List Goal) → IsTheBranch s b → list ≤ length s.links → AreGoals s (goals_at s.links list) rest →
    (c : StandsInCells s p.pred p.call.0 g) → HasCells (asked s).world.arguments s.state p c.args →
    IsTheBranch (fronted s s.links list (record s.waits { still = s.waits.still ++ true ∷ [] }) (s.parked ++ p ∷ []))
    (record b { goals = rest; waiting = b.waiting ++ record { number = b.next; goal = g } ∷ []; next = suc b.next })
unfolding cells-front
parked-behind s b list p g rest h inside goals c held =
    let ws : Waits = record s.waits { still = s.waits.still ++ true ∷ [] } in
    let pk : List Parked = s.parked ++ p ∷ [] in
    let n = length-append s.waits.still (true ∷ []) in
    let m = length-append s.parked (p ∷ []) in
    let a = h.next in
    let d = h.parked in
    let at : slice_get pk (length s.parked) ≡ Some p = got-last s.parked p in
    let here : IsParked (fronted s s.links list ws pk) (length s.parked) (record { number = b.next; goal = g }) =
    record { number = omega arith; call = p; at = at; is = cells-front s s.links list ws pk p.pred p.call.0 g c; cells = held } in
    let numbers : numbers_of 0 s.waits.still ++ length s.parked ∷ [] ≡ numbers_of 0 (s.waits.still ++ true ∷ []) =
    (let e : length s.parked ≡ 0 + length s.waits.still = omega arith in ap (λ (k : ℕ). numbers_of 0 s.waits.still ++ k ∷ []) e) ∙ sym (numbers-snoc 0 s.waits.still) in
    front-stands s s.links list ws pk b rest (b.waiting ++ record { number = b.next; goal = g } ∷ []) (suc b.next) h inside goals
    (subst (λ (ks : List ℕ). AreWaiting (fronted s s.links list ws pk) ks (b.waiting ++ record { number = b.next; goal = g } ∷ [])) numbers
    (waiting-snoc (fronted s s.links list ws pk) (wake.waiting s.waits) b.waiting (length s.parked) (record { number = b.next; goal = g })
    (waiting-front s s.links list ws pk (p ∷ []) refl (wake.waiting s.waits) b.waiting h.waiting) here)) (omega arith) (omega arith)
    (each-snoc (IsThere (length s.program.names) s.state) s.parked p h.there (record { name = c.named; args = standing-there (asked s).world.arguments s.state p.args c.args held.args }))
  where
    got-last : (ps : List Parked) (q : Parked) → slice_get (ps ++ q ∷ []) (length ps) ≡ Some q
    got-last [] q = refl
    got-last (x ∷ ps) q = got-last ps q

-- ---- calls that wake

-- the waiting goals of the numbers, parted as the numbers are
pub record ArePartedAs (s : Seen) (es : List Item) (vs : List Waiting) (woken left : List ℕ) : Type 0 where
  pub ready : List Waiting
  pub rest : List Waiting
  pub parts : Parts (λ w. Ready (asked s) es w.goal) vs ready rest
  pub woke : AreWaiting s woken ready
  pub wait : AreWaiting s left rest

module _ (s : Seen) (es : List Item) (P : ℕ → Type 0) (decides : (k : ℕ) (w : Waiting) → IsParked s k w → P k ↔ Ready (asked s) es w.goal) where
  pub parted : (ks woken left : List ℕ) (vs : List Waiting) → Parts P ks woken left → AreWaiting s ks vs → ArePartedAs s es vs woken left
  parted [] woken left [] none h = record { ready = []; rest = []; parts = none; woke = tt; wait = tt }
  parted (k ∷ ks) (j ∷ woken) left (v ∷ vs) (yes_here p t) h =
      let r = parted ks woken left vs t h.1 in
      record { ready = v ∷ r.ready; rest = r.rest; parts = yes_here ((decides k v h.0).0 p) r.parts; woke = (h.0, r.woke); wait = r.wait }
  parted (k ∷ ks) woken (j ∷ left) (v ∷ vs) (no_here n t) h =
      let r = parted ks woken left vs t h.1 in
      record { ready = r.ready; rest = v ∷ r.rest; parts = no_here (λ q. n ((decides k v h.0).1 q)) r.parts; woke = r.woke; wait = (h.0, r.wait) }
  parted [] woken left (v ∷ vs) t h = absurd h
  parted (k ∷ ks) woken left [] t h = absurd h

woken-goals : (s : Seen) (ks : List ℕ) (vs : List Waiting) → AreWaiting s ks vs → AreGoals s (map (pending_at s.parked) ks) (map (λ w. w.goal) vs)
woken-goals s [] [] h = tt
woken-goals s (k ∷ ks) (v ∷ vs) h =
    let p = h.0 in (
      subst (λ (x : Pending). StandsFor s x v.goal) (sym (got-mapped called s.parked k p.call (pending.Asked 0) p.at)) p.is,
      woken-goals s ks vs h.1,
    )
woken-goals s [] (v ∷ vs) h = absurd h
woken-goals s (k ∷ ks) [] h = absurd h

-- the numbers of waiting goals are those of parked calls
pub numbers-below : (s : Seen) (ks : List ℕ) (vs : List Waiting) → AreWaiting s ks vs → Each (λ k. k < length s.parked) ks
numbers-below s [] [] h = tt
numbers-below s (k ∷ ks) (v ∷ vs) h = (got-within s.parked k h.0.call h.0.at, numbers-below s ks vs h.1)
numbers-below s [] (v ∷ vs) h = absurd h
numbers-below s (k ∷ ks) [] h = absurd h

-- those of a part are among those of the whole
pub part-below : (P : ℕ → Type 0) (n : ℕ) (ks woken left : List ℕ) → Parts P ks woken left → Each (λ k. k < n) ks → Each (λ k. k < n) woken
part-below P n [] woken left none h = tt
part-below P n (k ∷ ks) (j ∷ woken) left (yes_here p t) h = (h.0, part-below P n ks woken left t h.1)
part-below P n (k ∷ ks) woken (j ∷ left) (no_here q t) h = part-below P n ks woken left t h.1

-- the branch after its addition, with the goals that are now ready in front
pub record WokeTo (s : Seen) (t : Seen) (b : Branch) : Type 0 where
  pub woken : Branch
  pub wakes : Woken (asked s) b woken
  pub is : IsTheBranch t woken

pub woken-stands : (s : Seen) (b : Branch) (ls : List Link) (top : ℕ) (ws : Waits) (P : ℕ → Type 0) (woken : List ℕ) → IsTheBranch s b → top ≤ length ls →
    goals_at ls top ≡ map (pending_at s.parked) woken ++ goals_at s.links s.top → Parts P (wake.waiting s.waits) woken (wake.waiting ws) → length ws.still ≡ length s.waits.still →
    ((k : ℕ) (w : Waiting) → IsParked s k w → P k ↔ Ready (asked s) b.items w.goal) → WokeTo s (fronted s ls top ws s.parked) b
woken-stands s b ls top ws P woken h inside at parts still decides =
    let r = parted s b.items P decides (wake.waiting s.waits) woken (wake.waiting ws) b.waiting parts h.waiting in
    let gs : List Goal = map (λ w. w.goal) r.ready ++ b.goals in
    record {
      woken = record b { goals = gs; waiting = r.rest };
      wakes = record { ready = r.ready; rest = r.rest; parts = r.parts; is = refl };
      is = front-stands s ls top ws s.parked b gs r.rest b.next h inside
          (subst (λ (xs : List Pending). AreGoals s xs gs) (sym at) (goals-append s (map (pending_at s.parked) woken) (goals_at s.links s.top) (map (λ w. w.goal) r.ready) b.goals (woken-goals s woken r.ready r.woke) h.goals))
          (waiting-front s ls top ws s.parked [] (sym (append-nil s.parked)) (wake.waiting ws) r.rest r.wait) (h.next ∙ sym still) (h.parked ∙ sym still) h.there;
    }

-- where no call was parked, none wakes
pub none-wakes : (s : Seen) (b : Branch) → IsTheBranch s b → length s.parked ≡ 0 → WokeTo s s b
none-wakes s b h e =
    let still : s.waits.still ≡ [] = no-length s.waits.still (let d = h.parked in omega arith) in
    let waiting : b.waiting ≡ [] = none-waiting s b.waiting (subst (λ (ks : List ℕ). AreWaiting s ks b.waiting) (ap (λ (xs : List Bool). numbers_of 0 xs) still) h.waiting) in
    record {
      woken = b;
      wakes = record { ready = []; rest = []; parts = subst (λ (vs : List Waiting). Parts (λ w. Ready (asked s) b.items w.goal) vs [] []) (sym waiting) none; is = λ i. record b { waiting = waiting i } };
      is = h;
    }
  where
    no-length : (xs : List Bool) → length xs ≡ 0 → xs ≡ []
    no-length [] e = refl
    no-length (x ∷ xs) e = absurd (cc)

    none-waiting : (s : Seen) (vs : List Waiting) → AreWaiting s [] vs → vs ≡ []
    none-waiting s [] h = refl
    none-waiting s (v ∷ vs) h = absurd h

-- ---- a loop that puts them there

-- how far it has come
pub record IsPutting (old now : List Link) (ps : List Parked) (ks : List ℕ) (rest list place : ℕ) : Type 0 where
  pub there : list ≤ length now
  pub keeps : KeepsLists old now
  pub goals : goals_at now list ≡ map (pending_at ps) (drop place ks) ++ goals_at old rest

pub putting-start : (old : List Link) (ps : List Parked) (ks : List ℕ) (rest n : ℕ) → n ≡ length ks → rest ≤ length old → IsPutting old old ps ks rest rest n
putting-start old ps ks rest n e h = record {
  there = h;
  keeps = keeps-self old;
  goals = ap (λ (xs : List ℕ). map (pending_at ps) xs ++ goals_at old rest) (sym (ap (λ (k : ℕ). drop k ks) e ∙ drop-length ks));
}

drop-step : (ks : List ℕ) (place k : ℕ) → slice_get ks place ≡ Some k → drop place ks ≡ k ∷ drop (suc place) ks
drop-step [] place k e = absurd (cc)
drop-step (j ∷ ks) zero k e = let h : j ≡ k = cc in ap (λ (n : ℕ). n ∷ ks) h
drop-step (j ∷ ks) (suc place) k e = drop-step ks place k e

pub putting-more : (old now new : List Link) (ps : List Parked) (ks : List ℕ) (rest list place r k : ℕ) (p : Parked) → IsPutting old now ps ks rest list place → 0 < place →
    slice_get ks (place - 1) ≡ Some k → slice_get ps k ≡ Some p → r ≤ length new → goals_at new r ≡ pending.Called p.pred p.call ∷ goals_at now list → KeepsLists now new →
    IsPutting old new ps ks rest r (place - 1)
putting-more old now new ps ks rest list place r k p h z ek ep inside at kept =
    let n : suc (place - 1) ≡ place = omega arith in
    let d : drop (place - 1) ks ≡ k ∷ drop place ks = drop-step ks (place - 1) k ek ∙ ap (λ (m : ℕ). k ∷ drop m ks) n in
    let c : pending_at ps k ≡ pending.Called p.pred p.call = got-mapped called ps k p (pending.Asked 0) ep in
    record {
      there = inside;
      keeps = keeps-then old now new h.keeps kept;
      goals = at ∙ ap (λ (xs : List Pending). pending.Called p.pred p.call ∷ xs) h.goals ∙ ap (λ (x : Pending). x ∷ map (pending_at ps) (drop place ks) ++ goals_at old rest) (sym c)
          ∙ ap (λ (xs : List ℕ). map (pending_at ps) xs ++ goals_at old rest) (sym d);
    }
