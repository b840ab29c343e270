-- What the budgets say of a beginning of a run: how many answers it has, and how many variables its branches.
use Rattle.std.proofs.Common.{◌≡◌, inl, inr, ℕ, ◌+◌, ◌≤◌, Bool, true, false, List, [], ◌∷◌, ◌++◌, length, Option, None, Some, refl, sym, ◌∙◌, ap, subst, arith, length-append}
use Rattle.std.specs.Prelude.{MatchBool, if◌then◌else◌, nat_lt}
use Rattle.std.specs.Option.{option_map}
use Rattle.std.specs.Prelude.{option_to_list}
use Rattle.std.proofs.lemmas.Bool.{ltb-false}
use Rattle.cb_laws.proofs.Begins.{printed_append}
use Rattle.cb_model.specs.declared.Tree.{Tree}
use Rattle.cb_model.specs.declared.Goal.{Goal}
use Rattle.cb_model.specs.declared.Goal.TheVariants as goal
use Rattle.cb_model.specs.Program.{Program, bools, next_clause, first_clause}
use Rattle.cb_model.specs.Derivation.{Query, Branch, Entry, Run, Try, Change, Answered, Dropped, Becomes, Adds, Resolutions, Variables, Equations, Note, Made, Printed, SoFar, Goes, here, on, Moves, RunMoves, GoalMoves, DemonMoves, CallMoves, Replaces, is_demon, tried, notes_of, resolutions_of, stop_of, passed, first_branch, printed_of}

-- its constants and variables are not too many
abbrev pub Fits : Program → Branch → Type 0
Fits p b = p.constants + bools b.sorts ≤ 4096

-- so are those of each entry, and each is a try
abbrev AreTries : Program → List Entry → Type 0
AreTries p [] = Unit {0}
AreTries p (Run b ∷ es) = ⊥
AreTries p (Try b pred args k ∷ es) = Fits p b × AreTries p es

-- so are those of each entry, and each below the first is a try
abbrev IsStack : Program → List Entry → Type 0
IsStack p [] = Unit {0}
IsStack p (Run b ∷ es) = Fits p b × AreTries p es
IsStack p (Try b pred args k ∷ es) = Fits p b × AreTries p es

-- how many answers may come with no further resolution
abbrev open_of : List Entry → ℕ
open_of [] = 0
open_of (Run b ∷ es) = 1
open_of (Try b pred args k ∷ es) = 0

abbrev AreNotes : Program → List Note → Type 0
AreNotes p [] = Unit {0}
AreNotes p (Made b ∷ ns) = Fits p b × AreNotes p ns
AreNotes p (Printed b ∷ ns) = Fits p b × AreNotes p ns

-- what the first goal of a branch does: no entries are left below
abbrev RunMakes : Program → Change → Type 0
RunMakes p (Answered c) = Fits p c
RunMakes p Dropped = Unit {0}
RunMakes p (Becomes e) = IsStack p (e ∷ [])
RunMakes p (Adds r below c) = below ≡ []

-- what a try does: one resolution, over tries
abbrev TryMakes : Program → Change → Type 0
TryMakes p (Adds r below c) = (r ≡ 1) × AreTries p below
TryMakes p _ = ⊥

stack-of : (p : Program) (es : List Entry) → AreTries p es → IsStack p es
stack-of p [] t = tt
stack-of p (Run b ∷ es) t = absurd t
stack-of p (Try b pred args k ∷ es) t = t

open-tries : (p : Program) (es : List Entry) → AreTries p es → open_of es ≡ 0
open-tries p [] t = refl
open-tries p (Run b ∷ es) t = absurd t
open-tries p (Try b pred args k ∷ es) t = refl

open-few : (es : List Entry) → open_of es ≤ 1
open-few [] = omega arith
open-few (Run b ∷ es) = omega arith
open-few (Try b pred args k ∷ es) = omega arith

tries-append : (p : Program) (es fs : List Entry) → AreTries p es → AreTries p fs → AreTries p (es ++ fs)
tries-append p [] fs t u = u
tries-append p (Run b ∷ es) fs t u = absurd t
tries-append p (Try b pred args k ∷ es) fs t u = (t.0, tries-append p es fs t.1 u)

stack-append : (p : Program) (e : Entry) (fs : List Entry) → IsStack p (e ∷ []) → AreTries p fs → IsStack p (e ∷ fs)
stack-append p (Run b) fs t u = (t.0, u)
stack-append p (Try b pred args k) fs t u = (t.0, u)

lower-tries : (p : Program) (e : Entry) (es : List Entry) → IsStack p (e ∷ es) → AreTries p es
lower-tries p (Run b) es t = t.1
lower-tries p (Try b pred args k) es t = t.1

tried-makes : (p : Program) (b : Branch) (pred : ℕ) (args : List Tree) (o : Option ℕ) → Fits p b → RunMakes p (tried p b pred args o)
tried-makes p b pred args None f = tt
tried-makes p b pred args (Some k) f = (f, tt)

next-tries : (p : Program) (b : Branch) (pred : ℕ) (args : List Tree) (o : Option ℕ) → Fits p b → AreTries p (option_to_list (option_map (λ n. Try b pred args n) o))
next-tries p b pred args None f = tt
next-tries p b pred args (Some k) f = (f, tt)

module _ (p : Program) (b : Branch) (f : Fits p b) where
  demon-makes : (pred : ℕ) (args : List Tree) (c : Change) → DemonMoves p b pred args c → RunMakes p c
  demon-makes pred args c (inl m) = subst (RunMakes p) (sym m.3) refl
  demon-makes pred args c (inr m) = subst (RunMakes p) (sym m.1) (f, tt)

  call-makes : (pred : ℕ) (args : List Tree) (c : Change) → CallMoves p b pred args c → RunMakes p c
  call-makes pred args c (inl m) = subst (RunMakes p) (sym m.1) (tried-makes p b pred args (first_clause p pred) f)
  call-makes pred args c (inr m) = subst (RunMakes p) (sym m.1) (f, tt)

  either-makes : (x : Bool) (pred : ℕ) (args : List Tree) (c : Change) → MatchBool x (DemonMoves p b pred args c) (CallMoves p b pred args c) → RunMakes p c
  either-makes true pred args c m = demon-makes pred args c m
  either-makes false pred args c m = call-makes pred args c m

  goal-makes : (g : Goal) (c : Change) → GoalMoves p b g c → RunMakes p c
  goal-makes goal.True c m = subst (RunMakes p) (sym m) (f, tt)
  goal-makes goal.Fail c m = subst (RunMakes p) (sym m) tt
  goal-makes (goal.Equal l r) c m = subst (RunMakes p) (sym m) refl
  goal-makes (goal.Circuit k i o) c m = subst (RunMakes p) (sym m.2) refl
  goal-makes (goal.Call pred args) c m = either-makes (is_demon p pred) pred args c m

run-makes : (p : Program) (b : Branch) (gs : List Goal) (c : Change) → Fits p b → RunMoves p b gs c → RunMakes p c
run-makes p b [] c f m = subst (RunMakes p) (sym m) f
run-makes p b (g ∷ gs) c f m = goal-makes p (record b { goals = gs }) f g c m

-- what passes no budget
passed-none : (x y z : Bool) → (if x then Some Resolutions else (if y then Some Variables else (if z then Some Equations else None))) ≡ None → (x ≡ false) × (y ≡ false)
passed-none true y z e = absurd (cc)
passed-none false true z e = absurd (cc)
passed-none false false z e = (refl, refl)

within : (p : Program) (budget used : ℕ) (b : Branch) → passed p budget used b ≡ None → (used ≤ budget) × Fits p b
within p budget used b e =
    let h = passed-none (nat_lt budget used) (nat_lt 4096 (p.constants + bools b.sorts)) (nat_lt 1000000 b.steps) e in
    (ltb-false budget used h.0, ltb-false 4096 (p.constants + bools b.sorts) h.1)

-- one step
record Stepped (p : Program) (budget used : ℕ) (e : Entry) (s : List Entry) (c : Change) (es : List Entry) : Type 0 where
  stack : IsStack p (es ++ s)
  notes : AreNotes p (notes_of c)
  few : length (printed_of (notes_of c)) + open_of (es ++ s) ≤ open_of (e ∷ s) + resolutions_of c
  limit : used ≤ budget → used + resolutions_of c ≤ budget

-- an addition, over tries
adds : (p : Program) (budget used : ℕ) (e : Entry) (s below : List Entry) (r : ℕ) (b : Branch) (es : List Entry) → AreTries p s → AreTries p below → 1 ≤ open_of (e ∷ s) + r →
    passed p budget (used + r) b ≡ None → Replaces p (Adds r below b) es → Stepped p budget used e s (Adds r below b) es
adds p budget used e s below r b es t u o f (inl h) =
    let w = within p budget (used + r) b f in
    let fits : Fits p h.1.0 = subst (λ (x : Branch). Fits p x) (sym h.1.1.0.is) w.1 in
    subst (λ (x : List Entry). Stepped p budget used e s (Adds r below b) x) (sym h.1.1.1)
    (record { stack = (fits, tries-append p below s u t); notes = (w.1, tt); few = omega (arith, o); limit = λ _. w.0 })
adds p budget used e s below r b es t u o f (inr h) =
    let w = within p budget (used + r) b f in
    let most = open-few (below ++ s) in
    subst (λ (x : List Entry). Stepped p budget used e s (Adds r below b) x) (sym h.1)
    (record { stack = stack-of p (below ++ s) (tries-append p below s u t); notes = (w.1, tt); few = omega (arith, o, most); limit = λ _. w.0 })

of-run : (p : Program) (budget used : ℕ) (b : Branch) (s : List Entry) (c : Change) (es : List Entry) → AreTries p s → RunMakes p c →
    stop_of p budget used c ≡ None → Replaces p c es → Stepped p budget used (Run b) s c es
of-run p budget used b s (Answered x) es t m f r =
    subst (λ (y : List Entry). Stepped p budget used (Run b) s (Answered x) y) (sym r)
    (record { stack = stack-of p s t; notes = (m, tt); few = let z = open-tries p s t in omega (arith, z); limit = λ h. omega (arith, h) })
of-run p budget used b s Dropped es t m f r =
    subst (λ (y : List Entry). Stepped p budget used (Run b) s Dropped y) (sym r)
    (record { stack = stack-of p s t; notes = tt; few = let z = open-tries p s t in omega (arith, z); limit = λ h. omega (arith, h) })
of-run p budget used b s (Becomes x) es t m f r =
    subst (λ (y : List Entry). Stepped p budget used (Run b) s (Becomes x) y) (sym r)
    (record { stack = stack-append p x s m t; notes = tt; few = let z = open-few (x ∷ s) in omega (arith, z); limit = λ h. omega (arith, h) })
of-run p budget used b s (Adds n below x) es t m f r =
    adds p budget used (Run b) s below n x es t (subst (AreTries p) (sym m) tt) (omega arith) f r

of-try : (p : Program) (budget used : ℕ) (b : Branch) (pred : ℕ) (args : List Tree) (k : ℕ) (s : List Entry) (c : Change) (es : List Entry) → AreTries p s → TryMakes p c →
    stop_of p budget used c ≡ None → Replaces p c es → Stepped p budget used (Try b pred args k) s c es
of-try p budget used b pred args k s (Adds n below x) es t m f r =
    adds p budget used (Try b pred args k) s below n x es t m.1 (let one = m.0 in omega (arith, one)) f r
of-try p budget used b pred args k s (Answered x) es t m f r = absurd m
of-try p budget used b pred args k s Dropped es t m f r = absurd m
of-try p budget used b pred args k s (Becomes x) es t m f r = absurd m

step : (p : Program) (budget used : ℕ) (e : Entry) (s : List Entry) (c : Change) (es : List Entry) → IsStack p (e ∷ s) → Moves p e c → stop_of p budget used c ≡ None →
    Replaces p c es → Stepped p budget used e s c es
step p budget used (Run b) s c es i m f r = of-run p budget used b s c es i.1 (run-makes p b b.goals c i.0 m) f r
step p budget used (Try b pred args k) s c es i m f r =
    of-try p budget used b pred args k s c es i.1 (subst (TryMakes p) (sym m.2) (refl, next-tries p b pred args (next_clause p pred k) i.0)) f r

notes-append : (p : Program) (ns ms : List Note) → AreNotes p ns → AreNotes p ms → AreNotes p (ns ++ ms)
notes-append p [] ms n m = m
notes-append p (Made b ∷ ns) ms n m = (n.0, notes-append p ns ms n.1 m)
notes-append p (Printed b ∷ ns) ms n m = (n.0, notes-append p ns ms n.1 m)

-- some steps
record Going (p : Program) (budget used : ℕ) (s : List Entry) (ns : List Note) (used' : ℕ) : Type 0 where
  notes : AreNotes p ns
  few : length (printed_of ns) + used ≤ used' + open_of s
  limit : used ≤ budget → used' ≤ budget

going : (p : Program) (budget used used' : ℕ) (s s' : List Entry) (ns : List Note) → IsStack p s → Goes p budget used s ns used' s' → Going p budget used s ns used'
going p budget used used' s s' ns i here = record { notes = tt; few = omega arith; limit = λ h. h }
going p budget used used' (e ∷ s) s' ns i (on c es rest m f r n g) =
    let one = step p budget used e s c es i m f r in
    let more = going p budget (used + resolutions_of c) used' (es ++ s) s' rest one.stack g in
    let count : length (printed_of (notes_of c ++ rest)) ≡ length (printed_of (notes_of c)) + length (printed_of rest) =
    ap length (printed_append (notes_of c) rest) ∙ length-append (printed_of (notes_of c)) (printed_of rest) in
    let a = one.few in
    let b = more.few in
    subst (λ (x : List Note). Going p budget used (e ∷ s) x used') (sym n)
    (record { notes = notes-append p (notes_of c) rest one.notes more.notes; few = omega (arith, a, b, count); limit = λ h. more.limit (one.limit h) })

-- the last note's branch
last-fits : (p : Program) (ns : List Note) (b : Branch) → AreNotes p (ns ++ Printed b ∷ []) → Fits p b
last-fits p [] b h = h.0
last-fits p (Made c ∷ ns) b h = last-fits p ns b h.1
last-fits p (Printed c ∷ ns) b h = last-fits p ns b h.1

module _ (p : Program) (q : Query) (budget : ℕ) (ns : List Note) (used : ℕ) (s : List Entry) (so : SoFar p q budget ns used s) where
  begun : Fits p (first_branch q)
  begun = (within p budget 0 (first_branch q) so.begins).1

  gone : Going p budget 0 (Run (first_branch q) ∷ []) so.rest used
  gone = going p budget 0 used (Run (first_branch q) ∷ []) s so.rest (begun, tt) so.goes

  -- answers are at most one more than the resolutions that there may be
  pub answers-few : length (printed_of ns) ≤ budget + 1
  answers-few =
      let e : length (printed_of ns) ≡ length (printed_of so.rest) = ap (λ (x : List Note). length (printed_of x)) so.is in
      let a = gone.few in
      let b : used ≤ budget = gone.limit (omega arith) in
      omega (arith, e, a, b)

  -- an answer's constants and variables are not too many
  pub answer-fits : (before : List Note) (b : Branch) → ns ≡ before ++ Printed b ∷ [] → Fits p b
  answer-fits before b e =
      let all : AreNotes p ns = subst (AreNotes p) (sym so.is) (begun, gone.notes) in
      last-fits p before b (subst (AreNotes p) e all)
