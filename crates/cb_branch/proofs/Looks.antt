-- What is read of a branch.
use Rattle.std.proofs.Common.{◌≡◌, Bool, true, false, ℕ, zero, suc, ◌+◌, ◌<◌, ◌≤◌, List, [], ◌∷◌, length, Option, Some, sym, ap, subst, ◌∙◌, arith}
use Rattle.std.specs.Prelude.{drop, slice_get, if◌then◌else◌}
use Rattle.cb_model.specs.declared.Sort.{Sort}
use Rattle.cb_model.specs.Text.{Text}
use Rattle.cb_model.specs.Output.{printed_from, starts_low}
use Rattle.cb_model.specs.declared.Clause.{Clause}
use Rattle.cb_model.specs.Program.{bools, first_clause, first_from, next_clause}
use Rattle.cb_model.specs.Derivation.{Branch}
use Rattle.cb_sorts.specs.Source.{Source}
use Rattle.cb_sorts.specs.Asked.{Asked}
use Rattle.cb_goals.specs.declared.Link.{Link}
use Rattle.cb_wake.specs.Waits.{Waits}
use Rattle.cb_wake.specs.Moments as wakes
use Rattle.cb_ready.specs.Parked.{Parked}
use Rattle.cb_unify.specs.State as state
use Rattle.cb_unify.specs.State.{IsState}
use Rattle.cb_unify.specs.Moments as moments
use Rattle.cb_unify.proofs.Back.{moment-now}
use Rattle.cb_items.proofs.Lists.{length-append, some-of, some-one}
use Rattle.cb_branch.specs.Running.{IsBranch, IsPrinted, IsTheBranch, Keeps, Moment, Seen, moment_of, program_of, query_of}
use Rattle.cb_branch.proofs.Methods.{seen}

-- ---- moments

module _ (now : Seen) (p : Source) (q : Asked) (u : state.Seen) (fs : List (List ℕ)) (ls : List Link) (top steps : ℕ) (ws : Waits) (pk : List Parked) (v : seen p q u fs ls top steps ws pk ≡ now) where
  pub mark-is : (m : moments.Moment) (k l n : ℕ) (w : wakes.Moment) → m ≡ moments.moment_of u → k ≡ length fs → l ≡ length ls → w ≡ wakes.moment_of ws → n ≡ length pk →
      record { state = m; frames = k; links = l; top = top; steps = steps; waits = w; parked = n } ≡ moment_of now
  unfolding moment_of
  mark-is m k l n w e f g h j = (λ i. record { state = e i; frames = f i; links = g i; top = top; steps = steps; waits = h i; parked = j i }) ∙ ap (λ (o : Seen). moment_of o) v

  -- what going back asks of its parts
  pub undo-moment : (to m : Moment) → m ≡ to → (s : Seen) (b : Branch) → IsBranch s b → to ≡ moment_of s → Keeps s now → moments.IsMoment m.state u × (m.links ≤ length ls) × wakes.IsMoment m.waits ws
  unfolding IsBranch Keeps moment_of
  undo-moment to m me s b is e k =
      let em = me ∙ e in
      let es = ap (λ (x : Moment). x.state) em in
      let el = ap (λ (x : Moment). x.links) em in
      let lk = ap length k.links.1 in
      let la = length-append s.links k.links.0 in
      let lv = ap (λ (x : Seen). length x.links) v in (
        subst (λ (x : Seen). moments.IsMoment m.state x.state) (sym v) (k.state.moments m.state (subst (λ (x : moments.Moment). moments.IsMoment x s.state) (sym es) (moment-now s.state is.state))),
        omega arith,
        subst (λ (x : Seen). wakes.IsMoment m.waits x.waits) (sym v) (k.waits.moments m.waits (subst (λ (x : wakes.Moment). wakes.IsMoment x s.waits) (sym (ap (λ (x : Moment). x.waits) em)) (record { parked = omega arith; taken = omega arith }))),
      )

  pub undo-state : (s : Seen) (b : Branch) → IsBranch s b → Keeps s now → IsState u
  unfolding IsBranch Keeps
  undo-state s b is k = subst (λ (x : Seen). IsState x.state) (sym v) (k.holds is.state)

-- ---- counts

pub steps-are : (s : Seen) (b : Branch) → IsBranch s b → b.steps ≡ s.steps
unfolding IsBranch
steps-are s b is = is.steps

pub variables-are : (s : Seen) (b : Branch) → IsBranch s b → s.state.store.drawn ≡ (program_of s).constants + bools b.sorts
unfolding IsBranch program_of
variables-are s b is = is.drawn

pub top-inside : (s : Seen) (b : Branch) → IsBranch s b → s.top ≤ length s.links
unfolding IsBranch
top-inside s b is = is.top

-- ---- printed variables

printed-step : (x : Text) (b : Bool) (n m : ℕ) (t : Text) (rest : List (ℕ × Text)) (l : ℕ) → ((j : ℕ) → slice_get rest j ≡ Some (m, t) → m < suc n + l) → (j : ℕ) → slice_get (if b then rest else (n, x) ∷ rest) j ≡ Some (m, t) → m < n + suc l
printed-step x true n m t rest l h j f = let i = h j f in omega arith
printed-step x false n m t rest l h zero f = let e : n ≡ m = ap (λ (p : ℕ × Text). p.0) (some-one (n, x) (m, t) f) in omega arith
printed-step x false n m t rest l h (suc j) f = let i = h j f in omega arith

printed-below : (xs : List Text) (n k m : ℕ) (t : Text) → slice_get (printed_from n xs) k ≡ Some (m, t) → m < n + length xs
printed-below [] n k m t e = absurd (cc)
printed-below (x ∷ xs) n k m t e = printed-step x (starts_low x) n m t (printed_from (suc n) xs) (length xs) (λ j f. printed-below xs (suc n) j m t f) k e

module _ (s : Seen) (b : Branch) (is : IsBranch s b) where
  open-branch : IsTheBranch s b
  unfolding IsBranch
  open-branch = is

  pub first-frame : (cells : List ℕ) × (slice_get s.frames 0 ≡ Some cells)
  first-frame = (open-branch.asked.cells, open-branch.asked.at)

  pub printed-there : (place number : ℕ) (name : Text) (cells : List ℕ) → slice_get (printed_from 0 s.query.variables) place ≡ Some (number, name) → slice_get s.frames 0 ≡ Some cells → number < length cells
  printed-there place number name cells e f =
      let l = printed-below s.query.variables 0 place number name e in
      let n = open-branch.runnable.variables in
      let m = open-branch.asked.placed.number in
      let c = ap length (some-one open-branch.asked.cells cells (sym open-branch.asked.at ∙ f)) in
      omega arith

  pub printed-is : (place number r : ℕ) (name : Text) (cells : List ℕ) → slice_get (printed_from 0 s.query.variables) place ≡ Some (number, name) → slice_get s.frames 0 ≡ Some cells → slice_get cells number ≡ Some r →
      IsPrinted s place r
  printed-is place number r name cells e f g =
      let same = some-one open-branch.asked.cells cells (sym open-branch.asked.at ∙ f) in
      let l = printed-there place number name cells e f in
      let m = open-branch.asked.placed.number in
      let c = ap length same in
      let z = some-of s.query.sorts number (omega arith) in
      let p = open-branch.asked.placed.places number z.0 z.1 in
      let one : p.cell ≡ r = some-one p.cell r (sym p.at ∙ ap (λ (xs : List ℕ). slice_get xs number) same ∙ g) in
      let z : 0 + number ≡ number = omega arith in
      record { number = number; name = name; printed = e; made = ap (λ (n : ℕ). slice_get s.state.made n) (sym z) ∙ p.made ∙ ap (λ (x : ℕ). Some x) one }

-- ---- the program and the query

module _ (now : Seen) (p : Source) (q : Asked) (u : state.Seen) (fs : List (List ℕ)) (ls : List Link) (top steps : ℕ) (ws : Waits) (pk : List Parked) (v : seen p q u fs ls top steps ws pk ≡ now) where
  pub query-count : (k m : ℕ) (zs : List Sort) → k ≡ length p.declared.constants → m ≡ bools zs → zs ≡ q.sorts → k + m ≡ (program_of now).constants + bools (query_of now).sorts
  unfolding program_of query_of
  query-count k m zs e f g =
      let a = ap (λ (o : Seen). length o.program.declared.constants) v in
      let b = ap (λ (o : Seen). bools o.query.sorts) v in
      let c = ap bools g in
      omega arith

  pub clause-inside : (clause : ℕ) → clause < length (program_of now).clauses → clause < length p.clauses
  unfolding program_of
  clause-inside clause h = let a = ap (λ (o : Seen). length o.program.clauses) v in omega arith

  pub next-is : (clause : ℕ) (r : Option ℕ) → ((c : Clause) → slice_get p.clauses clause ≡ Some c → r ≡ first_from c.pred (suc clause) (drop (suc clause) p.clauses)) →
      (c : Clause) → slice_get (program_of now).clauses clause ≡ Some c → r ≡ next_clause (program_of now) c.pred clause
  unfolding program_of
  next-is clause r f = subst (λ (o : Seen). (c : Clause) → slice_get o.program.clauses clause ≡ Some c → r ≡ first_from c.pred (suc clause) (drop (suc clause) o.program.clauses)) v f

  pub names-inside : (pred : ℕ) → pred < length now.program.names → pred < length p.names
  names-inside pred h = let a = ap (λ (o : Seen). length o.program.names) v in omega arith

  pub first-is : (pred : ℕ) (r : Option ℕ) → r ≡ first_from pred 0 p.clauses → r ≡ first_clause (program_of now) pred
  unfolding program_of
  first-is pred r e = e ∙ ap (λ (o : Seen). first_from pred 0 o.program.clauses) v

  pub clause-count : (clause : ℕ) (x : Clause) (n : ℕ) → slice_get p.clauses clause ≡ Some x → n ≡ bools x.sorts → (c : Clause) → slice_get (program_of now).clauses clause ≡ Some c → n ≡ bools c.sorts
  unfolding program_of
  clause-count clause x n e f c g =
      let h = ap (λ (o : Seen). slice_get o.program.clauses clause) v in
      f ∙ ap (λ (y : Clause). bools y.sorts) (some-one x c (sym e ∙ h ∙ g))
