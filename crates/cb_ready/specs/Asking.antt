-- Which of the calls that were parked are ready, over a state that stays.
use Rattle.std.specs.Prelude.{◌≡◌, ℕ, ◌<◌, List, [], length, Some, slice_get}
use Rattle.std.proofs.Common.{refl, sym, ap, subst, ◌∙◌}
use Rattle.cb_model.specs.Bits.{Each, Parts}
use Rattle.cb_model.specs.Derivation.{words_of}
use Rattle.cb_sorts.specs.Source.{Source}
use Rattle.cb_sorts.specs.Asked.{Asked}
use Rattle.cb_sorts.specs.OverFile.{asked_program}
use Rattle.cb_unify.specs.State.{Seen, FitsTable, IsState}
use Rattle.cb_wake.specs.Waits.{Waits, waiting}
use Rattle.cb_ready.specs.Parked.{Parked}
use Rattle.cb_ready.specs.Ready.{AllHold}

-- a state, a program, a query over it, the parked calls by number, and how many were asked about
pub record Asking : Type 0 where
  pub state : Seen
  pub program : Source
  pub query : Asked
  pub parked : List Parked
  pub tests : ℕ

-- none was asked about yet
abbrev pub asking : Seen → Source → Asked → List Parked → Asking
asking s p q cs = record { state = s; program = p; query = q; parked = cs; tests = 0 }

-- a call of one of the first n names, whose arguments' cells are there
pub record IsThere (n : ℕ) (s : Seen) (c : Parked) : Type 0 where
  pub name : c.pred < n
  pub args : Each (λ r. r.0 < length s.heap.sorts) c.args

-- the calls can be asked about
pub record IsAskable (s : Seen) (p : Source) (q : Asked) (cs : List Parked) : Type 0 where
  pub state : IsState s
  pub fits : FitsTable (asked_program p q []).world.arguments s
  pub calls : Each (IsThere (length p.names) s) cs

-- at each argument of the call with this number the word of its delay holds
pub record IsReadyAt (a : Asking) (k : ℕ) : Type 0 where
  pub call : Parked
  pub is : slice_get a.parked k ≡ Some call
  pub hold : AllHold (asked_program a.program a.query []).world.arguments a.state (words_of (asked_program a.program a.query []) call.pred) call.args

-- of the waiting calls those that are ready were taken, and the others wait
abbrev pub TakesReady : Seen → Source → Asked → List Parked → Waits → List ℕ → Waits → Type 0
TakesReady s p q cs old ks new = Parts (IsReadyAt (asking s p q cs)) (waiting old) ks (waiting new)

-- the same, but for how many were asked about
abbrev pub IsSameAsking : Asking → Asking → Type 0
IsSameAsking a b = b ≡ record a { tests = b.tests }

pub same-asking : (a : Asking) → IsSameAsking a a
same-asking a = refl

pub same-then : (a b c : Asking) → IsSameAsking a b → IsSameAsking b c → IsSameAsking a c
same-then a b c h k = k ∙ ap (λ (x : Asking). record x { tests = c.tests }) h

pub ready-back : (a b : Asking) (k : ℕ) → IsSameAsking a b → IsReadyAt b k → IsReadyAt a k
ready-back a b k h r = let q = subst (λ (x : Asking). IsReadyAt x k) h r in record { call = q.call; is = q.is; hold = q.hold }

pub ready-on : (a b : Asking) (k : ℕ) → IsSameAsking a b → IsReadyAt a k → IsReadyAt b k
ready-on a b k h r = subst (λ (x : Asking). IsReadyAt x k) (sym h) (record { call = r.call; is = r.is; hold = r.hold })
