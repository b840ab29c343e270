-- The memo after one more answer, after more nodes, and after a cut.
use Rattle.std.proofs.Common.{◌≡◌, ℕ, ◌+◌, ◌≤◌, Bool, true, cond, ◌&&◌, List, [], ◌++◌, length, take, drop, nat_eq, None, Some, if◌then◌else◌, sym, ap, subst, ◌∙◌, inl, inr, arith, length-append}
use Rattle.std.proofs.lemmas.Bool.{and_parts, eqb-true, cases_Bool}
use Rattle.std.proofs.lemmas.Option.{same_Some}
use Rattle.std.proofs.lemmas.List.{take-append-drop}
use Rattle.indexmap.specs.IndexMap.{IndexMap, get}
use Rattle.std.specs.Map.{lookup}
use Rattle.std.specs.Prelude.{Result, Ok, Err, OnOk, OnErr}
use Rattle.cb_dd.specs.declared.Triple.{Triple}
use Rattle.cb_dd.specs.Diagram.{IsDiagram, function_of}
use Rattle.cb_dd.proofs.Diagrams.{function_of-append}
use Rattle.cb_ops.specs.declared.memos.Call.{Call}
use Rattle.cb_ops.specs.Call.{call_eq, IsAnswer, IsMemo}

pub call_eq-same : (x y : Call) → call_eq x y ≡ true → x ≡ y
call_eq-same x y e =
    let p = and_parts (nat_eq x.f y.f) (nat_eq x.g y.g && nat_eq x.h y.h) e in
    let q = and_parts (nat_eq x.g y.g) (nat_eq x.h y.h) p.1 in
    λ i. record { f = eqb-true _ _ p.0 i; g = eqb-true _ _ q.0 i; h = eqb-true _ _ q.1 i }

answer-wide : (ts : List Triple) (bound wide : ℕ) (c : Call) (r : ℕ) → bound ≤ wide → IsAnswer ts bound c r → IsAnswer ts wide c r
answer-wide ts bound wide c r le w = record { f = omega (arith, w.f); g = omega (arith, w.g); h = omega (arith, w.h); answer = omega (arith, w.answer); is = w.is }

module _ {S : Type 0} (m n : IndexMap Call ℕ S) (bound wide : ℕ) (ts : List Triple) (old : IsMemo m bound ts) (le : bound ≤ wide) (room : wide ≤ length ts + 2) where
  -- an inserted answer that is right leaves a memo of right answers
  pub IsMemo-insert : (c : Call) (r : ℕ) → IsAnswer ts wide c r → ((q : Call) → get call_eq n q ≡ cond (call_eq c q) (Some r) (get call_eq m q)) → IsMemo n wide ts
  IsMemo-insert c r new says = record {
    diagram = old.diagram;
    within = room;
    right = λ q v at. elim (cases_Bool (call_eq c q)) [
      | inl same ↦
          let e : Some r ≡ Some v = sym (says q ∙ ap (λ b. cond b (Some r) (get call_eq m q)) same) ∙ at in
          let P : ℕ → Type 0 = λ n. IsAnswer ts wide q n in
          subst P (same_Some r v e) (subst (λ d. IsAnswer ts wide d r) (call_eq-same c q same) new)
      | inr other ↦ answer-wide ts bound wide q v le (old.right q v (sym (says q ∙ ap (λ b. cond b (Some r) (get call_eq m q)) other) ∙ at))
    ];
  }

  -- nothing was inserted
  pub IsMemo-same : n.entries ≡ m.entries → IsMemo n wide ts
  IsMemo-same same = record {
    diagram = old.diagram;
    within = room;
    right = λ c r at. answer-wide ts bound wide c r le (old.right c r (ap (lookup (call_eq c)) (sym same) ∙ at));
  }

choose : (b : Bool) (x y z w : Bool) → x ≡ z → y ≡ w → (if b then x else y) ≡ (if b then z else w)
choose b x y z w p q = λ j. if b then p j else q j

-- answers stay right when nodes are added
answer-append : (bound : ℕ) (ts us : List Triple) (c : Call) (r : ℕ) → bound ≤ length ts + 2 → IsAnswer ts bound c r → IsAnswer (ts ++ us) bound c r
answer-append bound ts us c r within w = record {
  f = w.f;
  g = w.g;
  h = w.h;
  answer = w.answer;
  is = record {
    at = λ a. function_of-append ts us r (omega (arith, w.answer)) a ∙ w.is.at a
        ∙ ap (λ b. if b then function_of ts c.g a else function_of ts c.h a) (sym (function_of-append ts us c.f (omega (arith, w.f)) a))
        ∙ choose (function_of (ts ++ us) c.f a) _ _ _ _ (sym (function_of-append ts us c.g (omega (arith, w.g)) a)) (sym (function_of-append ts us c.h (omega (arith, w.h)) a));
  };
}

-- and when nodes are taken away that they don't name
answer-front : (bound : ℕ) (ts us : List Triple) (c : Call) (r : ℕ) → bound ≤ length ts + 2 → IsAnswer (ts ++ us) bound c r → IsAnswer ts bound c r
answer-front bound ts us c r within w = record {
  f = w.f;
  g = w.g;
  h = w.h;
  answer = w.answer;
  is = record {
    at = λ a. sym (function_of-append ts us r (omega (arith, w.answer)) a) ∙ w.is.at a
        ∙ ap (λ b. if b then function_of (ts ++ us) c.g a else function_of (ts ++ us) c.h a) (function_of-append ts us c.f (omega (arith, w.f)) a)
        ∙ choose (function_of ts c.f a) _ _ _ _ (function_of-append ts us c.g (omega (arith, w.g)) a) (function_of-append ts us c.h (omega (arith, w.h)) a);
  };
}

pub IsMemo-append : {S : Type 0} (m : IndexMap Call ℕ S) (bound : ℕ) (ts us : List Triple) → IsDiagram (ts ++ us) → IsMemo m bound ts → IsMemo m bound (ts ++ us)
IsMemo-append m bound ts us is old = record {
  diagram = is;
  within = omega (arith, old.within, length-append ts us);
  right = λ c r at. answer-append bound ts us c r old.within (old.right c r at);
}

pub IsMemo-cut : {S : Type 0} (m : IndexMap Call ℕ S) (bound : ℕ) (ts : List Triple) (to : ℕ) → IsDiagram (take to ts) → bound ≤ length (take to ts) + 2 → IsMemo m bound ts → IsMemo m bound (take to ts)
IsMemo-cut m bound ts to is within old = record {
  diagram = is;
  within = within;
  right = λ c r at. answer-front bound (take to ts) (drop to ts) c r within (subst (λ us. IsAnswer us bound c r) (sym (take-append-drop to ts)) (old.right c r at));
}

-- a memo without answers
pub IsMemo-empty : {S : Type 0} (m n : IndexMap Call ℕ S) (bound : ℕ) (ts : List Triple) → IsMemo m bound ts → n.entries ≡ [] → IsMemo n bound ts
IsMemo-empty m n bound ts old none = record {
  diagram = old.diagram;
  within = old.within;
  right = λ c r at. absurd (let d : None ≡ Some r = sym (ap (lookup (call_eq c)) none) ∙ at in cc);
}

-- by what a call says of its two outcomes
pub either-way : {X E A B C : Type 0} (r : Result X E) → OnOk r A → OnErr r B → (A → C) → (B → C) → C
either-way (Ok x) p q f g = f p
either-way (Err e) p q f g = g q
