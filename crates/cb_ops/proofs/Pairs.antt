-- The memo of `xor` after one more answer, after more nodes, and after a cut.
use Rattle.std.proofs.Common.{◌≡◌, ℕ, ◌+◌, ◌<◌, ◌≤◌, Bool, true, cond, List, [], ◌++◌, length, take, drop, nat_eq, None, Some, sym, ap, subst, ◌∙◌, inl, inr, arith}
use Rattle.std.proofs.lemmas.Bool.{and_parts, eqb-true, cases_Bool}
use Rattle.std.proofs.lemmas.Option.{same_Some}
use Rattle.std.proofs.lemmas.List.{take-append-drop}
use Rattle.indexmap.specs.IndexMap.{IndexMap, get}
use Rattle.std.specs.Map.{lookup}
use Rattle.cb_model.specs.Bits.{xor}
use Rattle.cb_dd.specs.declared.Triple.{Triple}
use Rattle.cb_dd.specs.Diagram.{function_of}
use Rattle.cb_dd.proofs.Diagrams.{function_of-append}
use Rattle.cb_ops.specs.declared.memos.Pair.{Pair}
use Rattle.cb_ops.specs.Ops.{IsXor}
use Rattle.cb_ops.specs.Pair.{pair_eq, IsPairAnswer, IsPairs, IsSamePair}
use Rattle.cb_ops.proofs.Connectives.{xor-comm}

pair_eq-same : (x y : Pair) → pair_eq x y ≡ true → x ≡ y
pair_eq-same x y e =
    let p = and_parts (nat_eq x.f y.f) (nat_eq x.g y.g) e in
    λ i. record { f = eqb-true _ _ p.0 i; g = eqb-true _ _ p.1 i }

answer-wide : (ts : List Triple) (bound wide : ℕ) (p : Pair) (r : ℕ) → bound ≤ wide → IsPairAnswer ts bound p r → IsPairAnswer ts wide p r
answer-wide ts bound wide p r le w = record { f = omega (arith, w.f); g = omega (arith, w.g); answer = omega (arith, w.answer); is = w.is }

module _ {S : Type 0} (m n : IndexMap Pair ℕ S) (bound wide : ℕ) (ts : List Triple) (old : IsPairs m bound ts) (le : bound ≤ wide) where
  -- an inserted answer that is right leaves a memo of right answers
  pub IsPairs-insert : (c : Pair) (r : ℕ) → IsPairAnswer ts wide c r → ((q : Pair) → get pair_eq n q ≡ cond (pair_eq c q) (Some r) (get pair_eq m q)) → IsPairs n wide ts
  IsPairs-insert c r new says = record {
    right = λ q v at. elim (cases_Bool (pair_eq c q)) [
      | inl same ↦
          let e : Some r ≡ Some v = sym (says q ∙ ap (λ b. cond b (Some r) (get pair_eq m q)) same) ∙ at in
          let P : ℕ → Type 0 = λ n. IsPairAnswer ts wide q n in
          subst P (same_Some r v e) (subst (λ d. IsPairAnswer ts wide d r) (pair_eq-same c q same) new)
      | inr other ↦ answer-wide ts bound wide q v le (old.right q v (sym (says q ∙ ap (λ b. cond b (Some r) (get pair_eq m q)) other) ∙ at))
    ];
  }

  -- nothing was inserted
  pub IsPairs-same : n.entries ≡ m.entries → IsPairs n wide ts
  IsPairs-same same = record {
    right = λ c r at. answer-wide ts bound wide c r le (old.right c r (ap (lookup (pair_eq c)) (sym same) ∙ at));
  }

pub IsPairs-wide : {S : Type 0} (m : IndexMap Pair ℕ S) (bound wide : ℕ) (ts : List Triple) → bound ≤ wide → IsPairs m bound ts → IsPairs m wide ts
IsPairs-wide m bound wide ts le old = record { right = λ c r at. answer-wide ts bound wide c r le (old.right c r at) }

-- a memo without answers
pub IsPairs-empty : {S : Type 0} (n : IndexMap Pair ℕ S) (bound : ℕ) (ts : List Triple) → n.entries ≡ [] → IsPairs n bound ts
IsPairs-empty n bound ts none = record { right = λ c r at. absurd (let d : None ≡ Some r = sym (ap (lookup (pair_eq c)) none) ∙ at in cc) }

two : (x y z w : Bool) → x ≡ z → y ≡ w → xor x y ≡ xor z w
two x y z w p q = λ j. xor (p j) (q j)

-- answers stay right when nodes are added
pub IsPairs-append : {S : Type 0} (m : IndexMap Pair ℕ S) (bound : ℕ) (ts us : List Triple) → bound ≤ length ts + 2 → IsPairs m bound ts → IsPairs m bound (ts ++ us)
IsPairs-append m bound ts us within old = record {
  right = λ c r at.
      let w = old.right c r at in
      record {
        f = w.f;
        g = w.g;
        answer = w.answer;
        is = record {
          at = λ a. function_of-append ts us r (omega (arith, w.answer)) a ∙ w.is.at a
              ∙ two _ _ _ _ (sym (function_of-append ts us c.f (omega (arith, w.f)) a)) (sym (function_of-append ts us c.g (omega (arith, w.g)) a));
        };
      };
}

-- and when nodes are taken away that they don't name
front : {S : Type 0} (m : IndexMap Pair ℕ S) (bound : ℕ) (ts us : List Triple) → bound ≤ length ts + 2 → IsPairs m bound (ts ++ us) → IsPairs m bound ts
front m bound ts us within old = record {
  right = λ c r at.
      let w = old.right c r at in
      record {
        f = w.f;
        g = w.g;
        answer = w.answer;
        is = record {
          at = λ a. sym (function_of-append ts us r (omega (arith, w.answer)) a) ∙ w.is.at a
              ∙ two _ _ _ _ (function_of-append ts us c.f (omega (arith, w.f)) a) (function_of-append ts us c.g (omega (arith, w.g)) a);
        };
      };
}

pub IsPairs-cut : {S : Type 0} (m : IndexMap Pair ℕ S) (bound : ℕ) (ts : List Triple) (to : ℕ) → bound ≤ length (take to ts) + 2 → IsPairs m bound ts → IsPairs m bound (take to ts)
IsPairs-cut m bound ts to within old = front m bound (take to ts) (drop to ts) within (subst (λ us. IsPairs m bound us) (sym (take-append-drop to ts)) old)

-- an answer of the pair in the one order is one in the other
pub pair-answer : (ts : List Triple) (f g f2 g2 r : ℕ) → IsSamePair f g f2 g2 → IsXor ts ts f2 g2 r → IsXor ts ts f g r
pair-answer ts f g f2 g2 r s is = elim s.same [
  | inl e ↦ record { at = λ a. is.at a ∙ two _ _ _ _ (ap (λ n. function_of ts n a) e.0) (ap (λ n. function_of ts n a) e.1) }
  | inr e ↦ record { at = λ a. is.at a ∙ two _ _ _ _ (ap (λ n. function_of ts n a) e.0) (ap (λ n. function_of ts n a) e.1) ∙ xor-comm (function_of ts g a) (function_of ts f a) }
]

pub pair-call : (ts : List Triple) (f g f2 g2 r : ℕ) → IsSamePair f g f2 g2 → IsXor ts ts f g r → IsXor ts ts f2 g2 r
pair-call ts f g f2 g2 r s is = elim s.same [
  | inl e ↦ record { at = λ a. is.at a ∙ sym (two _ _ _ _ (ap (λ n. function_of ts n a) e.0) (ap (λ n. function_of ts n a) e.1)) }
  | inr e ↦ record { at = λ a. is.at a ∙ xor-comm (function_of ts f a) (function_of ts g a) ∙ sym (two _ _ _ _ (ap (λ n. function_of ts n a) e.0) (ap (λ n. function_of ts n a) e.1)) }
]

pub pair-below : (f g f2 g2 bound : ℕ) → IsSamePair f g f2 g2 → f < bound → g < bound → (f2 < bound) × (g2 < bound)
pair-below f g f2 g2 bound s lf lg = elim s.same [
  | inl e ↦ let x = e.0 in let y = e.1 in (omega arith, omega arith)
  | inr e ↦ let x = e.0 in let y = e.1 in (omega arith, omega arith)
]
