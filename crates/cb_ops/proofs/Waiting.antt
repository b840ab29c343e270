-- The list of waiting calls: its answers, its room, and its end.
use Rattle.std.proofs.Common.{◌≡◌, ℕ, ◌+◌, ◌*◌, ◌-◌, ◌<◌, ◌≤◌, ◌^◌, Bool, true, false, List, [], ◌∷◌, ◌++◌, length, if◌then◌else◌, Option, Some, None, IfSome, refl, sym, ap, subst, ◌∙◌, inl, inr, arith, nat_eq, sum_by, rules, Result, Err}
use Rattle.std.proofs.lemmas.Bool.{cases_Bool, cases_lt, true≢false}
use Rattle.std.proofs.lemmas.List.Sums.{sum_by_push}
use Rattle.std.proofs.lemmas.Nat.{pow_pos, pow-add}
use Rattle.std.proofs.Math.Pow.{pow_mono}
use Rattle.std.specs.List.{list_any}
use Rattle.cb_model.specs.Bits.{Bits, put}
use Rattle.cb_dd.specs.declared.Triple.{Triple}
use Rattle.cb_dd.specs.declared.Node.{Node}
use Rattle.cb_dd.specs.declared.Stop.{Stop}
use Rattle.cb_dd.specs.declared.Stop.TheVariants.{Nodes, Memory}
use Rattle.cb_dd.specs.Diagram.{Store, IsNode, IsDiagram, function_of, level_of}
use Rattle.cb_dd.proofs.Diagrams.{bottom, top, inner, kind_of, function_of-put, level_of-node}
use Rattle.cb_ops.specs.declared.calls.Choice.{Choice}
use Rattle.cb_ops.specs.declared.calls.Operation.{Operation}
use Rattle.cb_ops.specs.declared.calls.Operation.TheVariants.{Ite, Xor}
use Rattle.cb_ops.specs.declared.calls.Pending.{Pending}
use Rattle.cb_ops.specs.declared.calls.Left.{Left}
use Rattle.cb_ops.specs.declared.calls.Left.TheVariants as left
use Rattle.cb_ops.specs.declared.calls.Turn.{Turn}
use Rattle.cb_ops.specs.declared.calls.Turn.TheVariants as turn
use Rattle.cb_ops.specs.Ops.{Grows, IsIte, IsXor, DependsOn, DependAll, Room, HasCause}
use Rattle.cb_ops.specs.Waiting.{combined, value_of, IsValue, AreCalled, IsPart, IsHalf, HasLeft, Waits, IsAnswered, IsOpen, IsPut, level_of_call, Asked, Resumed, bit_of, fulls_after_turn}
use Rattle.cb_ops.proofs.Ite.{put-id, essential, grown-node, grown-function, grown-level, grown-child, grown-cofactor, Grows-same, Grows-then, grown-depends, cofactor-depends, without, without-lt, listed, least-three}

pub combined-all : (o : Operation) (b c x y z w : Bool) → b ≡ c → x ≡ z → y ≡ w → combined o b x y ≡ combined o c z w
combined-all o b c x y z w p q r = λ j. combined o (p j) (q j) (r j)

-- what the two operations ask for
pub answered-ite : (ts : List Triple) (c : Choice) (o : Option Node) → c.operation ≡ Ite → IfSome o (λ r. IsNode ts r.0) → IfSome o (λ r. IsIte ts ts c.f.0 c.g.0 c.h.0 r.0) → IfSome o (λ r. IsAnswered ts c r.0)
answered-ite ts c (Some r) e w is = record { node = w; value = λ a. is.at a ∙ sym (ap (λ o. combined o (function_of ts c.f.0 a) (function_of ts c.g.0 a) (function_of ts c.h.0 a)) e) }
answered-ite ts c None e w is = tt

pub answered-xor : (ts : List Triple) (c : Choice) (o : Option Node) → c.operation ≡ Xor → IfSome o (λ r. IsNode ts r.0) → IfSome o (λ r. IsXor ts ts c.f.0 c.g.0 r.0) → IfSome o (λ r. IsAnswered ts c r.0)
answered-xor ts c (Some r) e w is = record { node = w; value = λ a. is.at a ∙ sym (ap (λ o. combined o (function_of ts c.f.0 a) (function_of ts c.g.0 a) (function_of ts c.h.0 a)) e) }
answered-xor ts c None e w is = tt

pub ite-of : (ts : List Triple) (c : Choice) (r : ℕ) → c.operation ≡ Ite → IsAnswered ts c r → IsIte ts ts c.f.0 c.g.0 c.h.0 r
ite-of ts c r e is = record { at = λ a. is.value a ∙ ap (λ o. combined o (function_of ts c.f.0 a) (function_of ts c.g.0 a) (function_of ts c.h.0 a)) e }

pub xor-of : (ts : List Triple) (c : Choice) (r : ℕ) → c.operation ≡ Xor → IsAnswered ts c r → IsXor ts ts c.f.0 c.g.0 r
xor-of ts c r e is = record { at = λ a. is.value a ∙ ap (λ o. combined o (function_of ts c.f.0 a) (function_of ts c.g.0 a) (function_of ts c.h.0 a)) e }

-- the level of an answer isn't below those of the call
value-above : (ts : List Triple) → IsDiagram ts → (c : Choice) (r l : ℕ) → AreCalled ts c → IsAnswered ts c r → l < level_of ts c.f.0 → l < level_of ts c.g.0 → l < level_of ts c.h.0 → l < 2 ^ 32 → l < level_of ts r
value-above ts is c r l w answer lf lg lh small = elim (cases_lt l (level_of ts r)) [
  | inl lt ↦ lt
  | inr ge ↦
      let k : ℕ = level_of ts r in
      absurd (essential ts is r (level_of ts r) answer.node refl (omega arith) (λ a b.
      answer.value (put (level_of ts r) b a)
      ∙ combined-all c.operation _ _ _ _ _ _ (function_of-put ts is c.f.0 w.f (level_of ts r) (omega arith) a b) (function_of-put ts is c.g.0 w.g (level_of ts r) (omega arith) a b) (function_of-put ts is c.h.0 w.h (level_of ts r) (omega arith) a b)
      ∙ sym (answer.value a)))
]

-- a call has its value also after more nodes
pub grown-value : (s t : Store) → Grows s t → (c : Choice) → AreCalled s.triples c → (a : Bits) → value_of t.triples c a ≡ value_of s.triples c a
grown-value s t gr c w a = combined-all c.operation _ _ _ _ _ _ (grown-function s t gr c.f.0 w.f a) (grown-function s t gr c.g.0 w.g a) (grown-function s t gr c.h.0 w.h a)

-- the node of the two answers is the answer
pub halves-meet : (s t : Store) → Grows s t → (level : ℕ) (c : Choice) (lo hi n : ℕ) → AreCalled s.triples c → IsHalf s.triples level false c lo → IsHalf s.triples level true c hi
    → ((a : Bits) → function_of t.triples n a ≡ (if a level then function_of s.triples hi a else function_of s.triples lo a)) → (a : Bits) → function_of t.triples n a ≡ value_of t.triples c a
halves-meet s t gr level c lo hi n w low high made a = elim (cases_Bool (a level)) [
  | inl one ↦
      made a ∙ ap (λ b. if b then function_of s.triples hi a else function_of s.triples lo a) one ∙ high.at a
      ∙ ap (value_of s.triples c) (put-id a level true one) ∙ sym (grown-value s t gr c w a)
  | inr zero ↦
      made a ∙ ap (λ b. if b then function_of s.triples hi a else function_of s.triples lo a) zero ∙ low.at a
      ∙ ap (value_of s.triples c) (put-id a level false zero) ∙ sym (grown-value s t gr c w a)
]

-- what waits with its second cofactor to be asked, and what is left of it
pub left-high : (ts : List Triple) (level : ℕ) (c d : Choice) (l : Left) → l ≡ left.High d → HasLeft ts level c l → IsPart ts level true c d
left-high ts level c d l e h = subst (HasLeft ts level c) e h

pub left-low : (ts : List Triple) (level : ℕ) (c : Choice) (r : Node) (l : Left) → l ≡ left.Low r → HasLeft ts level c l → IsHalf ts level false c r.0
left-low ts level c r l e h = subst (HasLeft ts level c) e h

-- the answer for the bit that is waited for
pub half-of : (ts : List Triple) (level : ℕ) (c : Choice) (r : ℕ) (l : Left) (b : Bool) → bit_of l ≡ b → IsHalf ts level (bit_of l) c r → IsHalf ts level b c r
half-of ts level c r l b e h = subst (λ x. IsHalf ts level x c r) e h

pub grown-called : (s t : Store) → Grows s t → (c : Choice) → AreCalled s.triples c → AreCalled t.triples c
grown-called s t gr c w = record { f = grown-node s t gr c.f.0 w.f; g = grown-node s t gr c.g.0 w.g; h = grown-node s t gr c.h.0 w.h }

-- ---- the list

-- each call waits for the next one, and the last for the current one
abbrev pub Chain : List Triple → Choice → List Pending → Choice → Type 0
Chain ts from [] to = to ≡ from
Chain ts from (x ∷ xs) to = (x.call ≡ from) × Waits ts x × ((d : Choice) × (IsPart ts x.level (bit_of x.left) x.call d × Chain ts d xs to))

pub chain-push : (ts : List Triple) (from : Choice) (xs : List Pending) (x : Pending) (c d : Choice) → Chain ts from xs c → x.call ≡ c → Waits ts x → IsPart ts x.level (bit_of x.left) x.call d → Chain ts from (xs ++ x ∷ []) d
chain-push ts from [] x c d h e w p = (e ∙ h, w, (d, (p, refl)))
chain-push ts from (y ∷ ys) x c d h e w p = (h.0, h.1, (h.2.0, (h.2.1.0, chain-push ts h.2.0 ys x c d h.2.1.1 e w p)))

pub chain-last : (ts : List Triple) (from : Choice) (xs : List Pending) (x : Pending) (d : Choice) → Chain ts from (xs ++ x ∷ []) d → Chain ts from xs x.call × Waits ts x × IsPart ts x.level (bit_of x.left) x.call d
chain-last ts from [] x d h = (h.0, h.1, subst (IsPart ts x.level (bit_of x.left) x.call) (sym h.2.1.1) h.2.1.0)
chain-last ts from (y ∷ ys) x d h =
    let r = chain-last ts h.2.0 ys x d h.2.1.1 in
    ((h.0, h.1, (h.2.0, (h.2.1.0, r.0))), r.1, r.2)

pub part-called : (ts : List Triple) (level : ℕ) (bit : Bool) (c d : Choice) → IsPart ts level bit c d → AreCalled ts d
part-called ts level bit c d p = record { f = p.f.node; g = p.g.node; h = p.h.node }

pub chain-called : (ts : List Triple) (from : Choice) (xs : List Pending) (to : Choice) → AreCalled ts from → Chain ts from xs to → AreCalled ts to
chain-called ts from [] to w h = subst (AreCalled ts) (sym h) w
chain-called ts from (x ∷ xs) to w h = chain-called ts h.2.0 xs to (part-called ts x.level (bit_of x.left) x.call h.2.0 h.2.1.0) h.2.1.1

-- ---- after more nodes

pub grown-part : (s t : Store) → Grows s t → (level : ℕ) (bit : Bool) (c d : Choice) → AreCalled s.triples c → IsPart s.triples level bit c d → IsPart t.triples level bit c d
grown-part s t gr level bit c d w p = record {
  operation = p.operation;
  f = grown-cofactor s t gr c.f.0 level bit d.f.0 w.f p.f;
  g = grown-cofactor s t gr c.g.0 level bit d.g.0 w.g p.g;
  h = grown-cofactor s t gr c.h.0 level bit d.h.0 w.h p.h;
}

grown-half : (s t : Store) → Grows s t → (level : ℕ) (bit : Bool) (c : Choice) (r : ℕ) → AreCalled s.triples c → IsHalf s.triples level bit c r → IsHalf t.triples level bit c r
grown-half s t gr level bit c r w h = record {
  child = grown-child s t gr level r h.child;
  at = λ a. grown-function s t gr r h.child.node a ∙ h.at a ∙ sym (grown-value s t gr c w (put level bit a));
}

grown-left : (s t : Store) → Grows s t → (level : ℕ) (c : Choice) (l : Left) → AreCalled s.triples c → HasLeft s.triples level c l → HasLeft t.triples level c l
grown-left s t gr level c (left.High d) w h = grown-part s t gr level true c d w h
grown-left s t gr level c (left.Low r) w h = grown-half s t gr level false c r.0 w h

grown-waits : (s t : Store) → Grows s t → (x : Pending) → Waits s.triples x → Waits t.triples x
grown-waits s t gr x w = record {
  call = grown-called s t gr x.call w.call;
  small = w.small;
  least = rw (grown-level s t gr x.call.f.0 w.call.f, grown-level s t gr x.call.g.0 w.call.g, grown-level s t gr x.call.h.0 w.call.h) w.least;
  left = grown-left s t gr x.level x.call x.left w.call w.left;
}

pub chain-grown : (s t : Store) → Grows s t → (from : Choice) (xs : List Pending) (to : Choice) → Chain s.triples from xs to → Chain t.triples from xs to
chain-grown s t gr from [] to h = h
chain-grown s t gr from (x ∷ xs) to h =
    (h.0, grown-waits s t gr x h.1, (h.2.0, (grown-part s t gr x.level (bit_of x.left) x.call h.2.0 h.1.call h.2.1.0, chain-grown s t gr h.2.0 xs to h.2.1.1)))

-- the answer of a cofactor is half of the answer
pub part-answered : (ts : List Triple) → IsDiagram ts → (x : Pending) (d : Choice) (r : ℕ) → Waits ts x → IsPart ts x.level (bit_of x.left) x.call d → IsAnswered ts d r → IsHalf ts x.level (bit_of x.left) x.call r
part-answered ts is x d r w p e = record {
  child = record {
    node = e.node;
    below = value-above ts is d r x.level (part-called ts x.level (bit_of x.left) x.call d p) e p.f.above p.g.above p.h.above w.small;
  };
  at = λ a.
      e.value a ∙ ap (λ o. combined o (function_of ts d.f.0 a) (function_of ts d.g.0 a) (function_of ts d.h.0 a)) p.operation
      ∙ combined-all x.call.operation _ _ _ _ _ _ (p.f.function a) (p.g.function a) (p.h.function a);
}

-- ---- the room

-- the nodes of a call depend on the levels alone
abbrev pub Depends : List Triple → Choice → List ℕ → Type 0
Depends ts c ls = DependAll ts (c.f.0 ∷ c.g.0 ∷ c.h.0 ∷ []) ls

pub depends-part : (ts : List Triple) (level : ℕ) (bit : Bool) (c d : Choice) (ls : List ℕ) → IsPart ts level bit c d → Depends ts c ls → Depends ts d (without level ls)
depends-part ts level bit c d ls p h = (cofactor-depends ts c.f.0 level bit d.f.0 ls p.f h.0, (cofactor-depends ts c.g.0 level bit d.g.0 ls p.g h.1.0, (cofactor-depends ts c.h.0 level bit d.h.0 ls p.h h.1.1.0, tt)))

-- the nodes that a waiting call may make when its answer comes, over so many rows of its other levels
abbrev pub after : Left → ℕ → ℕ
after (left.High d) n = n
after (left.Low r) n = 1

-- the nodes that the waiting calls and the current one may make
abbrev pub rest : (List ℕ → ℕ) → List Pending → List ℕ → ℕ
rest base [] ls = base ls
rest base (x ∷ xs) ls = after x.left (2 ^ length (without x.level ls)) + rest base xs (without x.level ls)

abbrev pub rest_behind : (List ℕ → ℕ) → Pending → List ℕ → ℕ
rest_behind base x ks = after x.left (2 ^ length (without x.level ks)) + base (without x.level ks)

pub rest-last : (base : List ℕ → ℕ) (xs : List Pending) (x : Pending) (ls : List ℕ) → rest base (xs ++ x ∷ []) ls ≡ rest (rest_behind base x) xs ls
rest-last base [] x ls = refl
rest-last base (y ∷ ys) x ls = ap (λ n. after y.left (2 ^ length (without y.level ls)) + n) (rest-last base ys x (without y.level ls))

pub rest-most : (ts : List Triple) (b c : List ℕ → ℕ) (more : ℕ) (from : Choice) (xs : List Pending) (to : Choice) (ls : List ℕ) → Chain ts from xs to → Depends ts from ls
    → ((ks : List ℕ) → Depends ts to ks → b ks + more ≤ c ks) → rest b xs ls + more ≤ rest c xs ls
rest-most ts b c more from [] to ls h d f = f ls (subst (λ x. Depends ts x ls) (sym h) d)
rest-most ts b c more from (x ∷ xs) to ls h d f =
    let e : Depends ts h.2.0 (without x.level ls) = depends-part ts x.level (bit_of x.left) x.call h.2.0 ls h.2.1.0 (subst (λ y. Depends ts y ls) (sym h.0) d) in
    let r : rest b xs (without x.level ls) + more ≤ rest c xs (without x.level ls) = rest-most ts b c more h.2.0 xs to (without x.level ls) h.2.1.1 e f in
    omega (arith, r)

-- the nodes that a call may make, and an answer
abbrev pub asks : List ℕ → ℕ
asks ks = 2 ^ length ks - 1

abbrev pub rests : List ℕ → ℕ
rests ks = 0

-- the least level of a call is among those on which it depends
least-listed : (ts : List Triple) → IsDiagram ts → (c : Choice) (l : ℕ) (ks : List ℕ) → AreCalled ts c → l ≡ level_of_call ts c → l < 2 ^ 32 → Depends ts c ks → list_any (nat_eq l) ks ≡ true
least-listed ts is c l ks w least small d = elim (least-three l (level_of ts c.f.0) (level_of ts c.g.0) (level_of ts c.h.0) least) [
  | inl p ↦ subst (λ k. list_any (nat_eq k) ks ≡ true) (sym p) (listed ts is c.f.0 ks w.f (omega arith) d.0)
  | inr q ↦ elim q [
    | inl p ↦ subst (λ k. list_any (nat_eq k) ks ≡ true) (sym p) (listed ts is c.g.0 ks w.g (omega arith) d.1.0)
    | inr p ↦ subst (λ k. list_any (nat_eq k) ks ≡ true) (sym p) (listed ts is c.h.0 ks w.h (omega arith) d.1.1.0)
  ]
]

level-inner : (ts : List Triple) → IsDiagram ts → (n : ℕ) → IsNode ts n → 2 ≤ n → level_of ts n < 2 ^ 32
level-inner ts is n w two = elim (kind_of ts n w) [
  | bottom e ↦ omega arith
  | top e ↦ omega arith
  | inner k t e at ↦ let lev : level_of ts n ≡ t.level = ap (level_of ts) e ∙ level_of-node ts k t at in let s : t.level < 2 ^ 32 = (is.ordered k t at).level in omega arith
]

-- the least level of a call that isn't plain
open-level : (ts : List Triple) → IsDiagram ts → (c : Choice) → AreCalled ts c → IsOpen c → level_of_call ts c < 2 ^ 32
open-level ts is c w (inl two) = let l = level-inner ts is c.f.0 w.f two in omega arith
open-level ts is c w (inr two) = let l = level-inner ts is c.g.0 w.g two in omega arith

-- a call that isn't plain may make a node
pub open-room : (ts : List Triple) → IsDiagram ts → (c : Choice) (ks : List ℕ) → AreCalled ts c → IsOpen c → Depends ts c ks → rests ks + 1 ≤ asks ks
open-room ts is c ks w opens d =
    let l : ℕ = level_of_call ts c in
    let k : ℕ = length (without l ks) + 1 in
    let one : 1 ≤ k = omega arith in
    let m : 2 ^ k ≤ 2 ^ length ks = pow_mono (without-lt l ks (least-listed ts is c l ks w refl (open-level ts is c w opens) d)) in
    let n : 2 ^ 1 ≤ 2 ^ k = pow_mono one in
    omega (arith, m, n)

-- a waiting call and its cofactor may make as many as the call
pub asked-room : (ts : List Triple) → IsDiagram ts → (x : Pending) (ks : List ℕ) → Waits ts x → Depends ts x.call ks → rest_behind asks x ks + 0 ≤ asks ks
asked-room ts is x ks w d = within x.left
  where
    twice : 2 ^ length (without x.level ks) + 2 ^ length (without x.level ks) ≤ 2 ^ length ks
    twice =
        let m : 2 ^ (length (without x.level ks) + 1) ≤ 2 ^ length ks = pow_mono (without-lt x.level ks (least-listed ts is x.call x.level ks w.call w.least w.small d)) in
        let f : 2 ^ (length (without x.level ks) + 1) ≡ 2 ^ length (without x.level ks) * 2 ^ 1 = pow-add 2 (length (without x.level ks)) 1 in
        omega arith

    some : 0 < 2 ^ length (without x.level ks)
    some = pow_pos (length (without x.level ks))

    within : (l : Left) → after l (2 ^ length (without x.level ks)) + asks (without x.level ks) + 0 ≤ asks ks
    within (left.High d) = omega (arith, twice, some)
    within (left.Low r) = omega (arith, twice, some)

-- when the first answer has come
pub resumed-room : (x y : Pending) (ks : List ℕ) → x.level ≡ y.level → bit_of x.left ≡ true → bit_of y.left ≡ false → rest_behind asks x ks + 0 ≤ rest_behind rests y ks
resumed-room x y ks same e g = within x.left y.left e g
  where
    p : 0 < 2 ^ length (without x.level ks)
    p = pow_pos (length (without x.level ks))

    q : 2 ^ length (without x.level ks) ≡ 2 ^ length (without y.level ks)
    q = ap (λ l. 2 ^ length (without l ks)) same

    within : (l m : Left) → bit_of l ≡ true → bit_of m ≡ false → after l (2 ^ length (without x.level ks)) + asks (without x.level ks) + 0 ≤ after m (2 ^ length (without y.level ks)) + 0
    within (left.High d) m e g = absurd (true≢false (sym e))
    within (left.Low r) (left.Low s) e g = absurd (true≢false g)
    within (left.Low r) (left.High d) e g = omega (arith, p, q)

-- and when the call is answered
pub closed-room : (y : Pending) (ks : List ℕ) → rests ks + 1 ≤ rest_behind rests y ks
closed-room y ks = within y.left
  where
    some : 0 < 2 ^ length (without y.level ks)
    some = pow_pos (length (without y.level ks))

    within : (m : Left) → 0 + 1 ≤ after m (2 ^ length (without y.level ks)) + 0
    within (left.High d) = omega (arith, some)
    within (left.Low r) = omega arith

-- ---- the end

-- the work that a call may take, and what a waiting call still may
abbrev pub work : ℕ → ℕ
work n = 4 * 2 ^ n - 3

abbrev pub left_work : ℕ → Left → ℕ
left_work level (left.High d) = 2 * 2 ^ (2 ^ 32 - level) - 1
left_work level (left.Low r) = 1

abbrev pub work_left : Pending → ℕ
work_left x = left_work x.level x.left

abbrev pub turn_work : List Triple → Turn → ℕ
turn_work ts (turn.Ask c) = work (2 ^ 32 - level_of_call ts c)
turn_work ts (turn.Answer r) = 0

-- the work that is still to be done
abbrev pub work_of : List Triple → List Pending → Turn → ℕ
work_of ts xs t = sum_by work_left xs + turn_work ts t

work-last : (xs : List Pending) (x : Pending) → sum_by work_left (xs ++ x ∷ []) ≡ sum_by work_left xs + work_left x
work-last xs x = sum_by_push work_left xs x

-- a cofactor takes less than half the work
work-part : (ts : List Triple) (level : ℕ) (bit : Bool) (c d : Choice) → level < 2 ^ 32 → IsPart ts level bit c d → work (2 ^ 32 - level_of_call ts d) + 3 ≤ 2 * 2 ^ (2 ^ 32 - level)
work-part ts level bit c d small p =
    let n : ℕ = 2 ^ 32 - level_of_call ts d in
    let k : ℕ = 2 ^ 32 - level - 1 in
    let e : k + 1 ≡ 2 ^ 32 - level = omega arith in
    let le : n ≤ k = omega (arith, p.f.above, p.g.above, p.h.above) in
    let m : 2 ^ n ≤ 2 ^ k = pow_mono le in
    let f : 2 ^ (k + 1) ≡ 2 ^ k * 2 ^ 1 = pow-add 2 k 1 in
    let g : 2 ^ (2 ^ 32 - level) ≡ 2 ^ k * 2 ^ 1 = ap (λ z. 2 ^ z) (sym e) ∙ f in
    let q : 0 < 2 ^ n = pow_pos n in
    omega (arith, m, g, q)

-- ---- the whole

abbrev pub base_of : Turn → List ℕ → ℕ
base_of (turn.Ask c) = asks
base_of (turn.Answer r) = rests

-- the waiting calls wait for the call that is asked, which isn't plain, or for the call whose answer has come
abbrev pub TurnIs : List Triple → Choice → List Pending → Turn → Type 0
TurnIs ts from xs (turn.Ask c) = Chain ts from xs c × IsOpen c
TurnIs ts from xs (turn.Answer r) = (c : Choice) × (Chain ts from xs c × IsAnswered ts c r.0)

-- what the loop keeps
pub record Going (s t : Store) (from : Choice) (xs : List Pending) (u : Turn) : Type 0 where
  pub grows : Grows s t
  pub diagram : IsDiagram t.triples
  pub fulls : t.fulls ≡ s.fulls
  pub called : AreCalled t.triples from
  pub turn : TurnIs t.triples from xs u
  pub room : (ls : List ℕ) → Depends t.triples from ls → length t.triples + rest (base_of u) xs ls ≤ length s.triples + asks ls

pub going-start : (s : Store) (from : Choice) → IsDiagram s.triples → AreCalled s.triples from → IsOpen from → Going s s from [] (turn.Ask from)
going-start s from is w opens = record { grows = Grows-same s; diagram = is; fulls = refl; called = w; turn = (refl, opens); room = λ ls d. omega arith }

pub going-called : (s t : Store) (from c : Choice) (xs : List Pending) (u : Turn) → u ≡ turn.Ask c → Going s t from xs u → AreCalled t.triples c
going-called s t from c xs u e g = chain-called t.triples from xs c g.called (subst (TurnIs t.triples from xs) e g.turn).0

pub going-open : (s t : Store) (from c : Choice) (xs : List Pending) (u : Turn) → u ≡ turn.Ask c → Going s t from xs u → IsOpen c
going-open s t from c xs u e g = (subst (TurnIs t.triples from xs) e g.turn).1

-- the room also at a refusal
pub refused-room : (s t v : Store) (from : Choice) (xs : List Pending) (u : Turn) → Going s t from xs u → v.triples ≡ t.triples → (ls : List ℕ) → Depends v.triples from ls → length v.triples ≤ length s.triples + asks ls
refused-room s t v from xs u g same ls d =
    let m = g.room ls (subst (λ ts. Depends ts from ls) same d) in
    let n = ap (λ (ts : List Triple). length ts) same in
    omega (arith, m, n)

depends-before : (t u : Store) → Grows t u → (from : Choice) → AreCalled t.triples from → (ls : List ℕ) → Depends u.triples from ls → Depends t.triples from ls
depends-before t u tu from w ls d = (back from.f.0 w.f d.0, (back from.g.0 w.g d.1.0, (back from.h.0 w.h d.1.1.0, tt)))
  where
    back : (n : ℕ) → IsNode t.triples n → DependsOn u.triples n ls → DependsOn t.triples n ls
    back n w d = record { agrees = λ a b h. sym (grown-function t u tu n w a) ∙ d.agrees a b h ∙ grown-function t u tu n w b }

-- what a waiting call may still take is no more before its first answer
left-most : (level : ℕ) (l : Left) → left_work level l ≤ 2 * 2 ^ (2 ^ 32 - level) - 1
left-most level (left.High d) = omega arith
left-most level (left.Low r) = let q : 0 < 2 ^ (2 ^ 32 - level) = pow_pos (2 ^ 32 - level) in omega (arith, q)

left-some : (level : ℕ) (l : Left) → 0 < left_work level l
left-some level (left.High d) = let q : 0 < 2 ^ (2 ^ 32 - level) = pow_pos (2 ^ 32 - level) in omega (arith, q)
left-some level (left.Low r) = omega arith

left-first : (level : ℕ) (l : Left) → bit_of l ≡ false → left_work level l ≡ 2 * 2 ^ (2 ^ 32 - level) - 1
left-first level (left.High d) e = refl
left-first level (left.Low r) e = absurd (true≢false e)

left-second : (level : ℕ) (l : Left) → bit_of l ≡ true → left_work level l ≡ 1
left-second level (left.High d) e = absurd (true≢false (sym e))
left-second level (left.Low r) e = refl

-- a call that was put on the list: what is waited for, in the words of the waiting call
put-part : (ts : List Triple) (xs ys : List Pending) (c d : Choice) (bit : Bool) (p : IsPut ts xs ys c bit d) → IsPart ts p.x.level (bit_of p.x.left) p.x.call d
put-part ts xs ys c d bit p = subst (λ b. IsPart ts p.x.level b p.x.call d) (sym p.side) (subst (λ y. IsPart ts p.x.level bit y d) (sym p.call) p.part)

module _ (s t : Store) (from c : Choice) (xs ys : List Pending) (g : Going s t from xs (turn.Ask c)) where
  -- the call waits for a cofactor
  put-going : (bit : Bool) (d : Choice) → IsPut t.triples xs ys c bit d → Going s t from ys (turn.Ask d)
  put-going bit d p = record {
    grows = g.grows;
    diagram = g.diagram;
    fulls = g.fulls;
    called = g.called;
    turn = (subst (λ zs. Chain t.triples from zs d) (sym p.items) (chain-push t.triples from xs p.x c d g.turn.0 p.call p.waits (put-part t.triples xs ys c d bit p)), p.opens);
    room = λ ls e.
        let m : rest (rest_behind asks p.x) xs ls + 0 ≤ rest asks xs ls =
        rest-most t.triples (rest_behind asks p.x) asks 0 from xs c ls g.turn.0 e (λ ks f. asked-room t.triples g.diagram p.x ks p.waits (subst (λ y. Depends t.triples y ks) (sym p.call) f)) in
        let n : rest asks ys ls ≡ rest (rest_behind asks p.x) xs ls = ap (λ zs. rest asks zs ls) p.items ∙ rest-last asks xs p.x ls in
        omega (arith, m, n, g.room ls e);
  }

  put-work : (bit : Bool) (d : Choice) → IsPut t.triples xs ys c bit d → work_of t.triples ys (turn.Ask d) < work_of t.triples xs (turn.Ask c)
  put-work bit d p =
      let e : sum_by work_left ys ≡ sum_by work_left xs + work_left p.x = ap (sum_by work_left) p.items ∙ work-last xs p.x in
      let m : work (2 ^ 32 - level_of_call t.triples d) + 3 ≤ 2 * 2 ^ (2 ^ 32 - p.x.level) = work-part t.triples p.x.level bit c d p.waits.small p.part in
      let l : p.x.level ≡ level_of_call t.triples c = p.waits.least ∙ ap (level_of_call t.triples) p.call in
      let k : 2 ^ (2 ^ 32 - p.x.level) ≡ 2 ^ (2 ^ 32 - level_of_call t.triples c) = ap (λ z. 2 ^ (2 ^ 32 - z)) l in
      let here : work_left p.x ≤ 2 * 2 ^ (2 ^ 32 - p.x.level) - 1 = left-most p.x.level p.x.left in
      let q : 0 < 2 ^ (2 ^ 32 - p.x.level) = pow_pos (2 ^ 32 - p.x.level) in
      omega (arith, e, m, k, here, q)

  module _ (u : Store) where
    pub going-asked : Grows t u → IsDiagram u.triples → (v : Turn) → u.fulls ≡ t.fulls → Asked t u xs ys c v → Going s u from ys v
    going-asked tu is (turn.Ask d) same h =
        subst (λ (w : Store). Going s w from ys (turn.Ask d)) (sym h.0) (put-going h.1.0 d (subst (λ (w : Store). IsPut w.triples xs ys c h.1.0 d) h.0 h.1.1))
    going-asked tu is (turn.Answer r) same h =
        let chained : Chain u.triples from xs c = chain-grown t u tu from xs c g.turn.0 in
        let called : AreCalled u.triples from = grown-called t u tu from g.called in
        let here : AreCalled u.triples c = chain-called u.triples from xs c called chained in
        record {
          grows = Grows-then s t u g.grows tu;
          diagram = is;
          fulls = same ∙ g.fulls;
          called = called;
          turn = (c, (subst (λ zs. Chain u.triples from zs c) (sym h.items) chained, h.answer));
          room = λ ls d.
              let m : rest rests xs ls + 1 ≤ rest asks xs ls = rest-most u.triples rests asks 1 from xs c ls chained d (λ ks e. open-room u.triples is c ks here g.turn.1 e) in
              let n : rest rests ys ls ≡ rest rests xs ls = ap (λ zs. rest rests zs ls) h.items in
              omega (arith, m, n, h.one, g.room ls (depends-before t u tu from g.called ls d));
        }

    pub asked-work : (v : Turn) → Asked t u xs ys c v → work_of u.triples ys v < work_of t.triples xs (turn.Ask c)
    asked-work (turn.Ask d) h =
        subst (λ (w : Store). work_of w.triples ys (turn.Ask d) < work_of t.triples xs (turn.Ask c)) (sym h.0) (put-work h.1.0 d (subst (λ (w : Store). IsPut w.triples xs ys c h.1.0 d) h.0 h.1.1))
    asked-work (turn.Answer r) h =
        let e : sum_by work_left ys ≡ sum_by work_left xs = ap (sum_by work_left) h.items in
        let q : 0 < 2 ^ (2 ^ 32 - level_of_call t.triples c) = pow_pos (2 ^ 32 - level_of_call t.triples c) in
        omega (arith, e, q)

module _ (s t : Store) (from : Choice) (xs ys zs : List Pending) (x : Pending) (r : Node) (last : xs ≡ zs ++ x ∷ []) (g : Going s t from xs (turn.Answer r)) where
  ended : Chain t.triples from zs x.call × Waits t.triples x × IsPart t.triples x.level (bit_of x.left) x.call g.turn.0
  ended = chain-last t.triples from zs x g.turn.0 (subst (λ ws. Chain t.triples from ws g.turn.0) last g.turn.1.0)

  pub going-waits : Waits t.triples x
  going-waits = ended.1

  pub going-half : IsHalf t.triples x.level (bit_of x.left) x.call r.0
  going-half = part-answered t.triples g.diagram x g.turn.0 r.0 ended.1 ended.2 g.turn.1.1

  -- the room before, in terms of the other waiting calls
  before : (ls : List ℕ) → Depends t.triples from ls → length t.triples + rest (rest_behind rests x) zs ls ≤ length s.triples + asks ls
  before ls d =
      let n : rest rests xs ls ≡ rest (rest_behind rests x) zs ls = ap (λ ws. rest rests ws ls) last ∙ rest-last rests zs x ls in
      omega (arith, n, g.room ls d)

  work-before : sum_by work_left xs ≡ sum_by work_left zs + work_left x
  work-before = ap (sum_by work_left) last ∙ work-last zs x

  -- a call that was put on the list again has the level that it had
  put-level : (d : Choice) (p : IsPut t.triples zs ys x.call true d) → p.x.level ≡ x.level
  put-level d p = p.waits.least ∙ ap (level_of_call t.triples) p.call ∙ sym ended.1.least

  -- the call waits for its other cofactor
  other-going : (d : Choice) → bit_of x.left ≡ false → IsPut t.triples zs ys x.call true d → Going s t from ys (turn.Ask d)
  other-going d first p = record {
    grows = g.grows;
    diagram = g.diagram;
    fulls = g.fulls;
    called = g.called;
    turn = (subst (λ ws. Chain t.triples from ws d) (sym p.items) (chain-push t.triples from zs p.x x.call d ended.0 p.call p.waits (put-part t.triples zs ys x.call d true p)), p.opens);
    room = λ ls e.
        let m : rest (rest_behind asks p.x) zs ls + 0 ≤ rest (rest_behind rests x) zs ls = rest-most t.triples (rest_behind asks p.x) (rest_behind rests x) 0 from zs x.call ls ended.0 e (λ ks f. resumed-room p.x x ks (put-level d p) p.side first) in
        let n : rest asks ys ls ≡ rest (rest_behind asks p.x) zs ls = ap (λ ws. rest asks ws ls) p.items ∙ rest-last asks zs p.x ls in
        omega (arith, m, n, before ls e);
  }

  other-work : (d : Choice) → bit_of x.left ≡ false → IsPut t.triples zs ys x.call true d → work_of t.triples ys (turn.Ask d) < work_of t.triples xs (turn.Answer r)
  other-work d first p =
      let e : sum_by work_left ys ≡ sum_by work_left zs + work_left p.x = ap (sum_by work_left) p.items ∙ work-last zs p.x in
      let m : work (2 ^ 32 - level_of_call t.triples d) + 3 ≤ 2 * 2 ^ (2 ^ 32 - x.level) = work-part t.triples x.level true x.call d ended.1.small (subst (λ l. IsPart t.triples l true x.call d) (put-level d p) p.part) in
      let low : work_left p.x ≡ 1 = left-second p.x.level p.x.left p.side in
      let high : work_left x ≡ 2 * 2 ^ (2 ^ 32 - x.level) - 1 = left-first x.level x.left first in
      let q : 0 < 2 ^ (2 ^ 32 - x.level) = pow_pos (2 ^ 32 - x.level) in
      omega (arith, e, work-before, m, low, high, q)

  module _ (u : Store) where
    pub going-resumed : Grows t u → IsDiagram u.triples → (v : Turn) → u.fulls ≡ t.fulls → Resumed t u zs ys x v → Going s u from ys v
    going-resumed tu is (turn.Ask d) same h =
        subst (λ (w : Store). Going s w from ys (turn.Ask d)) (sym h.1.0) (other-going d h.0 (subst (λ (w : Store). IsPut w.triples zs ys x.call true d) h.1.0 h.1.1))
    going-resumed tu is (turn.Answer n) same h =
        let chained : Chain u.triples from zs x.call = chain-grown t u tu from zs x.call ended.0 in
        record {
          grows = Grows-then s t u g.grows tu;
          diagram = is;
          fulls = same ∙ g.fulls;
          called = grown-called t u tu from g.called;
          turn = (x.call, (subst (λ ws. Chain u.triples from ws x.call) (sym h.items) chained, h.answer));
          room = λ ls d.
              let m : rest rests zs ls + 1 ≤ rest (rest_behind rests x) zs ls = rest-most u.triples rests (rest_behind rests x) 1 from zs x.call ls chained d (λ ks e. closed-room x ks) in
              let n : rest rests ys ls ≡ rest rests zs ls = ap (λ ws. rest rests ws ls) h.items in
              omega (arith, m, n, h.one, before ls (depends-before t u tu from g.called ls d));
        }

    pub resumed-work : (v : Turn) → Resumed t u zs ys x v → work_of u.triples ys v < work_of t.triples xs (turn.Answer r)
    resumed-work (turn.Ask d) h =
        subst (λ (w : Store). work_of w.triples ys (turn.Ask d) < work_of t.triples xs (turn.Answer r)) (sym h.1.0) (other-work d h.0 (subst (λ (w : Store). IsPut w.triples zs ys x.call true d) h.1.0 h.1.1))
    resumed-work (turn.Answer n) h =
        let e : sum_by work_left ys ≡ sum_by work_left zs = ap (sum_by work_left) h.items in
        omega (arith, e, work-before, left-some x.level x.left)

-- the answer of the whole
pub going-answer : (s t : Store) (from : Choice) (r : Node) → AreCalled s.triples from → Going s t from [] (turn.Answer r) → IsNode t.triples r.0 × IsValue s.triples t.triples from r.0
going-answer s t from r w g =
    let e : IsAnswered t.triples from r.0 = subst (λ c. IsAnswered t.triples c r.0) g.turn.1.0 g.turn.1.1 in
    (e.node, record { at = λ a. e.value a ∙ grown-value s t g.grows from w a })

-- the room of the whole
pub room-of : (s t : Store) (from : Choice) → Grows s t → AreCalled s.triples from → ((ls : List ℕ) → Depends t.triples from ls → length t.triples ≤ length s.triples + asks ls) → Room (from.f.0 ∷ from.g.0 ∷ from.h.0 ∷ []) 1 s t
room-of s t from gr w m = record {
  most = λ ls d.
      let e : Depends t.triples from ls = (grown-depends s t gr from.f.0 ls w.f d.0, (grown-depends s t gr from.g.0 ls w.g d.1.0, (grown-depends s t gr from.h.0 ls w.h d.1.1.0, tt))) in
      let p : 0 < 2 ^ length ls = pow_pos (length ls) in
      omega (arith, m ls e, p);
}

pub going-room : (s t : Store) (from : Choice) (xs : List Pending) (u : Turn) → Going s t from xs u → (ls : List ℕ) → Depends t.triples from ls → length t.triples ≤ length s.triples + asks ls
going-room s t from xs u g ls d = let m = g.room ls d in omega (arith, m)

pub going-turn : (s t : Store) (from : Choice) (xs : List Pending) (u v : Turn) → u ≡ v → Going s t from xs u → Going s t from xs v
going-turn s t from xs u v e g = subst (Going s t from xs) e g

-- a stop as an answer of the two kinds
abbrev turn_stop : Stop → Result Turn Stop
turn_stop e = Err e

abbrev node_stop : Stop → Result Node Stop
node_stop e = Err e

-- the cause of a stop for nodes
pub turn-cause : (ns : List ℕ) (s t v : Store) (e : Stop) → Room ns 1 s v → v.budget ≡ s.budget → t.fulls ≡ s.fulls → v.fulls ≡ fulls_after_turn t.fulls (turn_stop e) → (turn_stop e ≡ turn_stop Nodes → length v.triples ≡ v.budget)
    → node_stop e ≡ node_stop Nodes → HasCause ns 1 s v
turn-cause ns s t v Memory room same before fulls full stop = absurd (search (rules, stop))
turn-cause ns s t v Nodes room same before fulls full stop = record {
  rose = omega (arith, fulls, before);
  below = λ ls d. let m = room.most ls d in let f = full refl in omega (arith, m, f, same);
}
