-- The steps of the walk.
use Rattle.std.proofs.Common.{◌≡◌, ℕ, zero, suc, ◌+◌, ◌-◌, ◌^◌, ◌<◌, ◌≤◌, List, [], ◌∷◌, ◌++◌, map, length, get_or, sum_by, refl, sym, ap, subst, ◌∙◌, inl, inr, nat_lt, true, false, arith, length-append, append_assoc}
use Rattle.std.proofs.lemmas.Bool.{cases_lt}
use Rattle.std.proofs.lemmas.Bool.Decides.{nat_tests}
use Rattle.std.proofs.lemmas.List.Sums.{sum_by-cons, sum_by_push}
use Rattle.cb_model.specs.declared.GateKind.{GateKind}
use Rattle.cb_model.specs.declared.Gate.{Gate}
use Rattle.cb_model.specs.Bits.{Each}
use Rattle.cb_flat.specs.Walk.{Numbered, Part, AGate, AModule, Filled, Frame, still, whole_net, behind, entered}
use Rattle.cb_flat.proofs.Walk.{walk_keeps}
use Rattle.cb_netlist.specs.Wiring.{Wiring, wiring_at}
use Rattle.cb_netlist.specs.Walking.{numbers_at, PartTakes, part_count, IsSized, AreGates, IsFrame, gates_at, all_gates, part_weight, weight, frame_weight, IsWalk, IsStep}

pub long-map : {X Y : Type 0} (h : X → Y) (xs : List X) → length (map h xs) ≡ length xs
long-map h [] = refl
long-map h (x ∷ xs) = ap suc (long-map h xs)

pub each-front : {A : Type 0} (P : A → Type 0) (xs : List A) (x : A) → Each P (xs ++ x ∷ []) → Each P xs
each-front P [] x h = tt
each-front P (y ∷ xs) x h = (h.0, each-front P xs x h.1)

pub each-last : {A : Type 0} (P : A → Type 0) (xs : List A) (x : A) → Each P (xs ++ x ∷ []) → P x
each-last P [] x h = h.0
each-last P (y ∷ xs) x h = each-last P xs x h.1

pub each-push : {A : Type 0} (P : A → Type 0) (xs : List A) (x : A) → Each P xs → P x → Each P (xs ++ x ∷ [])
each-push P [] x h p = (p, tt)
each-push P (y ∷ xs) x h p = (h.0, each-push P xs x h.1 p)

-- more of the instances can only weigh more
sum-more : (f g : Filled → ℕ) → ((x : Filled) → f x ≤ g x) → (xs : List Filled) → sum_by f xs ≤ sum_by g xs
sum-more f g h [] = omega arith
sum-more f g h (x ∷ xs) = omega (arith, h x, sum-more f g h xs, sum_by-cons f x xs, sum_by-cons g x xs)

part-more : (f g : ℕ → ℕ) → ((q : ℕ) → f q ≤ g q) → (p : Part) → part_weight f p ≤ part_weight g p
part-more f g h (AGate kind) = omega arith
part-more f g h (AModule q) = omega (arith, h q)

weight-more : (ns : List Wiring) (n q : ℕ) → weight ns n q ≤ weight ns (suc n) q
weight-more ns zero q = omega arith
weight-more ns (suc n) q =
    let h = sum-more (λ f. part_weight (weight ns n) f.part) (λ f. part_weight (weight ns (suc n)) f.part) (λ f. part-more (weight ns n) (weight ns (suc n)) (weight-more ns n) f.part) (wiring_at ns q).filled in
    omega (arith, h)

weight-high : (ns : List Wiring) (d n q : ℕ) → weight ns n q ≤ weight ns (d + n) q
weight-high ns zero n q =
    let e : n ≡ 0 + n = omega arith in
    let r : weight ns n q ≤ weight ns n q = omega arith in
    subst (λ m. weight ns n q ≤ weight ns m q) e r
weight-high ns (suc d) n q =
    let e : suc (d + n) ≡ suc d + n = omega arith in
    let h : weight ns (d + n) q ≤ weight ns (suc d + n) q = subst (λ m. weight ns (d + n) q ≤ weight ns m q) e (weight-more ns (d + n) q) in
    omega (arith, weight-high ns d n q, h)

weight-before : (ns : List Wiring) (k q : ℕ) → q < k → weight ns (suc q) q ≤ weight ns k q
weight-before ns k q l =
    let e : (k - suc q) + suc q ≡ k = omega (arith, l) in
    subst (λ m. weight ns (suc q) q ≤ weight ns m q) e (weight-high ns (k - suc q) (suc q) q)

pub each-get : {A : Type 0} (P : A → Type 0) (xs : List A) (k : ℕ) (d : A) → Each P xs → k < length xs → P (get_or xs k d)
each-get P [] k d h l = absurd (omega (arith, l))
each-get P (x ∷ xs) zero d h l = h.0
each-get P (x ∷ xs) (suc k) d h l = each-get P xs k d h.1 (omega (arith, l))

each-map : {A B : Type 0} (P : A → Type 0) (Q : B → Type 0) (g : A → B) → ((x : A) → P x → Q (g x)) → (xs : List A) → Each P xs → Each Q (map g xs)
each-map P Q g h [] e = tt
each-map P Q g h (x ∷ xs) e = (h x e.0, each-map P Q g h xs e.1)

lt-test : (a b : ℕ) → a < b → nat_lt a b ≡ true
lt-test a b l = grind (arith, nat_tests)

ge-test : (a b : ℕ) → b ≤ a → nat_lt a b ≡ false
ge-test a b l = grind (arith, nat_tests)

-- a net of the frame's module is a net of the whole
net-within : (ns : List Wiring) (i c : ℕ) (t : Frame) → IsFrame ns i c t → (x : ℕ) → x < (wiring_at ns t.module').inputs + (wiring_at ns t.module').gates → whole_net (numbers_at ns) i t x < i + c
net-within ns i c t h x l = elim (cases_lt x (wiring_at ns t.module').inputs) [
  | inl lt ↦
      let b : nat_lt x (wiring_at ns t.module').inputs ≡ true = lt-test x (wiring_at ns t.module').inputs lt in
      rw b (each-get (λ y. y < i + c) t.nets x 0 h.range (omega (arith, lt, h.long)))
  | inr ge ↦
      let b : nat_lt x (wiring_at ns t.module').inputs ≡ false = ge-test x (wiring_at ns t.module').inputs ge in
      rw b (omega (arith, l, ge, h.within))
]

module _ (ns : List Wiring) (i c : ℕ) (gs : List Gate) (ts : List Frame) (t : Frame) where
  -- the walk in the frame's next instance
  pub next-known : IsWalk ns i c gs (ts ++ t ∷ []) → IsFrame ns i c t
  next-known w = each-last (IsFrame ns i c) ts t w.frames

  pub leave-step : IsWalk ns i c gs (ts ++ t ∷ []) → t.left ≡ [] → IsStep ns i c gs (ts ++ t ∷ []) gs ts
  leave-step w e =
      let keeps : (gates : ℕ → List Numbered) → AreGates ns gates → all_gates ns gates i gs ts ≡ all_gates ns gates i gs (ts ++ t ∷ []) =
      λ gates are. ap (λ l. gs ++ gates_at (i + length gs) l) (sym (walk_keeps.drop (numbers_at ns) gates i ts t e)) in
      record {
        goes_on = record {
          sized = w.sized;
          small = w.small;
          frames = each-front (IsFrame ns i c) ts t w.frames;
          many = (w.many.0, (w.many.1.0, ap length (keeps w.many.0 w.many.1.0) ∙ w.many.1.1));
        };
        keeps = keeps;
        less = omega (arith, sum_by_push (frame_weight ns) ts t);
      }

  module _ (f : Filled) (fs : List Filled) (e : t.left ≡ f ∷ fs) where
    left-sized : IsFrame ns i c t → Each (IsSized ns t.module') (f ∷ fs)
    left-sized h = subst (Each (IsSized ns t.module')) e h.sized

    pub behind-frame : IsFrame ns i c t → IsFrame ns i c (behind t fs)
    behind-frame h = record { known = h.known; long = h.long; range = h.range; within = h.within; sized = (left-sized h).1 }

    behind-weight : frame_weight ns t ≡ part_weight (weight ns t.module') f.part + frame_weight ns (behind t fs)
    behind-weight =
        let a = ap (sum_by (λ (g : Filled). part_weight (weight ns t.module') g.part)) e in
        let b = sum_by-cons (λ (g : Filled). part_weight (weight ns t.module') g.part) f fs in
        omega (arith, a, b)

    module _ (kind : GateKind) (p : f.part ≡ AGate kind) where
      abbrev pub emitted : Gate
      emitted = record { kind = kind; ins = map (whole_net (numbers_at ns) i t) f.ins; out = i + length gs }

      emit-keeps : (gates : ℕ → List Numbered) → all_gates ns gates i (gs ++ emitted ∷ []) (ts ++ behind t fs ∷ []) ≡ all_gates ns gates i gs (ts ++ t ∷ [])
      emit-keeps gates =
          let n : i + length (gs ++ emitted ∷ []) ≡ suc (i + length gs) = omega (arith, length-append gs (emitted ∷ [])) in
          append_assoc gs (emitted ∷ []) (gates_at (i + length (gs ++ emitted ∷ [])) (still (numbers_at ns) gates i (ts ++ behind t fs ∷ [])))
          ∙ ap (λ m. gs ++ emitted ∷ gates_at m (still (numbers_at ns) gates i (ts ++ behind t fs ∷ []))) n
          ∙ ap (λ l. gs ++ gates_at (i + length gs) l) (sym (walk_keeps.gate (numbers_at ns) gates i ts t f fs kind e p))

      pub emit-room : IsWalk ns i c gs (ts ++ t ∷ []) → i + length gs < 2 ^ 32
      emit-room w =
          let h = ap length (emit-keeps w.many.0) ∙ w.many.1.1 in
          let a = length-append (gs ++ emitted ∷ []) (gates_at (i + length (gs ++ emitted ∷ [])) (still (numbers_at ns) w.many.0 i (ts ++ behind t fs ∷ []))) in
          let b = length-append gs (emitted ∷ []) in
          omega (arith, h, a, b, w.small)

      pub emit-step : IsWalk ns i c gs (ts ++ t ∷ []) → IsStep ns i c gs (ts ++ t ∷ []) (gs ++ emitted ∷ []) (ts ++ behind t fs ∷ [])
      emit-step w = record {
        goes_on = record {
          sized = w.sized;
          small = w.small;
          frames = each-push (IsFrame ns i c) ts (behind t fs) (each-front (IsFrame ns i c) ts t w.frames) (behind-frame (next-known w));
          many = (w.many.0, (w.many.1.0, ap length (emit-keeps w.many.0) ∙ w.many.1.1));
        };
        keeps = λ gates are. emit-keeps gates;
        less =
            let x = ap (part_weight (weight ns t.module')) p in
            omega (arith, x, behind-weight, sum_by_push (frame_weight ns) ts t, sum_by_push (frame_weight ns) ts (behind t fs));
      }

    module _ (q : ℕ) (p : f.part ≡ AModule q) where
      part-takes : IsFrame ns i c t → (q < t.module') × (length f.ins ≡ (wiring_at ns q).inputs)
      part-takes h = subst (λ a. PartTakes ns t.module' a (length f.ins)) p (left-sized h).0.pins

      entered-frame : IsWalk ns i c gs (ts ++ t ∷ []) → IsFrame ns i c (entered (numbers_at ns) i t f q)
      entered-frame w =
          let h = next-known w in
          let takes = part-takes h in
          let s = (left-sized h).0 in
          let known : q < length ns = omega (arith, takes.0, h.known) in
          let count : part_count ns f.part ≡ (wiring_at ns q).gates = ap (part_count ns) p in
          record {
            known = known;
            long = long-map (whole_net (numbers_at ns) i t) f.ins ∙ takes.1;
            range = each-map (λ x. x < (wiring_at ns t.module').inputs + (wiring_at ns t.module').gates) (λ x. x < i + c) (whole_net (numbers_at ns) i t) (net-within ns i c t h) f.ins s.nets;
            within = omega (arith, s.within, count, h.within);
            sized = w.sized q known;
          }

      pub enter-step : IsWalk ns i c gs (ts ++ t ∷ []) → IsStep ns i c gs (ts ++ t ∷ []) gs ((ts ++ behind t fs ∷ []) ++ entered (numbers_at ns) i t f q ∷ [])
      enter-step w =
          let h = next-known w in
          let takes = part-takes h in
          let known : q < length ns = omega (arith, takes.0, h.known) in
          let keeps : (gates : ℕ → List Numbered) → AreGates ns gates → all_gates ns gates i gs ((ts ++ behind t fs ∷ []) ++ entered (numbers_at ns) i t f q ∷ []) ≡ all_gates ns gates i gs (ts ++ t ∷ []) =
          λ gates are. ap (λ l. gs ++ gates_at (i + length gs) l) (sym (walk_keeps.enter (numbers_at ns) gates i ts t f fs q e p takes.1 (are q known))) in
          record {
            goes_on = record {
              sized = w.sized;
              small = w.small;
              frames = each-push (IsFrame ns i c) (ts ++ behind t fs ∷ []) (entered (numbers_at ns) i t f q) (each-push (IsFrame ns i c) ts (behind t fs) (each-front (IsFrame ns i c) ts t w.frames) (behind-frame h)) (entered-frame w);
              many = (w.many.0, (w.many.1.0, ap length (keeps w.many.0 w.many.1.0) ∙ w.many.1.1));
            };
            keeps = keeps;
            less =
                let x = ap (part_weight (weight ns t.module')) p in
                let y = weight-before ns t.module' q takes.0 in
                omega (arith, x, y, behind-weight, sum_by_push (frame_weight ns) ts t, sum_by_push (frame_weight ns) ts (behind t fs), sum_by_push (frame_weight ns) (ts ++ behind t fs ∷ []) (entered (numbers_at ns) i t f q));
          }
