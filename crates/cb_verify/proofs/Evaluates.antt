-- The nodes of a circuit's nets, gate by gate in an order.
use Rattle.std.proofs.Common.{◌≡◌, ◌≢◌, inl, inr, ℕ, zero, suc, ◌+◌, ◌*◌, ◌^◌, ◌<◌, ◌≤◌, Bool, false, List, [], ◌∷◌, ◌++◌, map, length, get_or, take, replicate, ◌-◌, slice_set, Contains, refl, sym, ◌∙◌, ap, subst, arith, append-nil, append_assoc, length-append}
use Rattle.std.proofs.lemmas.Bool.{cases_eq, cases_lt}
use Rattle.std.proofs.lemmas.List.Sums.{sum_by_push, sum_by-take-le}
use Rattle.std.proofs.Math.Nat.{mul-le-mul_right}
use Rattle.std.proofs.lemmas.List.{same_lists, get_or_default, get_or-map, get_or-take, get_or_append_left, take_more, take_all, length-replicate, length-map, length-set, get_or-set_same, get_or-set_other}
use Rattle.std.proofs.lemmas.List.Elements.{Contains-push_cases}
use Rattle.cb_model.specs.declared.Gate.{Gate}
use Rattle.cb_model.specs.declared.Circuit.{Circuit}
use Rattle.cb_model.specs.Bits.{Bits, Each}
use Rattle.cb_model.specs.Circuits.{gate_value, read_all, GateHolds, Consistent}
use Rattle.cb_dd.specs.declared.Node.{Node}
use Rattle.cb_dd.specs.declared.Triple.{Triple}
use Rattle.cb_dd.specs.Diagram.{Store, IsNode, function_of}
use Rattle.cb_ops.specs.Ops.{Grows}
use Rattle.cb_verify.specs.Nodes.{AreNodes, node_at, node_bits, DependOn, Adds}
use Rattle.cb_verify.specs.Order.{IsKnown, no_gate, InSequence, CanEvaluate, pins_in}
use Rattle.cb_verify.proofs.Kept.{function-kept, node_bits-agree}
use Rattle.cb_verify.proofs.Chains.{Each-at}

-- there is a node for each net, and those of the known nets have the bits that a consistent valuation gives them
pub record Evaluates (c : Circuit) (before : List Triple) (inputs : List Node) (now : List Triple) (nodes : List Node) (done : List ℕ) : Type 0 where
  pub long : length nodes ≡ c.nets
  pub bits : (a : Bits) (v : List Bool) → Consistent c (node_bits before inputs a) v → (n : ℕ) → IsKnown c done n → function_of now (node_at nodes n).0 a ≡ get_or v n false

-- ---- lists

take-one : (ks : List ℕ) (i : ℕ) → i < length ks → take (i + 1) ks ≡ take i ks ++ get_or ks i 0 ∷ []
take-one ks i l = take_more ks i 0 l

pub each-set : {X : Type 0} (P : X → Type 0) (xs : List X) (i : ℕ) (y : X) → Each P xs → P y → Each P (slice_set xs i y)
each-set P [] i y h p = h
each-set P (x ∷ xs) zero y h p = (p, h.1)
each-set P (x ∷ xs) (suc i) y h p = (h.0, each-set P xs i y h.1 p)

pub each-append : {X : Type 0} (P : X → Type 0) (xs : List X) (n : ℕ) (y : X) → Each P xs → P y → Each P (xs ++ replicate n y)
each-append P [] zero y h p = tt
each-append P [] (suc n) y h p = (p, each-append P [] n y tt p)
each-append P (x ∷ xs) n y h p = (h.0, each-append P xs n y h.1 p)

each-map : {X : Type 0} (P Q : X → Type 0) → ((x : X) → P x → Q x) → (xs : List X) → Each P xs → Each Q xs
each-map P Q f [] h = tt
each-map P Q f (x ∷ xs) h = (f x h.0, each-map P Q f xs h.1)

-- ---- the order

module _ (c : Circuit) (inputs : List Node) where
  sequence-at : (done ks : List ℕ) (i : ℕ) → InSequence c done ks → i < length ks → (get_or ks i 0 < length c.gates) × Each (IsKnown c (done ++ take i ks)) (get_or c.gates (get_or ks i 0) no_gate).ins
  sequence-at done [] i s l = absurd (omega (arith, l))
  sequence-at done (k ∷ ks) zero s l = (s.0, subst (λ d. Each (IsKnown c d) (get_or c.gates k no_gate).ins) (sym (append-nil done)) s.1)
  sequence-at done (k ∷ ks) (suc i) s l =
      let r = sequence-at (done ++ k ∷ []) ks i s.2 (omega (arith, l)) in
      (r.0, subst (λ d. Each (IsKnown c d) (get_or c.gates (get_or ks i 0) no_gate).ins) (append_assoc done (k ∷ []) (take i ks)) r.1)

  module _ (order : List ℕ) (can : CanEvaluate c order) (before : List Triple) (as_many : length inputs ≡ c.inputs) where
    known-within : (done : List ℕ) (n : ℕ) → IsKnown c done n → n < c.nets
    known-within done n (inl l) = let e = can.nets in omega (arith, e, l)
    known-within done n (inr k) = let e = can.nets in omega (arith, e, k.1.0, k.1.1)

    -- the inputs at first
    pub evaluates-start : Evaluates c before inputs before (inputs ++ replicate (length c.gates) (record { 0 = 0 })) []
    evaluates-start = record {
      long = (let e = can.nets in omega (arith, length-append inputs (replicate (length c.gates) (record { 0 = 0 })), length-replicate (length c.gates) (the_zero), e, as_many));
      bits = bit;
    }
      where
        the_zero : Node
        the_zero = record { 0 = 0 }

        bit : (a : Bits) (v : List Bool) → Consistent c (node_bits before inputs a) v → (n : ℕ) → IsKnown c [] n → function_of before (node_at (inputs ++ replicate (length c.gates) (record { 0 = 0 })) n).0 a ≡ get_or v n false
        bit a v k n (inl l) =
            let w : n < length inputs = omega (arith, l, as_many) in
            ap (λ (m : Node). function_of before m.0 a) (get_or_append_left inputs (replicate (length c.gates) (record { 0 = 0 })) (record { 0 = 0 }) n w)
            ∙ sym (get_or-map (λ m. function_of before m.0 a) inputs n (record { 0 = 0 }) false w) ∙ sym (ap (λ u. get_or u n false) k.inputs) ∙ get_or-take c.inputs v n false l
        bit a v k n (inr r) = absurd (omega (arith, r.1.2.1))

    module _ (s : Store) (nodes : List Node) (are : AreNodes s.triples nodes) (i : ℕ) (l : i < length order) (e : Evaluates c before inputs s.triples nodes (take i order)) where
      abbrev k : ℕ
      k = get_or order i 0

      abbrev g : Gate
      g = get_or c.gates k no_gate

      pub gate-in : k < length c.gates
      gate-in = (sequence-at [] order i can.sequence l).0

      pins-known : Each (IsKnown c (take i order)) g.ins
      pins-known = (sequence-at [] order i can.sequence l).1

      pub pins-within : Each (λ n. n < length nodes) g.ins
      pins-within = each-map (IsKnown c (take i order)) (λ n. n < length nodes) (λ n h. let w = known-within (take i order) n h in omega (arith, w, e.long)) g.ins pins-known

      pub net-within : c.inputs + k < length nodes
      net-within = let a = gate-in in let b = can.nets in omega (arith, a, b, e.long)

      read-known : (a : Bits) (v : List Bool) → Consistent c (node_bits before inputs a) v → (ns : List ℕ) → Each (IsKnown c (take i order)) ns → node_bits s.triples (map (node_at nodes) ns) a ≡ read_all v ns
      read-known a v h [] w = refl
      read-known a v h (n ∷ ns) w = λ j. e.bits a v h n w.0 j ∷ read-known a v h ns w.1 j

      -- a known net depends on the levels of the inputs
      known-depends : (ls : List ℕ) → DependOn before inputs ls → (ns : List ℕ) → Each (IsKnown c (take i order)) ns → DependOn s.triples (map (node_at nodes) ns) ls
      known-depends ls d [] w = tt
      known-depends ls d (n ∷ ns) w = (
        record {
          agrees = λ a b h.
              let same : node_bits before inputs a ≡ node_bits before inputs b = node_bits-agree before inputs ls a b d h in
              let o = can.one (node_bits before inputs a) (length-map inputs (λ m. function_of before m.0 a) ∙ as_many) in
              e.bits a o.v o.consistent n w.0 ∙ sym (e.bits b o.v (subst (λ x. Consistent c x o.v) same o.consistent) n w.0);
        },
        known-depends ls d ns w.1,
      )

      pub evaluates-room-of : (t : Store) → Adds s t (length g.ins) (map (node_at nodes) g.ins) → (old : ℕ) → (ls : List ℕ) → DependOn before inputs ls → length s.triples ≤ old + pins_in c (take i order) * (2 * 2 ^ length ls) → length t.triples ≤ old + pins_in c (take (i + 1) order) * (2 * 2 ^ length ls)
      evaluates-room-of t more old ls d room =
          let m = more.most ls (known-depends ls d g.ins pins-known) in
          let f : pins_in c (take (i + 1) order) ≡ pins_in c (take i order) + (length g.ins + 1) = ap (pins_in c) (take-one order i l) ∙ sum_by_push (λ k. length (get_or c.gates k no_gate).ins + 1) (take i order) k in
          let p : pins_in c (take (i + 1) order) * (2 * 2 ^ length ls) ≡ (pins_in c (take i order) + (length g.ins + 1)) * (2 * 2 ^ length ls) = ap (λ z. z * (2 * 2 ^ length ls)) f in
          omega (arith, room, m, p)

      module _ (t : Store) (gr : Grows s t) (r : Node) (made : (a : Bits) → function_of t.triples r.0 a ≡ gate_value g.kind (node_bits s.triples (map (node_at nodes) g.ins) a)) where
        pub evaluates-more : Evaluates c before inputs t.triples (slice_set nodes (c.inputs + k) r) (take (i + 1) order)
        evaluates-more = record {
          long = length-set nodes (c.inputs + k) r ∙ e.long;
          bits = λ a v h n w. bit a v h n (subst (λ d. IsKnown c d n) (take-one order i l) w);
        }
          where
            bit : (a : Bits) (v : List Bool) → Consistent c (node_bits before inputs a) v → (n : ℕ) → IsKnown c (take i order ++ k ∷ []) n → function_of t.triples (node_at (slice_set nodes (c.inputs + k) r) n).0 a ≡ get_or v n false
            bit a v h n w = elim (cases_eq n (c.inputs + k)) [
              | inl here ↦
                  let holds : get_or v g.out false ≡ gate_value g.kind (read_all v g.ins) = Each-at (GateHolds v) c.gates k no_gate h.gates gate-in in
                  ap (λ m. function_of t.triples (node_at (slice_set nodes (c.inputs + k) r) m).0 a) here
                  ∙ ap (λ (m : Node). function_of t.triples m.0 a) (get_or-set_same nodes (c.inputs + k) r (record { 0 = 0 }) net-within)
                  ∙ made a ∙ ap (gate_value g.kind) (read-known a v h g.ins pins-known) ∙ sym holds ∙ ap (λ m. get_or v m false) (can.outs k gate-in ∙ sym here)
              | inr other ↦
                  let old : IsKnown c (take i order) n = before_known w other in
                  let w2 : n < length nodes = (let q = known-within (take i order) n old in omega (arith, q, e.long)) in
                  ap (λ (m : Node). function_of t.triples m.0 a) (get_or-set_other nodes (c.inputs + k) n r (record { 0 = 0 }) other)
                  ∙ function-kept s t gr (node_at nodes n).0 (Each-at (λ m. IsNode s.triples m.0) nodes n (record { 0 = 0 }) are w2) a ∙ e.bits a v h n old
            ]
              where
                before_known : IsKnown c (take i order ++ k ∷ []) n → n ≢ c.inputs + k → IsKnown c (take i order) n
                before_known (inl l) ne = inl l
                before_known (inr q) ne = elim (Contains-push_cases (take i order) k q.0 q.1.2) [
                  | inl old ↦ inr (q.0, (q.1.0, q.1.1, old))
                  | inr same ↦ absurd (ne (q.1.0 ∙ ap (λ z. c.inputs + z) (sym same)))
                ]

    -- all nets at the end
    pub evaluates-end : (ts : List Triple) (nodes : List Node) (i : ℕ) → length order ≤ i → Evaluates c before inputs ts nodes (take i order) → (a : Bits) (v : List Bool) → Consistent c (node_bits before inputs a) v → node_bits ts nodes a ≡ v
    evaluates-end ts nodes i last e a v h =
        same_lists (node_bits ts nodes a) v long (λ n d l.
        let w : n < length nodes = omega (arith, l, length-map nodes (λ m. function_of ts m.0 a)) in
        get_or-map (λ m. function_of ts m.0 a) nodes n (record { 0 = 0 }) d w ∙ e.bits a v h n (known n w) ∙ get_or_default v n false d (omega (arith, w, e.long, h.every_net)))
      where
        long : length (node_bits ts nodes a) ≡ length v
        long = length-map nodes (λ m. function_of ts m.0 a) ∙ e.long ∙ sym h.every_net

        known : (n : ℕ) → n < length nodes → IsKnown c (take i order) n
        known n w = elim (cases_lt n c.inputs) [
          | inl lt ↦ inl lt
          | inr ge ↦
              let k : ℕ = n - c.inputs in
              let q = can.nets in
              let kg : k < length c.gates = omega (arith, w, e.long, q, ge) in
              inr (k, ((let z : n ≡ c.inputs + k = omega (arith, ge) in z), kg, subst (λ ks. Contains ks k) (sym (take_all i order last)) (can.all k kg)))
        ]

-- the room of the gates so far is within that of all
pub order-room : (c : Circuit) (order : List ℕ) (i x n before : ℕ) → n ≤ before + pins_in c (take i order) * x → n ≤ before + pins_in c order * x
order-room c order i x n before h = let m = mul-le-mul_right x (sum_by-take-le (λ k. length (get_or c.gates k no_gate).ins + 1) order i) in omega (arith, h, m)

pub zero-node : (ts : List Triple) → IsNode ts 0
zero-node ts = omega arith
