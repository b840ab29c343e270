-- A flattened module that carries bits can be evaluated in an order of its gates.
use Rattle.std.proofs.Common.{◌≡◌, ◌≢◌, inl, inr, ℕ, zero, suc, ◌+◌, ◌-◌, ◌*◌, ◌<◌, ◌≤◌, ◌^◌, Bool, true, false, List, [], ◌∷◌, ◌++◌, map, length, get_or, slice_get, sum_by, replicate, nat_eq, if◌then◌else◌, Some, Contains, refl, sym, ◌∙◌, ap, subst, arith}
use Rattle.std.proofs.lemmas.Bool.{cases_lt, eq-eqb, ne_eqb, lt-ltb, le-ltb}
use Rattle.std.proofs.lemmas.List.{length-map, length-replicate, get_or_past}
use Rattle.std.proofs.lemmas.List.Sums.{sum_by-cons}
use Rattle.std.proofs.lemmas.List.Elements.{Contains-append_left, Contains-push}
use Rattle.std.proofs.lemmas.Option.{slice_get_within, slice_get-get_or, same_Some}
use Rattle.cb_model.specs.declared.GateKind.{GateKind}
use Rattle.cb_model.specs.declared.GateKind.TheVariants as kind
use Rattle.cb_model.specs.declared.Gate.{Gate}
use Rattle.cb_model.specs.declared.Circuit.{Circuit}
use Rattle.cb_model.specs.Bits.{Bits, Each}
use Rattle.cb_dd.specs.declared.Node.{Node}
use Rattle.cb_dd.specs.Diagram.{Store, function_of}
use Rattle.std.proofs.Math.Nat.{mul-le-mul_right}
use Rattle.cb_verify.specs.Nodes.{AreNodes, node_at, node_bits, DependOn, Adds}
use Rattle.cb_verify.proofs.Nets.{chosen, reads}
use Rattle.cb_model.specs.Circuits.{Consistent, Outputs, read_all, pins_of, Net, In, Own, Flat, net_number, gates_from, circuit_of}
use Rattle.cb_model.specs.Room.{circuit_pins}
use Rattle.cb_model.specs.Carry.{Carries, input, gate, AllCarry, more, IsCarrying, NetIn}
use Rattle.cb_model.specs.Sound.{HasOneValuation}
use Rattle.cb_model.specs.Order as graph
use Rattle.cb_order.proofs.Orders.{cons-cases, cons-later, cons-here, nothing}
use Rattle.cb_flat.specs.Acyclic.{own_of, gate_graph}
use Rattle.cb_flat.proofs.Carry.{total_has_one}
use Rattle.cb_flat.proofs.Acyclic.{carrying_is_acyclic}
use Rattle.cb_verify.specs.Order.{IsFlattened, own_nets, gate_needs, IsKnown, no_gate, InSequence, CanEvaluate, pins_in}
use Rattle.cb_verify.proofs.Chains.{Each-at}

-- the gates by number
gates-long : (n at : ℕ) (gs : List (GateKind × List Net)) → length (gates_from n at gs) ≡ length gs
gates-long n at [] = refl
gates-long n at (g ∷ gs) = ap suc (gates-long n (suc at) gs)

gates-get : (n at : ℕ) (gs : List (GateKind × List Net)) (k : ℕ) (g : GateKind × List Net) → slice_get gs k ≡ Some g → get_or (gates_from n at gs) k no_gate ≡ record { kind = g.0; ins = map (net_number n) g.1; out = at + k }
gates-get n at [] k g e = absurd (let l : k < 0 = slice_get_within [] k g e in omega arith)
gates-get n at (x ∷ gs) zero g e =
    let z : at ≡ at + 0 = omega arith in
    ap (λ (y : GateKind × List Net). record { kind = y.0; ins = map (net_number n) y.1; out = at }) (same_Some x g e) ∙ ap (λ o. record { kind = g.0; ins = map (net_number n) g.1; out = o }) z
gates-get n at (x ∷ gs) (suc k) g e =
    let z : suc at + k ≡ at + suc k = omega arith in
    gates-get n (suc at) gs k g e ∙ ap (λ o. record { kind = g.0; ins = map (net_number n) g.1; out = o }) z

graph-get : (gs : List (GateKind × List Net)) (k : ℕ) (g : GateKind × List Net) → slice_get gs k ≡ Some g → graph.needs_of (map (λ g. own_of g.1) gs) k ≡ own_of g.1
graph-get [] k g e = absurd (let l : k < 0 = slice_get_within [] k g e in omega arith)
graph-get (x ∷ gs) zero g e = ap (λ (y : GateKind × List Net). own_of y.1) (same_Some x g e)
graph-get (x ∷ gs) (suc k) g e = graph-get gs k g e

graph-long : (gs : List (GateKind × List Net)) → length (map (λ g. own_of g.1) gs) ≡ length gs
graph-long [] = refl
graph-long (g ∷ gs) = ap suc (graph-long gs)

module _ (f : Flat) (carry : IsCarrying f) (kinds : Each (λ g. pins_of g.kind (length g.ins) ≡ true) (circuit_of f).gates) where
  zeros : List Bool
  zeros = replicate f.inputs false

  zeros-long : length zeros ≡ f.inputs
  unfolding zeros
  zeros-long = length-replicate f.inputs false

  -- the pins of a gate whose needs are done are known
  known-pins : (done : List ℕ) (ns : List Net) (bs : List Bool) → AllCarry f zeros ns bs → ((h : ℕ) → Contains (own_of ns) h → Contains done h) → Each (IsKnown (circuit_of f) done) (map (net_number f.inputs) ns)
  known-pins done [] bs c w = tt
  known-pins done (n ∷ ns) [] c w = elim c [ ]
  known-pins done (In i ∷ ns) (b ∷ bs) (more (input l e) cs) w = (inl (let z = zeros-long in omega (arith, l, z)), known-pins done ns bs cs w)
  known-pins done (Own h ∷ ns) (b ∷ bs) (more (gate g xs at all e) cs) w =
      let l : h < length f.gates = slice_get_within f.gates h g at in
      let z = gates-long f.inputs f.inputs f.gates in
      (inr (h, (refl, (let q : h < length (gates_from f.inputs f.inputs f.gates) = omega (arith, l, z) in q), w h (cons-here h (own_of ns)))), known-pins done ns bs cs (λ j k. w j (cons-later h (own_of ns) j k)))

  pins-of-gate : (done : List ℕ) (k : ℕ) (g : GateKind × List Net) → slice_get f.gates k ≡ Some g → ((h : ℕ) → Contains (own_of g.1) h → Contains done h) → Each (IsKnown (circuit_of f) done) (map (net_number f.inputs) g.1)
  pins-of-gate done k g e w = from (carry.total zeros zeros-long k (slice_get_within f.gates k g e))
    where
      from : (b : Bool) × Carries f zeros (Own k) b → Each (IsKnown (circuit_of f) done) (map (net_number f.inputs) g.1)
      from (b, gate h bs at all q) =
          let same : h ≡ g = same_Some h g (sym at ∙ e) in
          known-pins done g.1 bs (subst (λ (y : GateKind × List Net). AllCarry f zeros y.1 bs) same all) w

  the-gate : (k : ℕ) → k < length f.gates → (g : GateKind × List Net) × (slice_get f.gates k ≡ Some g)
  the-gate k l = (get_or f.gates k (kind.Zero, []), slice_get-get_or f.gates k (kind.Zero, []) l)

  sequence : (done ks : List ℕ) → graph.Follows (gate_graph f) done ks → InSequence (circuit_of f) done ks
  sequence done [] s = tt
  sequence done (k ∷ ks) s =
      let long = graph-long f.gates in
      let l : k < length f.gates = (let w = s.0.within in omega (arith, w, long)) in
      let g = the-gate k l in
      let z = gates-long f.inputs f.inputs f.gates in (
        (let q : k < length (gates_from f.inputs f.inputs f.gates) = omega (arith, l, z) in q),
        subst (λ (y : Gate). Each (IsKnown (circuit_of f) done) y.ins) (sym (gates-get f.inputs f.inputs f.gates k g.0 g.1))
            (pins-of-gate done k g.0 g.1 (λ h w. s.0.needs h (subst (λ ns. Contains ns h) (sym (graph-get f.gates k g.0 g.1)) w))),
        sequence (done ++ k ∷ []) ks s.2,
      )

  pub carrying-evaluates : (order : List ℕ) → graph.IsOrder (gate_graph f) order → CanEvaluate (circuit_of f) order
  carrying-evaluates order o = record {
    nets = (let z = gates-long f.inputs f.inputs f.gates in ap (λ n. f.inputs + n) (sym z));
    outs = λ k l. let g = the-gate k (within k l) in ap (λ (y : Gate). y.out) (gates-get f.inputs f.inputs f.gates k g.0 g.1);
    pins = λ k l. Each-at (λ g. pins_of g.kind (length g.ins) ≡ true) (circuit_of f).gates k no_gate kinds l;
    sequence = sequence [] order o.follows;
    all = λ k l. o.all k (let w = within k l in let z = graph-long f.gates in omega (arith, w, z));
    one = λ xs wide. total_has_one f carry.total xs wide;
  }
    where
      within : (k : ℕ) → k < length (gates_from f.inputs f.inputs f.gates) → k < length f.gates
      within k l = let z = gates-long f.inputs f.inputs f.gates in omega (arith, l, z)

-- ---- each gate is evaluated once

-- the sum of the numbers below n
total : ℕ → (ℕ → ℕ) → ℕ
total zero w = 0
total (suc n) w = total n w + w n

cleared : ℕ → (ℕ → ℕ) → ℕ → ℕ
cleared k w j = if nat_eq j k then 0 else w j

cleared-other : (k : ℕ) (w : ℕ → ℕ) (j : ℕ) → j ≢ k → cleared k w j ≡ w j
unfolding cleared
cleared-other k w j ne = ap (λ b. if b then 0 else w j) (ne_eqb j k ne)

cleared-same : (k : ℕ) (w : ℕ → ℕ) (j : ℕ) → j ≡ k → cleared k w j ≡ 0
unfolding cleared
cleared-same k w j e = ap (λ b. if b then 0 else w j) (eq-eqb j k e)

total-past : (n k : ℕ) (w : ℕ → ℕ) → n ≤ k → total n (cleared k w) ≡ total n w
unfolding total
total-past zero k w l = refl
total-past (suc n) k w l = let r = total-past n k w (omega (arith, l)) in let s = cleared-other k w n (omega (arith, l)) in omega (arith, r, s)

total-cleared : (n k : ℕ) (w : ℕ → ℕ) → k < n → total n w ≡ w k + total n (cleared k w)
unfolding total
total-cleared zero k w l = absurd (omega (arith, l))
total-cleared (suc n) k w l = elim (cases_lt k n) [
  | inl lt ↦ let r = total-cleared n k w lt in let s = cleared-other k w n (omega (arith, lt)) in omega (arith, r, s)
  | inr ge ↦
      let e : n ≡ k = omega (arith, l, ge) in
      let r = total-past n k w (omega (arith, e)) in
      let s = cleared-same k w n e in
      let q : w n ≡ w k = ap w e in
      omega (arith, r, s, q)
]

-- different numbers below n
abbrev Differ : ℕ → List ℕ → Type 0
Differ n [] = Unit {0}
Differ n (k ∷ ks) = (k < n) × (Contains ks k → ⊥) × Differ n ks

sum-cleared : (k : ℕ) (w : ℕ → ℕ) (ks : List ℕ) → (Contains ks k → ⊥) → sum_by (cleared k w) ks ≡ sum_by w ks
sum-cleared k w [] h = refl
sum-cleared k w (j ∷ ks) h =
    let r = sum-cleared k w ks (λ c. h (cons-later j ks k c)) in
    let ne : j ≢ k = λ e. h (subst (Contains (j ∷ ks)) e (cons-here j ks)) in
    let s = cleared-other k w j ne in
    omega (arith, r, s, sum_by-cons (cleared k w) j ks, sum_by-cons w j ks)

sum-within : (n : ℕ) (w : ℕ → ℕ) (ks : List ℕ) → Differ n ks → sum_by w ks ≤ total n w
sum-within n w [] d = omega arith
sum-within n w (k ∷ ks) d =
    let r = sum-within n (cleared k w) ks d.2 in
    let s = sum-cleared k w ks d.1 in
    let t = total-cleared n k w d.0 in
    omega (arith, r, s, t, sum_by-cons w k ks)

follows-new : (g : List (List ℕ)) (done ks : List ℕ) (x : ℕ) → graph.Follows g done ks → Contains done x → Contains ks x → ⊥
follows-new g done [] x f h c = nothing x c
follows-new g done (k ∷ ks) x f h c = elim (cons-cases k ks x c) [
  | inl e ↦ f.0.new (subst (Contains done) (sym e) h)
  | inr t ↦ follows-new g (done ++ k ∷ []) ks x f.2 (Contains-append_left done (k ∷ []) x h) t
]

follows-differ : (g : List (List ℕ)) (done ks : List ℕ) → graph.Follows g done ks → Differ (length g) ks
follows-differ g done [] f = tt
follows-differ g done (k ∷ ks) f = (f.0.within, follows-new g (done ++ k ∷ []) ks k f.2 (Contains-push done k), follows-differ g (done ++ k ∷ []) ks f.2)

-- the sum over a list by places
total-suc : (n : ℕ) (w : ℕ → ℕ) → total (suc n) w ≡ w 0 + total n (λ k. w (suc k))
unfolding total
total-suc zero w = omega arith
total-suc (suc n) w = let r = total-suc n w in omega (arith, r)

total-sum : (gs : List Gate) → total (length gs) (λ k. length (get_or gs k no_gate).ins + 1) ≡ sum_by (λ g. length g.ins + 1) gs
unfolding total
total-sum [] = refl
total-sum (g ∷ gs) =
    let r = total-sum gs in
    let s = total-suc (length gs) (λ k. length (get_or (g ∷ gs) k no_gate).ins + 1) in
    let p = sum_by-cons (λ (g : Gate). length g.ins + 1) g gs in
    s ∙ ap (λ n. length g.ins + 1 + n) r ∙ sym p

pub order-pins : (f : Flat) (order : List ℕ) → graph.IsOrder (gate_graph f) order → pins_in (circuit_of f) order ≤ circuit_pins (circuit_of f)
order-pins f order o =
    let d = follows-differ (gate_graph f) [] order o.follows in
    let long : length (gate_graph f) ≡ length (gates_from f.inputs f.inputs f.gates) = graph-long f.gates ∙ sym (gates-long f.inputs f.inputs f.gates) in
    let r = sum-within (length (gates_from f.inputs f.inputs f.gates)) (λ k. length (get_or (gates_from f.inputs f.inputs f.gates) k no_gate).ins + 1) order (subst (λ n. Differ n order) long d) in
    let t = total-sum (gates_from f.inputs f.inputs f.gates) in
    omega (arith, r, t)

-- ---- the graph of the gates by the numbers of their nets

own-same : (f : Flat) (ns : List Net) → Each (NetIn f) ns → own_nets f.inputs (map (net_number f.inputs) ns) ≡ own_of ns
own-same f [] h = refl
own-same f (In i ∷ ns) h = ap (λ b. (if b then [] else (i - f.inputs) ∷ []) ++ own_nets f.inputs (map (net_number f.inputs) ns)) (lt-ltb i f.inputs h.0) ∙ own-same f ns h.1
own-same f (Own k ∷ ns) h =
    let ge : f.inputs ≤ f.inputs + k = omega arith in
    let e : f.inputs + k - f.inputs ≡ k = omega arith in
    ap (λ b. (if b then [] else (f.inputs + k - f.inputs) ∷ []) ++ own_nets f.inputs (map (net_number f.inputs) ns)) (le-ltb (f.inputs + k) f.inputs ge)
    ∙ ap (λ j. j ∷ own_nets f.inputs (map (net_number f.inputs) ns)) e ∙ ap (λ l. k ∷ l) (own-same f ns h.1)

all-in : (f : Flat) (xs : List Bool) → length xs ≡ f.inputs → (ns : List Net) (bs : List Bool) → AllCarry f xs ns bs → Each (NetIn f) ns
all-in f xs wide [] bs c = tt
all-in f xs wide (n ∷ ns) [] c = elim c [ ]
all-in f xs wide (In i ∷ ns) (b ∷ bs) (more (input l e) cs) = (omega (arith, l, wide), all-in f xs wide ns bs cs)
all-in f xs wide (Own k ∷ ns) (b ∷ bs) (more (gate g ds at all e) cs) = (slice_get_within f.gates k g at, all-in f xs wide ns bs cs)

module _ (f : Flat) (carry : IsCarrying f) where
  -- the nets of a gate are nets of the module
  gate-in : (k : ℕ) (g : GateKind × List Net) → slice_get f.gates k ≡ Some g → Each (NetIn f) g.1
  gate-in k g e = from (carry.total (replicate f.inputs false) (length-replicate f.inputs false) k (slice_get_within f.gates k g e))
    where
      from : (b : Bool) × Carries f (replicate f.inputs false) (Own k) b → Each (NetIn f) g.1
      from (b, gate h bs at all q) =
          let same : h ≡ g = same_Some h g (sym at ∙ e) in
          subst (λ (y : GateKind × List Net). Each (NetIn f) y.1) same (all-in f (replicate f.inputs false) (length-replicate f.inputs false) h.1 bs all)

  needs-from : (at : ℕ) (gs : List (GateKind × List Net)) → ((k : ℕ) (g : GateKind × List Net) → slice_get gs k ≡ Some g → Each (NetIn f) g.1) → map (λ g. own_nets f.inputs g.ins) (gates_from f.inputs at gs) ≡ map (λ g. own_of g.1) gs
  needs-from at [] h = refl
  needs-from at (g ∷ gs) h = λ j. own-same f g.1 (h 0 g refl) j ∷ needs-from (suc at) gs (λ k x e. h (suc k) x e) j

  pub needs-same : gate_needs (circuit_of f) ≡ gate_graph f
  needs-same = needs-from f.inputs f.gates gate-in

  own-within : (ns : List Net) → Each (NetIn f) ns → (n : ℕ) → Contains (own_of ns) n → n < length f.gates
  own-within [] h n c = absurd (nothing n c)
  own-within (In i ∷ ns) h n c = own-within ns h.1 n c
  own-within (Own k ∷ ns) h n c = elim (cons-cases k (own_of ns) n c) [
    | inl e ↦ subst (λ m. m < length f.gates) e h.0
    | inr t ↦ own-within ns h.1 n t
  ]

  pub is-graph : graph.IsGraph (gate_graph f)
  is-graph i n c = elim (cases_lt i (length f.gates)) [
    | inl lt ↦
        let g = get_or f.gates i (kind.Zero, []) in
        let e : slice_get f.gates i ≡ Some g = slice_get-get_or f.gates i (kind.Zero, []) lt in
        let w : n < length f.gates = own-within g.1 (gate-in i g e) n (subst (λ ns. Contains ns n) (graph-get f.gates i g e) c) in
        let z = graph-long f.gates in
        omega (arith, w, z)
    | inr ge ↦ absurd (nothing n (subst (λ ns. Contains ns n) (get_or_past (gate_graph f) i [] (let z = graph-long f.gates in omega (arith, ge, z))) c))
  ]

-- the same of the circuit
module _ (c : Circuit) (h : (f : Flat) × IsFlattened f c) where
  needs-of : gate_needs c ≡ gate_graph h.0
  needs-of = ap gate_needs h.1.is ∙ needs-same h.0 h.1.carries

  pub circuit-graph : graph.IsGraph (gate_needs c)
  circuit-graph = subst graph.IsGraph (sym needs-of) (is-graph h.0 h.1.carries)

  pub circuit-small : length (gate_needs c) ≤ length c.gates
  circuit-small = let e : length (gate_needs c) ≡ length c.gates = length-map c.gates (λ g. own_nets c.inputs g.ins) in omega (arith, e)

  pub circuit-fits : length c.gates < 2 ^ 32
  circuit-fits =
      let e : c.nets ≡ c.inputs + length c.gates = subst (λ (d : Circuit). d.nets ≡ d.inputs + length d.gates) (sym h.1.is) (let z = gates-long h.0.inputs h.0.inputs h.0.gates in ap (λ n. h.0.inputs + n) (sym z)) in
      let s = h.1.small in
      omega (arith, e, s)

  pub circuit-acyclic : graph.HasCycle (gate_needs c) → ⊥
  circuit-acyclic k = carrying_is_acyclic h.0 h.1.carries (subst graph.HasCycle needs-of k)

  kinds-of : Each (λ g. pins_of g.kind (length g.ins) ≡ true) (circuit_of h.0).gates
  kinds-of = subst (λ (d : Circuit). Each (λ g. pins_of g.kind (length g.ins) ≡ true) d.gates) h.1.is h.1.pins

  pub circuit-evaluates : (order : List ℕ) → graph.IsOrder (gate_needs c) order → CanEvaluate c order
  circuit-evaluates order o = subst (λ (d : Circuit). CanEvaluate d order) (sym h.1.is) (carrying-evaluates h.0 h.1.carries kinds-of order (subst (λ g. graph.IsOrder g order) needs-of o))

  pub circuit-order-pins : (order : List ℕ) → graph.IsOrder (gate_needs c) order → pins_in c order ≤ circuit_pins c
  circuit-order-pins order o = subst (λ (d : Circuit). pins_in d order ≤ circuit_pins d) (sym h.1.is) (order-pins h.0 order (subst (λ g. graph.IsOrder g order) needs-of o))

  pub circuit-one : (input : List Bool) → length input ≡ c.inputs → HasOneValuation c input
  circuit-one = subst (λ (d : Circuit). (input : List Bool) → length input ≡ d.inputs → HasOneValuation d input) (sym h.1.is) (λ xs wide. total_has_one h.0 h.1.carries.total xs wide)

  outs-number : (ns : List Net) → Each (NetIn h.0) ns → Each (λ k. k < h.0.inputs + length h.0.gates) (map (net_number h.0.inputs) ns)
  outs-number [] e = tt
  outs-number (In i ∷ ns) e = (omega (arith, e.0), outs-number ns e.1)
  outs-number (Own k ∷ ns) e = (omega (arith, e.0), outs-number ns e.1)

  -- the outputs are nets
  pub circuit-outputs : Each (λ k. k < c.nets) c.outputs
  circuit-outputs = subst (λ (d : Circuit). Each (λ k. k < d.nets) d.outputs) (sym h.1.is) (outs-number h.0.outputs h.1.carries.outputs)

-- ---- the outputs of a circuit over nodes of its inputs

module _ (c : Circuit) (h : (f : Flat) × IsFlattened f c) (s : Store) (inputs : List Node) (as_many : length inputs ≡ c.inputs) where
  one-at : (a : Bits) → HasOneValuation c (node_bits s.triples inputs a)
  one-at a = circuit-one c h (node_bits s.triples inputs a) (length-map inputs (λ n. function_of s.triples n.0 a) ∙ as_many)

  -- the store t has nodes of all nets
  module _ (t : Store) (nodes : List Node) (are : AreNodes t.triples nodes)
      (nets : (a : Bits) (v : List Bool) → Consistent c (node_bits s.triples inputs a) v → node_bits t.triples nodes a ≡ v) where
    pub nets-long : length nodes ≡ c.nets
    nets-long =
        let a : Bits = λ _. false in
        let o = one-at a in
        sym (length-map nodes (λ n. function_of t.triples n.0 a)) ∙ ap length (nets a o.v o.consistent) ∙ o.consistent.every_net

    outs-in : Each (λ k. k < length nodes) c.outputs
    outs-in = subst (λ n. Each (λ k. k < n) c.outputs) (sym nets-long) (circuit-outputs c h)

    module _ (items : List Node) (same : items ≡ nodes) (outs : List ℕ) (all : outs ≡ c.outputs) where
      pub outputs-in : Each (λ k. k < length items) outs
      outputs-in = subst (λ ks. Each (λ k. k < length items) ks) (sym all) (subst (λ ms. Each (λ k. k < length ms) c.outputs) (sym same) outs-in)

      module _ (gots : List Node) (is : gots ≡ map (node_at items) outs) where
        gots-are : gots ≡ map (node_at nodes) c.outputs
        gots-are = is ∙ ap (λ ms. map (node_at ms) outs) same ∙ ap (map (node_at nodes)) all

        pub outputs-are : AreNodes t.triples gots
        outputs-are = subst (AreNodes t.triples) (sym gots-are) (chosen t.triples nodes c.outputs are outs-in)

        pub outputs-have : (a : Bits) → Outputs c (node_bits s.triples inputs a) (node_bits t.triples gots a)
        outputs-have a =
            let o = one-at a in
            record {
              v = o.v;
              consistent = o.consistent;
              outputs = ap (λ l. node_bits t.triples l a) gots-are ∙ reads t.triples nodes a c.outputs outs-in ∙ ap (λ w. read_all w c.outputs) (nets a o.v o.consistent);
            }

-- the pins of all gates are at least those of the gates in order
pub pins-room : (s t : Store) (inputs : List Node) (some all : ℕ) → some ≤ all → ((ls : List ℕ) → DependOn s.triples inputs ls → length t.triples ≤ length s.triples + some * (2 * 2 ^ length ls)) → Adds s t all inputs
pins-room s t inputs some all le h = record {
  most = λ ls d. let r = h ls d in let m = mul-le-mul_right (2 * 2 ^ length ls) le in omega (arith, r, m);
}
