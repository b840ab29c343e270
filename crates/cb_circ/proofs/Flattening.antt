-- What is known of the circuit of a module.
use Rattle.std.proofs.Common.{◌≡◌, ℕ, suc, ◌+◌, ◌<◌, ◌^◌, Bool, true, List, [], ◌∷◌, map, length, slice_get, Some, refl, sym, ◌∙◌, ap, subst, arith}
use Rattle.std.specs.Prelude.{Result, Ok, Err, IfOk}
use Rattle.std.proofs.lemmas.List.{length-map}
use Rattle.cb_model.specs.declared.GateKind.{GateKind}
use Rattle.cb_model.specs.declared.Gate.{Gate}
use Rattle.cb_model.specs.declared.Circuit.{Circuit}
use Rattle.cb_model.specs.Bits.{Each}
use Rattle.cb_model.specs.Text.{Text}
use Rattle.cb_model.specs.Circuits.{Net, In, Own, Flat, pins_of, net_number, gates_from, circuit_of, flats, no_flat}
use Rattle.cb_model.specs.Facts as facts
use Rattle.cb_model.specs.Sound.{HasOneValuation}
use Rattle.cb_model.specs.Carry.{IsCarrying, NetIn}
use Rattle.cb_flat.proofs.Carry.{total_has_one}
use Rattle.cb_netlist.specs.Wiring.{Wiring, no_wiring, wiring_at}
use Rattle.cb_netlist.specs.Netlists.{flat_at, AreNetlists}
use Rattle.cb_circ.specs.declared.circuits.Entry.{Entry}
use Rattle.cb_circ.specs.declared.circuits.SpecEntry.{SpecEntry}
use Rattle.cb_circ.specs.View.{modules_of, module_view, circuits_view}
use Rattle.cb_circ.specs.Kept.{HasPins, AreCircuits}
use Rattle.cb_circ.specs.Nets.{HasNets}
use Rattle.cb_circ.proofs.Filling.{carried-nets}
use Rattle.cb_circ.proofs.Driving.{each-at}
use Rattle.cb_circ.proofs.Refusing.{entries-long}
use Rattle.cb_circ.proofs.Wired.{netlists-are, all-carry, all-pins}

each-from : {X : Type 0} (P : X → Type 0) (xs : List X) → ((k : ℕ) (x : X) → slice_get xs k ≡ Some x → P x) → Each P xs
each-from P [] f = tt
each-from P (x ∷ xs) f = (f 0 x refl, each-from P xs (λ k y e. f (suc k) y e))

below : (f : Flat) (ns : List Net) → Each (NetIn f) ns → Each (λ n. n < f.inputs + length f.gates) (map (net_number f.inputs) ns)
below f [] h = tt
below f (In i ∷ ns) h = (let l = h.0 in omega (arith, l), below f ns h.1)
below f (Own k ∷ ns) h = (let l = h.0 in omega (arith, l), below f ns h.1)

pins-numbered : (n at : ℕ) (gs : List (GateKind × List Net)) → Each (λ (g : GateKind × List Net). pins_of g.0 (length g.1) ≡ true) gs → Each (λ (g : Gate). pins_of g.kind (length g.ins) ≡ true) (gates_from n at gs)
pins-numbered n at [] h = tt
pins-numbered n at (g ∷ gs) h = (ap (pins_of g.0) (length-map g.1 (net_number n)) ∙ h.0, pins-numbered n (suc at) gs h.1)

ins-numbered : (f : Flat) (at : ℕ) (gs : List (GateKind × List Net)) → Each (λ (g : GateKind × List Net). Each (NetIn f) g.1) gs → Each (λ (g : Gate). Each (λ n. n < f.inputs + length f.gates) g.ins) (gates_from f.inputs at gs)
ins-numbered f at [] h = tt
ins-numbered f at (g ∷ gs) h = (below f g.1 h.0, ins-numbered f (suc at) gs h.1)

module _ {E : Type 0} (ns : List Wiring) (fs : List Flat) (are : AreNetlists fs ns) (q : ℕ) (r : Result Circuit E) (h : IfOk r (λ c. (gs : List Flat) → AreNetlists gs ns → c ≡ circuit_of (flat_at gs q))) where
  known : (P : Circuit → Type 0) → P (circuit_of (flat_at fs q)) → IfOk r P
  known P p = from r h
    where
      from : (r : Result Circuit E) → IfOk r (λ c. (gs : List Flat) → AreNetlists gs ns → c ≡ circuit_of (flat_at gs q)) → IfOk r P
      from (Ok c) h = subst P (sym (h fs are)) p
      from (Err e) h = tt

  pub known-is : IfOk r (λ c. c ≡ circuit_of (flat_at fs q))
  known-is = known (λ c. c ≡ circuit_of (flat_at fs q)) refl

  pub known-one : IsCarrying (flat_at fs q) → IfOk r (λ c. (input : List Bool) → length input ≡ c.inputs → HasOneValuation c input)
  known-one c = known (λ c. (input : List Bool) → length input ≡ c.inputs → HasOneValuation c input) (total_has_one (flat_at fs q) c.total)

  pub known-pins : HasPins (flat_at fs q) → IfOk r (λ c. Each (λ (g : Gate). pins_of g.kind (length g.ins) ≡ true) c.gates)
  known-pins p = known (λ c. Each (λ (g : Gate). pins_of g.kind (length g.ins) ≡ true) c.gates) (pins-numbered (flat_at fs q).inputs (flat_at fs q).inputs (flat_at fs q).gates p)

  pub known-nets : IsCarrying (flat_at fs q) → IfOk r HasNets
  known-nets c =
      let f = flat_at fs q in
      known HasNets (record { outputs = below f f.outputs c.outputs; pins = ins-numbered f f.inputs f.gates (each-from (λ (g : GateKind × List Net). Each (NetIn f) g.1) f.gates (carried-nets f c)) })

  pub known-small : (flat_at fs q).inputs + length (flat_at fs q).gates < 2 ^ 32 → IfOk r (λ c. c.nets < 2 ^ 32)
  known-small s = known (λ c. c.nets < 2 ^ 32) s

pub flats-same : (es : List Entry) (ss : List SpecEntry) (v : facts.Circuits) → circuits_view es ss ≡ v → v.flats ≡ flats [] v.modules
flats-same es ss v is = subst (λ (c : facts.Circuits). c.flats ≡ flats [] c.modules) is refl

module _ (es : List Entry) (ns : List Wiring) (names : List Text) (ss : List SpecEntry) (spec_names : List Text) (v : facts.Circuits) (is : circuits_view es ss ≡ v) (a : AreCircuits es ns names ss spec_names) (q : ℕ) (l : q < length v.modules) where
  pub in-flats : q < length v.flats
  in-flats =
      let e = length-map es (λ (e : Entry). module_view e.raw) in
      let m = ap (λ (c : facts.Circuits). length c.modules) is in
      let f = ap (λ (c : facts.Circuits). length c.flats) is in
      let g = entries-long (flats [] (modules_of es)) es a.kept.entries in
      omega (arith, l, e, m, f, g)

  pub are : AreNetlists v.flats ns
  are = netlists-are es ns ss v is a.wired

  pub in-ns : q < length ns
  in-ns = omega (arith, in-flats, are.as_many)

  pub carries : IsCarrying (flat_at v.flats q)
  carries = each-at IsCarrying v.flats q no_flat (all-carry es ns ss v is a.wired) in-flats

  pub has-pins : HasPins (flat_at v.flats q)
  has-pins = each-at HasPins v.flats q no_flat (all-pins es ns ss v is a.wired) in-flats

  pub small-numbers : (wiring_at ns q).inputs + (wiring_at ns q).gates < 2 ^ 32
  small-numbers = each-at (λ (n : Wiring). n.inputs + n.gates < 2 ^ 32) ns q no_wiring a.wired.small in-ns

  pub small-flat : (flat_at v.flats q).inputs + length (flat_at v.flats q).gates < 2 ^ 32
  small-flat = let n = are.each q in-ns in omega (arith, n.inputs, n.count, small-numbers)
