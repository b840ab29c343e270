-- The netlists of a file's modules.
use Rattle.std.proofs.Common.{◌≡◌, ℕ, ◌+◌, ◌<◌, ◌≤◌, ◌^◌, false, nat_lt, List, [], ◌∷◌, ◌++◌, map, take, length, get_or, None, refl, sym, ◌∙◌, ap, subst, arith}
use Rattle.std.proofs.lemmas.Bool.Decides.{nat_tests}
use Rattle.std.proofs.lemmas.List.{get_or_default}
use Rattle.cb_model.specs.declared.GateKind.{GateKind}
use Rattle.cb_model.specs.Bits.{Each}
use Rattle.cb_model.specs.Circuits.{Net, In, Own, Flat, Module, no_flat, net_number, flat, flats}
use Rattle.cb_model.specs.Facts.{Circuits, ModuleRefusal}
use Rattle.cb_model.specs.Carry.{IsCarrying, NetIn}
use Rattle.cb_flat.specs.Walk.{placed_net}
use Rattle.cb_flat.proofs.Accepted.{accepted_carries, IsAccepted, accepted-has}
use Rattle.cb_netlist.specs.declared.netlist.Part.TheVariants as part
use Rattle.cb_netlist.specs.Wiring.{Wiring, no_wiring}
use Rattle.cb_netlist.specs.Netlists.{flat_at, IsNetlist, AreNetlists}
use Rattle.cb_netlist.proofs.Netlists.{are-pushed}
use Rattle.cb_circ.specs.declared.circuits.Entry.{Entry}
use Rattle.cb_circ.specs.declared.circuits.SpecEntry.{SpecEntry}
use Rattle.cb_circ.specs.View.{modules_of, module_view, circuits_view}
use Rattle.cb_circ.specs.Kept.{HasPins, AreWired}
use Rattle.cb_circ.specs.Marks.{AreWithin}
use Rattle.cb_circ.specs.Driving.{IsChecked, part_flat, placed_outs}
use Rattle.cb_circ.proofs.Driving.{each-at}
use Rattle.cb_circ.proofs.Filling.{flat-pins}
use Rattle.cb_circ.proofs.Pushing.{all-flats}

-- ---- the outputs of an instance

pub gate-outs : (fs : List Flat) (kind : GateKind) (n inputs first : ℕ) (pins : List ℕ) → (inputs + first) ∷ [] ≡ placed_outs (part_flat fs (part.Gate kind) n) inputs first pins
gate-outs fs kind n inputs first pins =
    let b : nat_lt (n + 0) n ≡ false = ge-test (n + 0) n (omega arith) in
    let e : placed_net n inputs first pins (n + 0) ≡ inputs + first = rw b (omega arith) in
    ap (λ (k : ℕ). k ∷ []) (sym e)
  where
    ge-test : (a b : ℕ) → b ≤ a → nat_lt a b ≡ false
    ge-test a b l = grind (arith, nat_tests)

map-two : (n inputs first m : ℕ) (pins : List ℕ) (os : List Net) → m ≡ n → map (placed_net m inputs first pins) (map (net_number n) os) ≡ map (λ o. placed_net n inputs first pins (net_number n o)) os
map-two n inputs first m pins [] e = refl
map-two n inputs first m pins (o ∷ os) e = λ j. placed_net (e j) inputs first pins (net_number n o) ∷ map-two n inputs first m pins os e j

outs-below : (f : Flat) (os : List Net) → Each (NetIn f) os → AreWithin (f.inputs + length f.gates) (map (net_number f.inputs) os)
outs-below f [] h = tt
outs-below f (In i ∷ os) h = (let l = h.0 in omega (arith, l), outs-below f os h.1)
outs-below f (Own k ∷ os) h = (let l = h.0 in omega (arith, l), outs-below f os h.1)

each-push : {X : Type 0} (P : X → Type 0) (xs : List X) (x : X) → Each P xs → P x → Each P (xs ++ x ∷ [])
each-push P [] x a i = (i, tt)
each-push P (y ∷ xs) x a i = (a.0, each-push P xs x a.1 i)

module _ (es : List Entry) (ns : List Wiring) (ss : List SpecEntry) (v : Circuits) (is : circuits_view es ss ≡ v) (w : AreWired es ns) where
  same : flats [] (modules_of es) ≡ v.flats
  same = ap (λ (c : Circuits). c.flats) is

  pub netlists-are : AreNetlists v.flats ns
  netlists-are = subst (λ (fs : List Flat). AreNetlists fs ns) same w.netlists

  pub all-carry : Each IsCarrying v.flats
  all-carry = subst (Each IsCarrying) same w.carrying

  pub all-pins : Each HasPins v.flats
  all-pins = subst (Each HasPins) same w.pins

  pub accepted-is : (m : Module) → ModuleRefusal v.flats m None → IsAccepted v.flats m
  accepted-is m r = accepted-has v.flats m all-carry r

  module _ (q : ℕ) (n : Wiring) (l : q < length v.flats) (at : n ≡ get_or ns q n) where
    pub in-netlists : q < length ns
    in-netlists = omega (arith, l, netlists-are.as_many)

    pub netlist-is : IsNetlist (take q v.flats) (flat_at v.flats q) n
    netlist-is = subst (IsNetlist (take q v.flats) (flat_at v.flats q)) (get_or_default ns q no_wiring n in-netlists ∙ sym at) (netlists-are.each q in-netlists)

    carries : IsCarrying (flat_at v.flats q)
    carries = each-at IsCarrying v.flats q no_flat all-carry l

    pub outs-within : AreWithin (n.inputs + n.gates) n.outputs
    outs-within =
        let z : (flat_at v.flats q).inputs + length (flat_at v.flats q).gates ≡ n.inputs + n.gates = omega (arith, netlist-is.inputs, netlist-is.count) in
        subst (AreWithin (n.inputs + n.gates)) (sym netlist-is.outputs) (subst (λ k. AreWithin k (map (net_number (flat_at v.flats q).inputs) (flat_at v.flats q).outputs)) z (outs-below (flat_at v.flats q) (flat_at v.flats q).outputs carries.outputs))

    pub outs-same : (inputs first : ℕ) (pins : List ℕ) → map (placed_net n.inputs inputs first pins) n.outputs ≡ placed_outs (flat_at v.flats q) inputs first pins
    outs-same inputs first pins =
        ap (map (placed_net n.inputs inputs first pins)) netlist-is.outputs ∙ map-two (flat_at v.flats q).inputs inputs first n.inputs pins (flat_at v.flats q).outputs netlist-is.inputs

  -- one module more
  pub wired-module : (e : Entry) (n : Wiring) → IsChecked v.flats (module_view e.raw) n → AreWired (es ++ e ∷ []) (ns ++ n ∷ [])
  wired-module e n c =
      let fs = flats [] (modules_of es) in
      let m = module_view e.raw in
      let r : ModuleRefusal fs m None = subst (λ (gs : List Flat). ModuleRefusal gs m None) (sym same) c.accepted in
      record {
        netlists = subst (λ (gs : List Flat). AreNetlists gs (ns ++ n ∷ [])) (sym (all-flats es e)) (are-pushed fs ns (flat fs m) n w.netlists (subst (λ (gs : List Flat). IsNetlist gs (flat gs m) n) (sym same) c.netlist));
        carrying = subst (Each IsCarrying) (sym (all-flats es e)) (each-push IsCarrying fs (flat fs m) w.carrying (accepted_carries fs m w.carrying r));
        pins = subst (Each HasPins) (sym (all-flats es e)) (each-push HasPins fs (flat fs m) w.pins (flat-pins fs m w.pins (accepted-has fs m w.carrying r).faultless));
        small = each-push (λ (n : Wiring). n.inputs + n.gates < 2 ^ 32) ns n w.small c.small;
      }
