-- Pins by number.
use Rattle.std.proofs.Common.{◌≡◌, ℕ, zero, suc, ◌+◌, ◌<◌, ◌≤◌, true, false, nat_lt, List, [], ◌∷◌, ◌++◌, map, length, get_or, slice_get, flat_map, Some, refl, sym, ◌∙◌, ap, arith}
use Rattle.std.proofs.lemmas.Bool.Decides.{nat_tests}
use Rattle.std.proofs.lemmas.List.{get_or-map}
use Rattle.std.proofs.lemmas.List.Concat.{flat_map-cons}
use Rattle.cb_model.specs.declared.GateKind.{GateKind}
use Rattle.cb_model.specs.Bits.{Each, numbers, numbers_from}
use Rattle.cb_model.specs.Text.{Text}
use Rattle.cb_model.specs.Circuits.{Net, In, Own, Flat, Placed, net_number, outward, own_gates}
use Rattle.cb_model.specs.Carry.{NetIn}
use Rattle.cb_flat.specs.Walk.{Part, AGate, AModule, Filled, placed_net, placed_gate, part_gates}
use Rattle.cb_flat.specs.Drivers.{numbered_gates, IsPart, a_gate, a_module, IsFilled, NumbersAreRight}
use Rattle.cb_flat.proofs.Walk.{of-gate, of-module}

lt-test : (a b : ℕ) → a < b → nat_lt a b ≡ true
lt-test a b l = grind (arith, nat_tests)

ge-test : (a b : ℕ) → b ≤ a → nat_lt a b ≡ false
ge-test a b l = grind (arith, nat_tests)

map-over : {X Y : Type 0} (h : X → Y) (xs ys : List X) → map h (xs ++ ys) ≡ map h xs ++ map h ys
map-over h [] ys = refl
map-over h (x ∷ xs) ys = ap (λ l. h x ∷ l) (map-over h xs ys)

module _ (inputs : ℕ) (driver : Text → Net) (p : Placed) (f : Filled) (first : f.first ≡ p.first) (ins : f.ins ≡ map (λ x. net_number inputs (driver x)) p.instance.ins) (as_many : p.flat.inputs ≡ length p.instance.ins) where
  -- a pin outward, by numbers
  pub net-outward : (n : Net) → NetIn p.flat n → net_number inputs (outward p driver n) ≡ placed_net p.flat.inputs inputs f.first f.ins (net_number p.flat.inputs n)
  net-outward (In i) l =
      let b : nat_lt i p.flat.inputs ≡ true = lt-test i p.flat.inputs l in
      let e : get_or f.ins i 0 ≡ net_number inputs (driver (get_or p.instance.ins i [])) = ap (λ ns. get_or ns i 0) ins ∙ get_or-map (λ x. net_number inputs (driver x)) p.instance.ins i [] 0 (omega (arith, l, as_many)) in
      rw b (sym e)
  net-outward (Own k) l =
      let b : nat_lt (p.flat.inputs + k) p.flat.inputs ≡ false = ge-test (p.flat.inputs + k) p.flat.inputs (omega arith) in
      rw b (omega (arith, first))

  nets-outward : (ns : List Net) → Each (NetIn p.flat) ns → map (net_number inputs) (map (outward p driver) ns) ≡ map (placed_net p.flat.inputs inputs f.first f.ins) (map (net_number p.flat.inputs) ns)
  nets-outward [] h = refl
  nets-outward (n ∷ ns) h = λ j. net-outward n h.0 j ∷ nets-outward ns h.1 j

  gates-outward : (gs : List (GateKind × List Net)) → ((k : ℕ) (g : GateKind × List Net) → slice_get gs k ≡ Some g → Each (NetIn p.flat) g.1)
      → map (λ (g : GateKind × List Net). (g.0, map (net_number inputs) g.1)) (map (λ (g : GateKind × List Net). (g.0, map (outward p driver) g.1)) gs) ≡ map (placed_gate p.flat.inputs inputs f.first f.ins) (map (λ (g : GateKind × List Net). (g.0, map (net_number p.flat.inputs) g.1)) gs)
  gates-outward [] h = refl
  gates-outward (g ∷ gs) h = λ j. (g.0, nets-outward g.1 (h zero g refl) j) ∷ gates-outward gs (λ k x e. h (suc k) x e) j

-- a gate's pins are the instance's
pins-same : (xs : List ℕ) (n at : ℕ) (ys : List ℕ) → length ys ≡ n → ((k : ℕ) → k < n → get_or ys k 0 ≡ get_or xs (at + k) 0) → map (λ i. get_or xs i 0) (numbers_from at n) ≡ ys
pins-same xs zero at [] e h = refl
pins-same xs zero at (y ∷ ys) e h = absurd (omega (arith, e))
pins-same xs (suc n) at [] e h = absurd (omega (arith, e))
pins-same xs (suc n) at (y ∷ ys) e h =
    let h0 : y ≡ get_or xs at 0 = h zero (omega arith) ∙ ap (λ k. get_or xs k 0) (omega arith) in
    ap (λ z. z ∷ map (λ i. get_or xs i 0) (numbers_from (suc at) n)) (sym h0)
    ∙ ap (λ l. y ∷ l) (pins-same xs n (suc at) ys (omega (arith, e)) (λ k l. h (suc k) (omega (arith, l)) ∙ ap (λ i. get_or xs i 0) (omega arith)))

-- the numbers of a gate's own pins, placed
pins-placed : (n inputs first : ℕ) (xs : List ℕ) (at m : ℕ) → at + m ≤ n → map (placed_net n inputs first xs) (map (net_number n) (map In (numbers_from at m))) ≡ map (λ i. get_or xs i 0) (numbers_from at m)
pins-placed n inputs first xs at zero l = refl
pins-placed n inputs first xs at (suc m) l =
    let b : nat_lt at n ≡ true = lt-test at n (omega (arith, l)) in
    let h : placed_net n inputs first xs at ≡ get_or xs at 0 = rw b refl in
    λ j. h j ∷ pins-placed n inputs first xs (suc at) m (omega (arith, l)) j

long-map : {X Y : Type 0} (h : X → Y) (xs : List X) → length (map h xs) ≡ length xs
long-map h [] = refl
long-map h (x ∷ xs) = ap suc (long-map h xs)

-- the numbered gates of an instance
pub instance-right : (flats : ℕ → Flat) (inputs : ℕ) (driver : Text → Net) (p : Placed) (f : Filled) → IsFilled flats inputs driver p f
    → map (λ g. (g.0, map (net_number inputs) g.1)) (own_gates driver p) ≡ part_gates (λ q. numbered_gates (flats q)) (λ q. (flats q).inputs) inputs f
instance-right flats inputs driver p f w = gates-outward inputs driver p f w.first w.ins w.as_many p.flat.gates w.nets ∙ from f.part refl w.part
  where
    from : (k : Part) → f.part ≡ k → IsPart flats p k → map (placed_gate p.flat.inputs inputs f.first f.ins) (numbered_gates p.flat) ≡ part_gates (λ q. numbered_gates (flats q)) (λ q. (flats q).inputs) inputs f
    from (AModule q) e (a_module same) =
        ap (λ (z : Flat). map (placed_gate z.inputs inputs f.first f.ins) (numbered_gates z)) same ∙ sym (of-module (λ q. numbered_gates (flats q)) (λ q. (flats q).inputs) inputs f q e)
    from (AGate kind) e (a_gate same) =
        ap (λ (z : Flat). map (placed_gate z.inputs inputs f.first f.ins) (numbered_gates z)) same
        ∙ ap (λ ns. (kind, ns) ∷ []) pins
        ∙ sym (of-gate (λ q. numbered_gates (flats q)) (λ q. (flats q).inputs) inputs f kind e)
      where
        n : ℕ
        n = length p.instance.ins

        pins : map (placed_net (length p.instance.ins) inputs f.first f.ins) (map (net_number (length p.instance.ins)) (map In (numbers (length p.instance.ins)))) ≡ f.ins
        pins =
            pins-placed (length p.instance.ins) inputs f.first f.ins 0 (length p.instance.ins) (omega arith)
            ∙ pins-same f.ins (length p.instance.ins) 0 f.ins (ap length w.ins ∙ long-map (λ x. net_number inputs (driver x)) p.instance.ins) (λ k l. ap (λ i. get_or f.ins i 0) (omega arith))

pub right-all : NumbersAreRight
right-all flats inputs driver [] [] a = refl
right-all flats inputs driver [] (f ∷ fs) a = absurd a
right-all flats inputs driver (p ∷ ps) [] a = absurd a
right-all flats inputs driver (p ∷ ps) (f ∷ fs) a =
    ap (map (λ g. (g.0, map (net_number inputs) g.1))) (flat_map-cons (own_gates driver) p ps)
    ∙ map-over (λ (g : GateKind × List Net). (g.0, map (net_number inputs) g.1)) (own_gates driver p) (flat_map (own_gates driver) ps)
    ∙ ap (λ l. l ++ map (λ g. (g.0, map (net_number inputs) g.1)) (flat_map (own_gates driver) ps)) (instance-right flats inputs driver p f a.0)
    ∙ ap (λ l. part_gates (λ q. numbered_gates (flats q)) (λ q. (flats q).inputs) inputs f ++ l) (right-all flats inputs driver ps fs a.1)
    ∙ sym (flat_map-cons (part_gates (λ q. numbered_gates (flats q)) (λ q. (flats q).inputs) inputs) f fs)
