-- What netlists of flattened modules give the walk, and what the walk gives.
use Rattle.std.proofs.Common.{◌≡◌, ℕ, zero, suc, ◌+◌, ◌^◌, ◌<◌, ◌≤◌, nat_lt, true, false, List, [], ◌∷◌, ◌++◌, map, length, take, get_or, flat_map, refl, sym, ap, subst, ◌∙◌, inl, inr, arith}
use Rattle.std.proofs.lemmas.Bool.{cases_lt}
use Rattle.std.proofs.lemmas.Bool.Decides.{nat_tests}
use Rattle.std.proofs.lemmas.List.Concat.{flat_map-cons}
use Rattle.cb_model.specs.declared.GateKind.{GateKind}
use Rattle.cb_model.specs.declared.Gate.{Gate}
use Rattle.cb_model.specs.Bits.{Each, numbers, numbers_from}
use Rattle.cb_model.specs.Circuits.{Net, Flat, no_flat, net_number, gates_from, circuit_of}
use Rattle.cb_flat.specs.Walk.{Numbered, Part, AGate, AModule, Filled, Frame, part_gates, placed_gate, whole_net, whole_gate}
use Rattle.cb_flat.specs.Drivers.{numbered_gates}
use Rattle.cb_flat.proofs.Walk.{of-gate, of-module}
use Rattle.cb_netlist.specs.Wiring.{Wiring, wiring_at}
use Rattle.cb_netlist.specs.Netlists.{flat_at, gates_in, TakesPins, IsPlaced, AreNetlists}
use Rattle.cb_netlist.specs.Walking.{numbers_at, PartTakes, part_count, IsSized, AreSized, AreGates, gates_at, all_gates, first_frame, IsWalk}
use Rattle.cb_netlist.proofs.Steps.{long-map}

get-take : {A : Type 0} (xs : List A) (k q : ℕ) (d : A) → q < k → get_or (take k xs) q d ≡ get_or xs q d
get-take [] zero q d l = refl
get-take [] (suc k) q d l = refl
get-take (x ∷ xs) zero q d l = absurd (omega (arith, l))
get-take (x ∷ xs) (suc k) zero d l = refl
get-take (x ∷ xs) (suc k) (suc q) d l = get-take xs k q d (omega (arith, l))

long-take : {A : Type 0} (xs : List A) (k q : ℕ) → q < length (take k xs) → q < k
long-take [] zero q l = absurd (omega (arith, l))
long-take [] (suc k) q l = absurd (omega (arith, l))
long-take (x ∷ xs) zero q l = absurd (omega (arith, l))
long-take (x ∷ xs) (suc k) zero l = omega arith
long-take (x ∷ xs) (suc k) (suc q) l = let h = long-take xs k q (omega (arith, l)) in omega (arith, h)

module _ (flats : List Flat) (ns : List Wiring) (are : AreNetlists flats ns) where
  abbrev pub gates_by : ℕ → List Numbered
  gates_by q = numbered_gates (flat_at flats q)

  -- the inputs and the gates of a module before
  inputs-before : (k q : ℕ) → k < length ns → q < k → (flat_at (take k flats) q).inputs ≡ (wiring_at ns q).inputs
  inputs-before k q l lt = ap (λ (f : Flat). f.inputs) (get-take flats k q no_flat lt) ∙ sym (are.each q (omega (arith, l, lt))).inputs

  count-before : (k q : ℕ) → k < length ns → q < k → length (flat_at (take k flats) q).gates ≡ (wiring_at ns q).gates
  count-before k q l lt = ap (λ (f : Flat). length f.gates) (get-take flats k q no_flat lt) ∙ sym (are.each q (omega (arith, l, lt))).count

  sized-one : (k : ℕ) → k < length ns → (f : Filled) → IsPlaced (take k flats) (wiring_at ns k) f → IsSized ns k f
  sized-one k l f h = from f.part refl h.pins h.within
    where
      from : (p : Part) → f.part ≡ p → TakesPins (take k flats) p (length f.ins) → f.first + gates_in (take k flats) p ≤ (wiring_at ns k).gates → IsSized ns k f
      from (AGate kind) e pins within = record {
        pins = subst (λ p. PartTakes ns k p (length f.ins)) (sym e) tt;
        nets = h.nets;
        within = subst (λ p. f.first + part_count ns p ≤ (wiring_at ns k).gates) (sym e) within;
      }
      from (AModule q) e pins within =
          let lt : q < k = long-take flats k q pins.0 in
          record {
            pins = subst (λ p. PartTakes ns k p (length f.ins)) (sym e) (lt, pins.1 ∙ inputs-before k q l lt);
            nets = h.nets;
            within = subst (λ p. f.first + part_count ns p ≤ (wiring_at ns k).gates) (sym e) (subst (λ n. f.first + n ≤ (wiring_at ns k).gates) (count-before k q l lt) within);
          }

  sized-all : (k : ℕ) → k < length ns → (fs : List Filled) → Each (IsPlaced (take k flats) (wiring_at ns k)) fs → Each (IsSized ns k) fs
  sized-all k l [] h = tt
  sized-all k l (f ∷ fs) h = (sized-one k l f h.0, sized-all k l fs h.1)

  pub are-sized : AreSized ns
  are-sized k l = sized-all k l (wiring_at ns k).filled (are.each k l).parts

  -- the gates of an instance, by the modules before or by all
  gates-one : (k : ℕ) → k < length ns → (from : ℕ) (f : Filled) → IsPlaced (take k flats) (wiring_at ns k) f
      → part_gates (λ q. numbered_gates (flat_at (take k flats) q)) (λ q. (flat_at (take k flats) q).inputs) from f ≡ part_gates gates_by (λ q. (numbers_at ns q).inputs) from f
  gates-one k l from f h = by f.part refl h.pins
    where
      by : (p : Part) → f.part ≡ p → TakesPins (take k flats) p (length f.ins) → part_gates (λ q. numbered_gates (flat_at (take k flats) q)) (λ q. (flat_at (take k flats) q).inputs) from f ≡ part_gates gates_by (λ q. (numbers_at ns q).inputs) from f
      by (AGate kind) e pins =
          of-gate (λ q. numbered_gates (flat_at (take k flats) q)) (λ q. (flat_at (take k flats) q).inputs) from f kind e
          ∙ sym (of-gate gates_by (λ q. (numbers_at ns q).inputs) from f kind e)
      by (AModule q) e pins =
          let lt : q < k = long-take flats k q pins.0 in
          of-module (λ q. numbered_gates (flat_at (take k flats) q)) (λ q. (flat_at (take k flats) q).inputs) from f q e
          ∙ ap (λ n. map (placed_gate n from f.first f.ins) (numbered_gates (flat_at (take k flats) q))) (inputs-before k q l lt)
          ∙ ap (λ g. map (placed_gate (wiring_at ns q).inputs from f.first f.ins) (numbered_gates g)) (get-take flats k q no_flat lt)
          ∙ sym (of-module gates_by (λ q. (numbers_at ns q).inputs) from f q e)

  gates-all : (k : ℕ) → k < length ns → (from : ℕ) (fs : List Filled) → Each (IsPlaced (take k flats) (wiring_at ns k)) fs
      → flat_map (part_gates (λ q. numbered_gates (flat_at (take k flats) q)) (λ q. (flat_at (take k flats) q).inputs) from) fs ≡ flat_map (part_gates gates_by (λ q. (numbers_at ns q).inputs) from) fs
  gates-all k l from [] h = refl
  gates-all k l from (f ∷ fs) h =
      flat_map-cons (part_gates (λ q. numbered_gates (flat_at (take k flats) q)) (λ q. (flat_at (take k flats) q).inputs) from) f fs
      ∙ ap (λ x. x ++ flat_map (part_gates (λ q. numbered_gates (flat_at (take k flats) q)) (λ q. (flat_at (take k flats) q).inputs) from) fs) (gates-one k l from f h.0)
      ∙ ap (λ x. part_gates gates_by (λ q. (numbers_at ns q).inputs) from f ++ x) (gates-all k l from fs h.1)
      ∙ sym (flat_map-cons (part_gates gates_by (λ q. (numbers_at ns q).inputs) from) f fs)

  pub are-gates : AreGates ns gates_by
  are-gates k l =
      (are.each k l).gates
      ∙ ap (λ from. flat_map (part_gates (λ q. numbered_gates (flat_at (take k flats) q)) (λ q. (flat_at (take k flats) q).inputs) from) (wiring_at ns k).filled) (sym (are.each k l).inputs)
      ∙ gates-all k l (wiring_at ns k).inputs (wiring_at ns k).filled (are.each k l).parts

-- ---- the first frame

numbers-long : (a n : ℕ) → length (numbers_from a n) ≡ n
numbers-long a zero = refl
numbers-long a (suc n) = ap suc (numbers-long (suc a) n)

numbers-get : (a n k : ℕ) → k < n → get_or (numbers_from a n) k 0 ≡ a + k
numbers-get a zero k l = absurd (omega (arith, l))
numbers-get a (suc n) zero l = omega arith
numbers-get a (suc n) (suc k) l = numbers-get (suc a) n k (omega (arith, l)) ∙ omega arith

numbers-low : (a n b : ℕ) → a + n ≤ b → Each (λ x. x < b) (numbers_from a n)
numbers-low a zero b l = tt
numbers-low a (suc n) b l = (omega (arith, l), numbers-low (suc a) n b (omega (arith, l)))

numbers-next : (a n : ℕ) → numbers_from a (suc n) ≡ numbers_from a n ++ (a + n) ∷ []
numbers-next a zero = let e : a ≡ a + 0 = omega arith in ap (λ x. x ∷ []) e
numbers-next a (suc n) =
    let e : suc a + n ≡ a + suc n = omega arith in
    ap (λ l. a ∷ l) (numbers-next (suc a) n) ∙ ap (λ x. a ∷ numbers_from (suc a) n ++ x ∷ []) e

pub numbers-last : (n : ℕ) → numbers (suc n) ≡ numbers n ++ n ∷ []
numbers-last n = let e : 0 + n ≡ n = omega arith in numbers-next 0 n ∙ ap (λ x. numbers n ++ x ∷ []) e

lt-test : (a b : ℕ) → a < b → nat_lt a b ≡ true
lt-test a b l = grind (arith, nat_tests)

ge-test : (a b : ℕ) → b ≤ a → nat_lt a b ≡ false
ge-test a b l = grind (arith, nat_tests)

module _ (ns : List Wiring) (m : ℕ) where
  net-same : (x : ℕ) → whole_net (numbers_at ns) (wiring_at ns m).inputs (first_frame ns m) x ≡ x
  net-same x = elim (cases_lt x (wiring_at ns m).inputs) [
    | inl lt ↦
        let b : nat_lt x (wiring_at ns m).inputs ≡ true = lt-test x (wiring_at ns m).inputs lt in
        rw b (numbers-get 0 (wiring_at ns m).inputs x lt ∙ omega arith)
    | inr ge ↦
        let b : nat_lt x (wiring_at ns m).inputs ≡ false = ge-test x (wiring_at ns m).inputs ge in
        rw b (omega (arith, ge))
  ]

  nets-same : (xs : List ℕ) → map (whole_net (numbers_at ns) (wiring_at ns m).inputs (first_frame ns m)) xs ≡ xs
  nets-same [] = refl
  nets-same (x ∷ xs) = λ j. net-same x j ∷ nets-same xs j

  gates-same : (gs : List Numbered) → map (whole_gate (numbers_at ns) (wiring_at ns m).inputs (first_frame ns m)) gs ≡ gs
  gates-same [] = refl
  gates-same (g ∷ gs) = λ j. (g.0, nets-same g.1 j) ∷ gates-same gs j

  -- all gates to come are the module's
  pub first-gates : (gates : ℕ → List Numbered) → AreGates ns gates → m < length ns → all_gates ns gates (wiring_at ns m).inputs [] (first_frame ns m ∷ []) ≡ gates_at (wiring_at ns m).inputs (gates m)
  first-gates gates are l =
      let e : (wiring_at ns m).inputs + 0 ≡ (wiring_at ns m).inputs = omega arith in
      ap (gates_at ((wiring_at ns m).inputs + 0)) (ap (map (whole_gate (numbers_at ns) (wiring_at ns m).inputs (first_frame ns m))) (sym (are m l)) ∙ gates-same (gates m))
      ∙ ap (λ a. gates_at a (gates m)) e

at-long : (a : ℕ) (gs : List Numbered) → length (gates_at a gs) ≡ length gs
at-long a [] = refl
at-long a (g ∷ gs) = ap suc (at-long (suc a) gs)

pub first-walk : (flats : List Flat) (ns : List Wiring) (m : ℕ) → AreNetlists flats ns → m < length ns → (wiring_at ns m).inputs + (wiring_at ns m).gates < 2 ^ 32
    → IsWalk ns (wiring_at ns m).inputs (wiring_at ns m).gates [] (first_frame ns m ∷ [])
first-walk flats ns m are l small = record {
  sized = are-sized flats ns are;
  small = small;
  frames = (
    record {
      known = l;
      long = numbers-long 0 (wiring_at ns m).inputs;
      range = numbers-low 0 (wiring_at ns m).inputs ((wiring_at ns m).inputs + (wiring_at ns m).gates) (omega arith);
      within = omega arith;
      sized = are-sized flats ns are m l;
    },
    tt,
  );
  many = (
    gates_by flats ns are,
    (
      are-gates flats ns are,
      ap length (first-gates ns m (gates_by flats ns are) (are-gates flats ns are) l)
          ∙ at-long (wiring_at ns m).inputs (gates_by flats ns are m)
          ∙ long-map (λ (g : GateKind × List Net). (g.0, map (net_number (flat_at flats m).inputs) g.1)) (flat_at flats m).gates
          ∙ sym (are.each m l).count,
    ),
  );
}

-- ---- the circuit

from-at : (n a : ℕ) (gs : List (GateKind × List Net)) → gates_at a (map (λ g. (g.0, map (net_number n) g.1)) gs) ≡ gates_from n a gs
from-at n a [] = refl
from-at n a (g ∷ gs) = ap (λ l. record { kind = g.0; ins = map (net_number n) g.1; out = a } ∷ l) (from-at n (suc a) gs)

pub circuit-is : (flats : List Flat) (ns : List Wiring) (m : ℕ) → AreNetlists flats ns → m < length ns → (i nets : ℕ) (outs : List ℕ) (gs : List Gate) → i ≡ (wiring_at ns m).inputs → nets ≡ (wiring_at ns m).inputs + (wiring_at ns m).gates
    → outs ≡ (wiring_at ns m).outputs → gs ≡ gates_at (wiring_at ns m).inputs (numbered_gates (flat_at flats m)) → record { inputs = i; nets = nets; outputs = outs; gates = gs } ≡ circuit_of (flat_at flats m)
circuit-is flats ns m are l i nets outs gs ei en eo eg =
    let k = are.each m l in
    let f = flat_at flats m in
    ap (λ (x : ℕ). record { inputs = x; nets = nets; outputs = outs; gates = gs }) (ei ∙ k.inputs)
    ∙ ap (λ (x : ℕ). record { inputs = f.inputs; nets = x; outputs = outs; gates = gs }) (en ∙ ap (λ x. x + (wiring_at ns m).gates) k.inputs ∙ ap (λ x. f.inputs + x) k.count)
    ∙ ap (λ (x : List ℕ). record { inputs = f.inputs; nets = f.inputs + length f.gates; outputs = x; gates = gs }) (eo ∙ k.outputs)
    ∙ ap (λ (x : List Gate). record { inputs = f.inputs; nets = f.inputs + length f.gates; outputs = map (net_number f.inputs) f.outputs; gates = x }) (eg ∙ ap (λ x. gates_at x (numbered_gates f)) k.inputs ∙ from-at f.inputs f.inputs f.gates)

-- the same of what a walk holds
pub walk-first : (ns : List Wiring) (m i c : ℕ) (gs : List Gate) (ts : List Frame) → i ≡ (wiring_at ns m).inputs → c ≡ (wiring_at ns m).gates → gs ≡ [] → ts ≡ first_frame ns m ∷ []
    → IsWalk ns (wiring_at ns m).inputs (wiring_at ns m).gates [] (first_frame ns m ∷ []) → IsWalk ns i c gs ts
walk-first ns m i c gs ts ei ec eg et w =
    subst (λ x. IsWalk ns x c gs ts) (sym ei) (subst (λ x. IsWalk ns (wiring_at ns m).inputs x gs ts) (sym ec)
    (subst (λ x. IsWalk ns (wiring_at ns m).inputs (wiring_at ns m).gates x ts) (sym eg) (subst (IsWalk ns (wiring_at ns m).inputs (wiring_at ns m).gates []) (sym et) w)))

pub all-first : (ns : List Wiring) (m i : ℕ) (gs : List Gate) (ts : List Frame) → i ≡ (wiring_at ns m).inputs → gs ≡ [] → ts ≡ first_frame ns m ∷ []
    → (gates : ℕ → List Numbered) → AreGates ns gates → m < length ns → all_gates ns gates i gs ts ≡ gates_at (wiring_at ns m).inputs (gates m)
all-first ns m i gs ts ei eg et gates are l =
    ap (λ x. all_gates ns gates x gs ts) ei
    ∙ ap (λ x. all_gates ns gates (wiring_at ns m).inputs x ts) eg
    ∙ ap (all_gates ns gates (wiring_at ns m).inputs []) et
    ∙ first-gates ns m gates are l
