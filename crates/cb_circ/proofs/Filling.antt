-- The netlist of an accepted module.
use Rattle.std.proofs.Common.{◌≡◌, ℕ, zero, suc, ◌+◌, ◌<◌, ◌≤◌, ◌^◌, Bool, true, false, not, ◌==◌, if◌then◌else◌, min, List, [], ◌∷◌, ◌++◌, map, take, drop, length, get_or, slice_get, Option, Some, None, bytes_eq, flat_map, replicate, Contains, refl, sym, ◌∙◌, ap, subst, arith, append-nil, append_assoc, length-append, add-one, drop-cons}
use Rattle.std.proofs.lemmas.Bool.{and_parts}
use Rattle.std.proofs.lemmas.Option.{same_Some, slice_get_within, slice_get-get_or}
use Rattle.std.proofs.lemmas.List.{length-map, map-append, length-replicate, drop_all}
use Rattle.std.proofs.lemmas.List.Concat.{flat_map-cons}
use Rattle.std.proofs.lemmas.Grind.{flat_map-append}
use Rattle.cb_model.specs.declared.GateKind.{GateKind}
use Rattle.cb_model.specs.Bits.{Each, numbers, numbers_from}
use Rattle.cb_model.specs.Text.{Text}
use Rattle.cb_model.specs.Circuits.{Net, In, Own, Flat, Instance, Module, Placed, gate_flat, gate_names, kind_named, pins_of, flat_named, part_or, part_of, placed_from, own_gates, outward, net_number, flat}
use Rattle.cb_model.specs.Facts.{Part, Pins, nets, is_part, pins_fit, instances_fault, ModuleRefusal}
use Rattle.cb_model.specs.Order.{IsOrder}
use Rattle.cb_model.specs.Carry.{Carries, input, gate, AllCarry, more, IsCarrying, NetIn}
use Rattle.cb_facts.specs.Reads.{AreNumbers}
use Rattle.cb_facts.proofs.Steps.{numbers-long}
use Rattle.cb_facts.specs.declared.modules.RawModule.{RawModule}
use Rattle.cb_order.proofs.Orders.{cons-here, cons-later}
use Rattle.cb_flat.specs.Walk.{Filled, Numbered, part_gates}
use Rattle.cb_flat.specs.Drivers.{numbered_gates, IsPart, a_gate, a_module}
use Rattle.cb_flat.specs.Flatten.{placed_of}
use Rattle.cb_flat.specs.Acyclic.{instance_graph}
use Rattle.cb_flat.proofs.Drivers.{instance-right}
use Rattle.cb_flat.proofs.Accepted.{IsAccepted, placed-instance, placed-there, placed-fits, pin-is-net}
use Rattle.cb_netlist.specs.declared.netlist.Part as circ
use Rattle.cb_netlist.specs.declared.netlist.Part.TheVariants as part
use Rattle.cb_netlist.specs.Wiring.{Wiring, bare_wiring, with_instance}
use Rattle.cb_netlist.specs.Parts.{part_is, filled_is}
use Rattle.cb_netlist.specs.Netlists.{flat_at, gates_in, TakesPins, IsPlaced}
use Rattle.cb_circ.specs.declared.checks.Found.{Found}
use Rattle.cb_circ.specs.View.{module_view, IsWell}
use Rattle.cb_circ.specs.Kept.{HasPins}
use Rattle.cb_circ.specs.Parts.{IsNamed, AreNamed, gates_of, kind_gates}
use Rattle.cb_circ.specs.Driving.{driver_of, AreDrivers, IsTable, ArePlaced, AreFilled, IsChecked, values_at, part_flat, placed_outs, with_outputs}
use Rattle.cb_circ.proofs.Names.{no_instance, instance-at}
use Rattle.cb_circ.proofs.Driving.{driven-all, number-in, output-is-net}
use Rattle.cb_circ.proofs.Refusing.{kind-long}

-- ---- the parts of instances

pub named-at : (fs : List Flat) (is : List Instance) (ps : List circ.Part) (k : ℕ) (d : circ.Part) → AreNamed fs is ps → k < length is → IsNamed fs (get_or is k no_instance).part (get_or ps k d)
named-at fs [] [] k d a l = absurd (omega (arith, l))
named-at fs [] (p ∷ ps) k d a l = absurd a
named-at fs (i ∷ is) [] k d a l = absurd a
named-at fs (i ∷ is) (p ∷ ps) zero d a l = a.0
named-at fs (i ∷ is) (p ∷ ps) (suc k) d a l = named-at fs is ps k d a.1 (omega (arith, l))

pub named-long : (fs : List Flat) (is : List Instance) (ps : List circ.Part) → AreNamed fs is ps → length ps ≡ length is
named-long fs [] [] a = refl
named-long fs [] (p ∷ ps) a = absurd a
named-long fs (i ∷ is) [] a = absurd a
named-long fs (i ∷ is) (p ∷ ps) a = ap suc (named-long fs is ps a.1)

pub named-push : (fs : List Flat) (is : List Instance) (ps : List circ.Part) (i : Instance) (p : circ.Part) → AreNamed fs is ps → IsNamed fs i.part p → AreNamed fs (is ++ i ∷ []) (ps ++ p ∷ [])
named-push fs [] [] i p a n = (n, tt)
named-push fs [] (q ∷ ps) i p a n = absurd a
named-push fs (j ∷ is) [] i p a n = absurd a
named-push fs (j ∷ is) (q ∷ ps) i p a n = (a.0, named-push fs is ps i p a.1 n)

named-flat : (fs : List Flat) (x : Text) (p : circ.Part) (n : ℕ) → IsNamed fs x p → part_of fs x n ≡ part_flat fs p n
named-flat fs x (part.Gate kind) n h = ap (λ o. part_or o fs x n) h
named-flat fs x (part.Module q) n h = ap (λ o. part_or o fs x n) h.0 ∙ h.2

pub named-gates : (fs : List Flat) (x : Text) (p : circ.Part) → IsNamed fs x p → gates_of fs x ≡ gates_in fs (part_is p)
named-gates fs x (part.Gate kind) h = ap (λ o. kind_gates fs o x) h
named-gates fs x (part.Module q) h = ap (λ o. kind_gates fs o x) h.0 ∙ ap (λ (f : Flat). length f.gates) h.2

flat-gates : (fs : List Flat) (p : circ.Part) (n : ℕ) → length (part_flat fs p n).gates ≡ gates_in fs (part_is p)
flat-gates fs (part.Gate kind) n = refl
flat-gates fs (part.Module q) n = refl

-- ---- an instance by its place

get-mapped : {X : Type 0} (f : X → ℕ) (xs : List X) (k d : ℕ) (x : X) → slice_get xs k ≡ Some x → get_or (map f xs) k d ≡ f x
get-mapped f [] k d x e = absurd (let l : k < 0 = slice_get_within [] k x e in omega (arith, l))
get-mapped f (y ∷ xs) zero d x e = ap f (same_Some y x e)
get-mapped f (y ∷ xs) (suc k) d x e = get-mapped f xs k d x e

pub record Here (fs : List Flat) (m : Module) (ns : List Text) (k : ℕ) (part : circ.Part) (first : ℕ) (ins outs : List ℕ) : Type 0 where
  pub p : Placed
  pub at : slice_get (placed_of fs m) k ≡ Some p
  pub named : IsNamed fs p.instance.part part
  pub first_is : first ≡ p.first
  pub takes : AreNumbers ns p.instance.ins ins
  pub drives : AreNumbers ns p.instance.outs outs

pub here : (fs : List Flat) (r : RawModule) → IsWell r → (found : Found) → ArePlaced fs (module_view r) found → (k : ℕ) → k < length (module_view r).instances → (part : circ.Part) → part ≡ get_or found.parts.items k part
    → (first : ℕ) → first ≡ get_or found.firsts.items k 0 → (ins outs : List ℕ) → ins ≡ get_or r.ins k [] → outs ≡ get_or r.outs k [] → Here fs (module_view r) r.nets k part first ins outs
here fs r w found placed k l part pe first fe ins outs ie oe =
    let m = module_view r in
    let p = placed-there (part_of fs) 0 m.instances k l in
    let i = (placed-instance (part_of fs) 0 m.instances k p.0 p.1).0 in
    let g : get_or m.instances k no_instance ≡ p.0.instance = same_Some (get_or m.instances k no_instance) p.0.instance (sym (slice_get-get_or m.instances k no_instance l) ∙ i) in
    let fit = instance-at r.nets w.fit k l in
    record {
      p = p.0;
      at = p.1;
      named = subst (λ (z : Instance). IsNamed fs z.part part) g (subst (IsNamed fs (get_or m.instances k no_instance).part) (sym pe) (named-at fs m.instances found.parts.items k part placed.named l));
      first_is = fe ∙ ap (λ (xs : List ℕ). get_or xs k 0) placed.first ∙ get-mapped (λ (q : Placed). q.first) (placed_of fs m) k 0 p.0 p.1;
      takes = subst (λ (z : Instance). AreNumbers r.nets z.ins ins) g (subst (AreNumbers r.nets (get_or m.instances k no_instance).ins) (sym ie) fit.takes);
      drives = subst (λ (z : Instance). AreNumbers r.nets z.outs outs) g (subst (AreNumbers r.nets (get_or m.instances k no_instance).outs) (sym oe) fit.drives);
    }

placed-within : (part : Text → ℕ → Flat) (d : Text → Net) (at : ℕ) (is : List Instance) (k : ℕ) (p : Placed) → slice_get (placed_from part at is) k ≡ Some p → p.first + length p.flat.gates ≤ at + length (flat_map (own_gates d) (placed_from part at is))
placed-within part d at [] k p e = absurd (let l : k < 0 = slice_get_within [] k p e in omega (arith, l))
placed-within part d at (i ∷ is) k p e = step k (λ j. placed-within part d (at + length (part i.part (length i.ins)).gates) is j p) e
  where
    o : Placed
    o = record { instance = i; flat = part i.part (length i.ins); first = at }

    rest : List Placed
    rest = placed_from part (at + length o.flat.gates) is

    long : length (flat_map (own_gates d) (o ∷ rest)) ≡ length o.flat.gates + length (flat_map (own_gates d) rest)
    long =
        let a = ap length (flat_map-cons (own_gates d) o rest) in
        let b = length-append (own_gates d o) (flat_map (own_gates d) rest) in
        let c : length (own_gates d o) ≡ length o.flat.gates = length-map o.flat.gates (λ (g : GateKind × List Net). (g.0, map (outward o d) g.1)) in
        omega (arith, a, b, c)

    step : (k : ℕ) → ((j : ℕ) → slice_get rest j ≡ Some p → p.first + length p.flat.gates ≤ at + length o.flat.gates + length (flat_map (own_gates d) rest)) → slice_get (o ∷ rest) k ≡ Some p → p.first + length p.flat.gates ≤ at + length (flat_map (own_gates d) (o ∷ rest))
    step zero f e = let q = ap (λ (z : Placed). z.first) (same_Some o p e) in let g = ap (λ (z : Placed). length z.flat.gates) (same_Some o p e) in omega (arith, long, q, g)
    step (suc k) f e = let r = f k e in omega (arith, long, r)

-- the pins of a flattened module's gates are nets of its own
pub carried-nets : (f : Flat) → IsCarrying f → (i : ℕ) (g : GateKind × List Net) → slice_get f.gates i ≡ Some g → Each (NetIn f) g.1
carried-nets f c i g e =
    let zs : List Bool = replicate f.inputs false in
    let t = c.total zs (length-replicate f.inputs false) i (slice_get_within f.gates i g e) in
    from zs (length-replicate f.inputs false) t.0 t.1
  where
    net : (zs : List Bool) → length zs ≡ f.inputs → (n : Net) (b : Bool) → Carries f zs n b → NetIn f n
    net zs w (In j) b (input l e) = omega (arith, l, w)
    net zs w (Own j) b (gate g bs at all e) = slice_get_within f.gates j g at

    all-nets : (zs : List Bool) → length zs ≡ f.inputs → (ns : List Net) (bs : List Bool) → AllCarry f zs ns bs → Each (NetIn f) ns
    all-nets zs w [] bs c = tt
    all-nets zs w (n ∷ ns) [] c = elim c [ ]
    all-nets zs w (n ∷ ns) (b ∷ bs) (more c cs) = (net zs w n b c, all-nets zs w ns bs cs)

    from : (zs : List Bool) → length zs ≡ f.inputs → (b : Bool) → Carries f zs (Own i) b → Each (NetIn f) g.1
    from zs w b (gate g2 bs at all eq) = subst (λ (z : GateKind × List Net). Each (NetIn f) z.1) (same_Some g2 g (sym at ∙ e)) (all-nets zs w g2.1 bs all)

module _ (fs : List Flat) (m : Module) (a : IsAccepted fs m) (ns : List Text) (k : ℕ) (pt : circ.Part) (first : ℕ) (ins outs : List ℕ) (h : Here fs m ns k pt first ins outs) where
  abbrev number : Text → ℕ
  number x = net_number (length m.inputs) (driver_of fs m x)

  pub flat-is : h.p.flat ≡ part_flat fs pt (length h.p.instance.ins)
  flat-is = (placed-instance (part_of fs) 0 m.instances k h.p h.at).1 ∙ named-flat fs h.p.instance.part pt (length h.p.instance.ins) h.named

  pub ins-long : length ins ≡ length h.p.instance.ins
  ins-long = numbers-long ns h.p.instance.ins ins h.takes

  pub outs-long : length outs ≡ length h.p.instance.outs
  outs-long = numbers-long ns h.p.instance.outs outs h.drives

  pub takes-pins : (n : ℕ) → n ≡ length ins → TakesPins fs (part_is pt) n
  takes-pins n e = subst (TakesPins fs (part_is pt)) (sym (e ∙ ins-long)) (from pt h.named flat-is)
    where
      fits : h.p.flat.inputs ≡ length h.p.instance.ins
      fits = (placed-fits fs m a.fit a.driven a.acyclic k h.p h.at).1

      from : (q : circ.Part) → IsNamed fs h.p.instance.part q → h.p.flat ≡ part_flat fs q (length h.p.instance.ins) → TakesPins fs (part_is q) (length h.p.instance.ins)
      from (part.Gate kind) w e = tt
      from (part.Module q) w e = (w.1, sym fits ∙ ap (λ (f : Flat). f.inputs) e)

  pub gates-within : first + gates_in fs (part_is pt) ≤ length (flat fs m).gates
  gates-within =
      let w = placed-within (part_of fs) (driver_of fs m) 0 m.instances k h.p h.at in
      let g = ap (λ (f : Flat). length f.gates) flat-is ∙ flat-gates fs pt (length h.p.instance.ins) in
      omega (arith, w, g, h.first_is)

  pub outs-are : (pins : List ℕ) → length pins ≡ length ins → placed_outs (part_flat fs pt (length pins)) (length m.inputs) first pins ≡ placed_outs h.p.flat (length m.inputs) h.p.first pins
  outs-are pins e = ap (λ n. placed_outs (part_flat fs pt n) (length m.inputs) first pins) (e ∙ ins-long) ∙ ap (λ (f : Flat). placed_outs f (length m.inputs) first pins) (sym flat-is) ∙ ap (λ n. placed_outs h.p.flat (length m.inputs) n pins) h.first_is

  pub outs-enough : length (placed_outs h.p.flat (length m.inputs) h.p.first []) ≡ length outs
  outs-enough = length-map h.p.flat.outputs _ ∙ (placed-fits fs m a.fit a.driven a.acyclic k h.p h.at).2 ∙ sym outs-long

  -- ---- the instance in the netlist

  pub table-is : (ds : List ℕ) → IsTable fs m ns ds → (xs : List Text) (ks : List ℕ) → AreNumbers ns xs ks → ((x : Text) → Contains xs x → Contains (nets m) x) → values_at ds ks ≡ map number xs
  table-is ds t [] [] n f = refl
  table-is ds t [] (k ∷ ks) n f = absurd n
  table-is ds t (x ∷ xs) [] n f = absurd n
  table-is ds t (x ∷ xs) (k ∷ ks) n f = λ j. t.are x k (f x (cons-here x xs)) n.0 j ∷ table-is ds t xs ks n.1 (λ y c. f y (cons-later x xs y c)) j

  pins-are : (ds : List ℕ) → IsTable fs m ns ds → values_at ds ins ≡ map number h.p.instance.ins
  pins-are ds t = table-is ds t h.p.instance.ins ins h.takes (pin-is-net fs m a.fit a.driven a.acyclic k h.p.instance (placed-instance (part_of fs) 0 m.instances k h.p h.at).0)

  below-all : (xs : List Text) → ((x : Text) → Contains xs x → Contains (nets m) x) → Each (λ x. x < length m.inputs + length (flat fs m).gates) (map number xs)
  below-all [] f = tt
  below-all (x ∷ xs) f = (number-in fs m a x (f x (cons-here x xs)), below-all xs (λ y c. f y (cons-later x xs y c)))

  pub placed-there' : (ds pins : List ℕ) → IsTable fs m ns ds → pins ≡ values_at ds ins → IsPlaced fs (bare_wiring (length m.inputs) (length (flat fs m).gates)) (filled_is pt first pins)
  placed-there' ds pins t e = record {
    pins = takes-pins (length pins) (ap length e ∙ length-map ins (λ i. get_or ds i 0));
    nets = subst (Each (λ x. x < length m.inputs + length (flat fs m).gates)) (sym (e ∙ pins-are ds t)) (below-all h.p.instance.ins (pin-is-net fs m a.fit a.driven a.acyclic k h.p.instance (placed-instance (part_of fs) 0 m.instances k h.p h.at).0));
    within = gates-within;
  }

  pub gates-are : (ds pins : List ℕ) → IsTable fs m ns ds → pins ≡ values_at ds ins
      → map (λ g. (g.0, map (net_number (length m.inputs)) g.1)) (own_gates (driver_of fs m) h.p) ≡ part_gates (λ q. numbered_gates (flat_at fs q)) (λ q. (flat_at fs q).inputs) (length m.inputs) (filled_is pt first pins)
  gates-are ds pins t e =
      let fits = placed-fits fs m a.fit a.driven a.acyclic k h.p h.at in
      instance-right (flat_at fs) (length m.inputs) (driver_of fs m) h.p (filled_is pt first pins) (record {
        part = of pt flat-is;
        first = h.first_is;
        ins = e ∙ pins-are ds t;
        as_many = fits.1;
        nets = carried-nets h.p.flat fits.0;
      })
    where
      of : (q : circ.Part) → h.p.flat ≡ part_flat fs q (length h.p.instance.ins) → IsPart (flat_at fs) h.p (part_is q)
      of (part.Gate kind) e = a_gate e
      of (part.Module q) e = a_module e

  -- an instance without gates
  pub no-gates : gates_in fs (part_is pt) ≡ 0 → own_gates (driver_of fs m) h.p ≡ []
  no-gates z = none h.p.flat.gates (ap (λ (f : Flat). length f.gates) flat-is ∙ flat-gates fs pt (length h.p.instance.ins) ∙ z)
    where
      placed-gate : GateKind × List Net → GateKind × List Net
      placed-gate g = (g.0, map (outward h.p (driver_of fs m)) g.1)

      none : (gs : List (GateKind × List Net)) → length gs ≡ 0 → map placed-gate gs ≡ []
      none [] e = refl
      none (g ∷ gs) e = absurd (omega (arith, e))

-- ---- what is left of the instances

abbrev pub numbered : List Flat → Module → List Placed → List Numbered
numbered fs m ps = map (λ g. (g.0, map (net_number (length m.inputs)) g.1)) (flat_map (own_gates (driver_of fs m)) ps)

abbrev pub so_far : List Flat → Module → List Filled → List Numbered
so_far fs m xs = flat_map (part_gates (λ q. numbered_gates (flat_at fs q)) (λ q. (flat_at fs q).inputs) (length m.inputs)) xs

-- the gates of the instances in the netlist and of those that are left are the module's
pub record Filling (fs : List Flat) (m : Module) (old now : Wiring) (at : ℕ) : Type 0 where
  pub inputs : now.inputs ≡ old.inputs
  pub count : now.gates ≡ old.gates
  pub outputs : now.outputs ≡ old.outputs
  pub gates : numbered_gates (flat fs m) ≡ so_far fs m now.filled ++ numbered fs m (drop at (placed_of fs m))
  pub places : Each (IsPlaced fs (bare_wiring (length m.inputs) (length (flat fs m).gates))) now.filled

pub filling-none : (fs : List Flat) (m : Module) (w : Wiring) → w ≡ bare_wiring (length m.inputs) (length (flat fs m).gates) → Filling fs m w w 0
filling-none fs m w e = record {
  inputs = refl;
  count = refl;
  outputs = refl;
  gates = ap (λ (z : Wiring). so_far fs m z.filled ++ numbered fs m (placed_of fs m)) (sym e);
  places = subst (λ (z : Wiring). Each (IsPlaced fs (bare_wiring (length m.inputs) (length (flat fs m).gates))) z.filled) (sym e) tt;
}

drop-here : {X : Type 0} (xs : List X) (k : ℕ) (x : X) → slice_get xs k ≡ Some x → drop k xs ≡ x ∷ drop (k + 1) xs
drop-here xs k x e =
    let l = slice_get_within xs k x e in
    let g : get_or xs k x ≡ x = same_Some (get_or xs k x) x (sym (slice_get-get_or xs k x l) ∙ e) in
    rw add-one (drop-cons xs k x l ∙ ap (λ z. z ∷ drop (suc k) xs) g)

numbered-cons : (fs : List Flat) (m : Module) (p : Placed) (ps : List Placed) → numbered fs m (p ∷ ps) ≡ map (λ g. (g.0, map (net_number (length m.inputs)) g.1)) (own_gates (driver_of fs m) p) ++ numbered fs m ps
numbered-cons fs m p ps =
    ap (map (λ (g : GateKind × List Net). (g.0, map (net_number (length m.inputs)) g.1))) (flat_map-cons (own_gates (driver_of fs m)) p ps)
    ∙ map-append (λ (g : GateKind × List Net). (g.0, map (net_number (length m.inputs)) g.1)) (own_gates (driver_of fs m) p) (flat_map (own_gates (driver_of fs m)) ps)

-- a place stands on the numbers of inputs and gates alone
pub places-same : (fs : List Flat) (v w : Wiring) → v.inputs ≡ w.inputs → v.gates ≡ w.gates → (xs : List Filled) → Each (IsPlaced fs v) xs → Each (IsPlaced fs w) xs
places-same fs v w i g [] h = tt
places-same fs v w i g (x ∷ xs) h = (record { pins = h.0.pins; nets = subst (λ n. Each (λ x. x < n) x.ins) (let z : v.inputs + v.gates ≡ w.inputs + w.gates = omega (arith, i, g) in z) h.0.nets; within = (let z = h.0.within in omega (arith, z, g)) }, places-same fs v w i g xs h.1)

each-push : {X : Type 0} (P : X → Type 0) (xs : List X) (x : X) → Each P xs → P x → Each P (xs ++ x ∷ [])
each-push P [] x a i = (i, tt)
each-push P (y ∷ xs) x a i = (a.0, each-push P xs x a.1 i)

module _ (fs : List Flat) (m : Module) (a : IsAccepted fs m) (ns : List Text) (k : ℕ) (pt : circ.Part) (first : ℕ) (ins outs : List ℕ) (h : Here fs m ns k pt first ins outs) (old now : Wiring) (s : Filling fs m old now k) where
  -- the next instance has no gates
  pub filling-over : gates_in fs (part_is pt) ≡ 0 → Filling fs m old now (k + 1)
  filling-over z = record {
    inputs = s.inputs;
    count = s.count;
    outputs = s.outputs;
    gates = s.gates ∙ ap (λ (ps : List Placed). so_far fs m now.filled ++ numbered fs m ps) (drop-here (placed_of fs m) k h.p h.at) ∙ ap (λ (l : List Numbered). so_far fs m now.filled ++ l) (numbered-cons fs m h.p (drop (k + 1) (placed_of fs m))
        ∙ ap (λ (gs : List (GateKind × List Net)). map (λ (g : GateKind × List Net). (g.0, map (net_number (length m.inputs)) g.1)) gs ++ numbered fs m (drop (k + 1) (placed_of fs m))) (no-gates fs m a ns k pt first ins outs h z));
    places = s.places;
  }

  -- the next instance is put into the netlist
  pub filling-on : (ds pins : List ℕ) (new : Wiring) → IsTable fs m ns ds → pins ≡ values_at ds ins → new ≡ with_instance now (filled_is pt first pins) → Filling fs m old new (k + 1)
  filling-on ds pins new t e n = subst (λ (w : Wiring). Filling fs m old w (k + 1)) (sym n) (record {
    inputs = s.inputs;
    count = s.count;
    outputs = s.outputs;
    gates = s.gates ∙ ap (λ (ps : List Placed). so_far fs m now.filled ++ numbered fs m ps) (drop-here (placed_of fs m) k h.p h.at)
        ∙ ap (λ (l : List Numbered). so_far fs m now.filled ++ l) (numbered-cons fs m h.p (drop (k + 1) (placed_of fs m)) ∙ ap (λ (gs : List Numbered). gs ++ numbered fs m (drop (k + 1) (placed_of fs m))) (gates-are fs m a ns k pt first ins outs h ds pins t e))
        ∙ sym (append_assoc (so_far fs m now.filled) (one ds pins) (numbered fs m (drop (k + 1) (placed_of fs m))))
        ∙ ap (λ (l : List Numbered). l ++ numbered fs m (drop (k + 1) (placed_of fs m))) (sym (pushed ds pins));
    places = each-push (IsPlaced fs (bare_wiring (length m.inputs) (length (flat fs m).gates))) now.filled (filled_is pt first pins) s.places (placed-there' fs m a ns k pt first ins outs h ds pins t e);
  })
    where
      one : (ds pins : List ℕ) → List Numbered
      one ds pins = part_gates (λ q. numbered_gates (flat_at fs q)) (λ q. (flat_at fs q).inputs) (length m.inputs) (filled_is pt first pins)

      pushed : (ds pins : List ℕ) → so_far fs m (now.filled ++ filled_is pt first pins ∷ []) ≡ so_far fs m now.filled ++ one ds pins
      pushed ds pins =
          flat_map-append (part_gates (λ q. numbered_gates (flat_at fs q)) (λ q. (flat_at fs q).inputs) (length m.inputs)) now.filled (filled_is pt first pins ∷ [])
          ∙ ap (λ (l : List Numbered). so_far fs m now.filled ++ l) (flat_map-cons (part_gates (λ q. numbered_gates (flat_at fs q)) (λ q. (flat_at fs q).inputs) (length m.inputs)) (filled_is pt first pins) [] ∙ append-nil (one ds pins))

-- ---- the whole

pub table-from : (fs : List Flat) (m : Module) (a : IsAccepted fs m) (ns : List Text) (order ds : List ℕ) → IsOrder (instance_graph m) order → AreDrivers fs m ns order ds → IsTable fs m ns ds
table-from fs m a ns order ds o d = record { long = d.long; are = λ x n h q. d.are x n (driven-all fs m a order o x h) q }

pub filling-end : (fs : List Flat) (m : Module) (old now : Wiring) (k : ℕ) → old ≡ bare_wiring (length m.inputs) (length (flat fs m).gates) → length (placed_of fs m) ≤ k → Filling fs m old now k → AreFilled fs m old now
filling-end fs m old now k e l s = record {
  inputs = s.inputs;
  count = s.count;
  outputs = s.outputs;
  gates = s.gates ∙ ap (λ (ps : List Placed). so_far fs m now.filled ++ numbered fs m ps) (drop_all k (placed_of fs m) l) ∙ append-nil (so_far fs m now.filled);
  places = places-same fs (bare_wiring (length m.inputs) (length (flat fs m).gates)) now (sym (s.inputs ∙ ap (λ (w : Wiring). w.inputs) e)) (sym (s.count ∙ ap (λ (w : Wiring). w.gates) e)) now.filled s.places;
}

-- the netlist with its outputs
pub checked : (fs : List Flat) (r : RawModule) (w : IsWell r) (a : IsAccepted fs (module_view r)) (ds : List ℕ) (inputs gates : ℕ) (old mid new : Wiring) → ModuleRefusal fs (module_view r) None → IsTable fs (module_view r) r.nets ds
    → inputs ≡ length (module_view r).inputs → gates ≡ length (flat fs (module_view r)).gates → gates ≤ 1000000 → inputs + gates < 2 ^ 32
    → old ≡ bare_wiring inputs gates → AreFilled fs (module_view r) old mid → new ≡ with_outputs mid (values_at ds r.outputs.items) → IsChecked fs (module_view r) new
checked fs r w a ds inputs gates old mid new refusal t ie ge few small be f ne = subst (IsChecked fs (module_view r)) (sym ne) (record {
  accepted = refusal;
  netlist = record {
    inputs = mi ∙ ie;
    count = mg ∙ ge;
    gates = f.gates;
    parts = places-same fs mid (with_outputs mid (values_at ds r.outputs.items)) refl refl mid.filled f.places;
    outputs = ap (λ (xs : List ℕ). xs ++ values_at ds r.outputs.items) (f.outputs ∙ ap (λ (z : Wiring). z.outputs) be) ∙ outs r.outputs.items (module_view r).outputs w.drives (λ x h. output-is-net (module_view r) x h);
  };
  count = let z = mg in omega (arith, z, few);
  small = let y = mi in let z = mg in omega (arith, y, z, small);
})
  where
    mi : mid.inputs ≡ inputs
    mi = f.inputs ∙ ap (λ (z : Wiring). z.inputs) be

    mg : mid.gates ≡ gates
    mg = f.count ∙ ap (λ (z : Wiring). z.gates) be

    outs : (ks : List ℕ) (xs : List Text) → AreNumbers r.nets xs ks → ((x : Text) → Contains xs x → Contains (nets (module_view r)) x)
        → values_at ds ks ≡ map (net_number (length (module_view r).inputs)) (map (driver_of fs (module_view r)) xs)
    outs [] [] n h = refl
    outs [] (x ∷ xs) n h = absurd n
    outs (k ∷ ks) [] n h = absurd n
    outs (k ∷ ks) (x ∷ xs) n h = λ j. t.are x k (h x (cons-here x xs)) n.0 j ∷ outs ks xs n.1 (λ y c. h y (cons-later x xs y c)) j

-- ---- the pins of gates

gate-pins : (kind : GateKind) (n : ℕ) → pins_of kind n ≡ true → HasPins (gate_flat kind n)
gate-pins kind n e = (ap (pins_of kind) (length-map (numbers n) In ∙ from-long 0 n) ∙ e, tt)
  where
    from-long : (at n : ℕ) → length (numbers_from at n) ≡ n
    from-long at zero = refl
    from-long at (suc n) = ap suc (from-long (suc at) n)

named-pins : (fs : List Flat) (x : Text) → Each HasPins fs → HasPins (flat_named fs x)
named-pins [] x h = tt
named-pins (f ∷ fs) x h = step (bytes_eq f.name x) h.0 (named-pins fs x h.1)
  where
    step : (b : Bool) → HasPins f → HasPins (flat_named fs x) → HasPins (if b then f else flat_named fs x)
    step true p q = p
    step false p q = q

part-pins : (fs : List Flat) (i : Instance) (o : Option GateKind) → Each HasPins fs → pins_fit fs o i ≡ true → HasPins (part_or o fs i.part (length i.ins))
part-pins fs i (Some kind) h e = gate-pins kind (length i.ins) (and_parts (pins_of kind (length i.ins)) (length i.outs == 1) e).0
part-pins fs i None h e = named-pins fs i.part h

abbrev HavePins : List (GateKind × List Net) → Type 0
HavePins gs = Each (λ (g : GateKind × List Net). pins_of g.0 (length g.1) ≡ true) gs

own-pins : (d : Text → Net) (p : Placed) (gs : List (GateKind × List Net)) → HavePins gs → HavePins (map (λ (g : GateKind × List Net). (g.0, map (outward p d) g.1)) gs)
own-pins d p [] h = tt
own-pins d p (g ∷ gs) h = (ap (pins_of g.0) (length-map g.1 (outward p d)) ∙ h.0, own-pins d p gs h.1)

both-pins : (xs ys : List (GateKind × List Net)) → HavePins xs → HavePins ys → HavePins (xs ++ ys)
both-pins [] ys a b = b
both-pins (x ∷ xs) ys a b = (a.0, both-pins xs ys a.1 b)

all-pins : (fs : List Flat) (d : Text → Net) (at : ℕ) (is : List Instance) → Each HasPins fs → instances_fault fs is ≡ None → HavePins (flat_map (own_gates d) (placed_from (part_of fs) at is))
all-pins fs d at [] h e = tt
all-pins fs d at (i ∷ is) h e = from (is_part fs i.part) (pins_fit fs (kind_named gate_names i.part) i) refl e (all-pins fs d (at + length (part_of fs i.part (length i.ins)).gates) is h)
  where
    o : Placed
    o = record { instance = i; flat = part_of fs i.part (length i.ins); first = at }

    rest : List Placed
    rest = placed_from (part_of fs) (at + length (part_of fs i.part (length i.ins)).gates) is

    from : (a b : Bool) → pins_fit fs (kind_named gate_names i.part) i ≡ b → (if not a then Some Part else (if not b then Some Pins else instances_fault fs is)) ≡ None → (instances_fault fs is ≡ None → HavePins (flat_map (own_gates d) rest)) → HavePins (flat_map (own_gates d) (o ∷ rest))
    from false b q e f = absurd (cc)
    from true false q e f = absurd (cc)
    from true true q e f =
        subst HavePins (sym (flat_map-cons (own_gates d) o rest)) (both-pins (own_gates d o) (flat_map (own_gates d) rest) (own-pins d o o.flat.gates (part-pins fs i (kind_named gate_names i.part) h q)) (f e))

pub flat-pins : (fs : List Flat) (m : Module) → Each HasPins fs → instances_fault fs m.instances ≡ None → HasPins (flat fs m)
flat-pins fs m h e = all-pins fs (driver_of fs m) 0 m.instances h e

-- ---- the parts and first gates so far

take-suc : {X : Type 0} (xs : List X) (i : ℕ) (d : X) → i < length xs → take (suc i) xs ≡ take i xs ++ get_or xs i d ∷ []
take-suc [] i d l = absurd (omega (arith, l))
take-suc (x ∷ xs) zero d l = refl
take-suc {X = X} (x ∷ xs) (suc i) d l = ap (λ (ys : List X). x ∷ ys) (take-suc xs i d (omega (arith, l)))

pub take-next : {X : Type 0} (xs : List X) (i : ℕ) (d : X) → i < length xs → take (i + 1) xs ≡ take i xs ++ get_or xs i d ∷ []
take-next xs i d l = rw add-one (take-suc xs i d l)

pub named-on : (fs : List Flat) (is : List Instance) (k : ℕ) (ps new : List circ.Part) (p : circ.Part) (x : Text) → k < length is → (get_or is k no_instance).part ≡ x → IsNamed fs x p → new ≡ ps ++ p ∷ [] → AreNamed fs (take k is) ps → AreNamed fs (take (k + 1) is) new
named-on fs is k ps new p x l e n q a =
    subst (AreNamed fs (take (k + 1) is)) (sym q) (subst (λ (js : List Instance). AreNamed fs js (ps ++ p ∷ [])) (sym (take-next is k no_instance l)) (named-push fs (take k is) ps (get_or is k no_instance) p a (subst (λ (y : Text). IsNamed fs y p) (sym e) n)))

abbrev pub firsts_of : List Placed → List ℕ
firsts_of ps = map (λ p. p.first) ps

pub firsts-on : (fs : List Flat) (i : Instance) (is rest : List Instance) (firsts new all : List ℕ) (n n2 g : ℕ) → is ≡ i ∷ rest → gates_of fs i.part ≡ g → n2 ≡ min (n + g) 1000001 → new ≡ firsts ++ n ∷ []
    → (n ≤ 1000000 → firsts ++ firsts_of (placed_from (part_of fs) n is) ≡ all) → n2 ≤ 1000000 → new ++ firsts_of (placed_from (part_of fs) n2 rest) ≡ all
firsts-on fs i is rest firsts new all n n2 g d ge e q h l =
    let w = kind-long fs (kind_named gate_names i.part) i.part (length i.ins) in
    let s : n + length (part_of fs i.part (length i.ins)).gates ≡ n2 = omega (arith, w, ge, e, l) in
    ap (λ (xs : List ℕ). xs ++ firsts_of (placed_from (part_of fs) n2 rest)) q ∙ append_assoc firsts (n ∷ []) (firsts_of (placed_from (part_of fs) n2 rest)) ∙ ap (λ k. firsts ++ n ∷ firsts_of (placed_from (part_of fs) k rest)) (sym s)
    ∙ ap (λ (js : List Instance). firsts ++ firsts_of (placed_from (part_of fs) n js)) (sym d) ∙ h (omega (arith, e, l))
