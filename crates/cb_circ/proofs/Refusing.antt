-- The parts of instances, and what a module is refused with.
use Rattle.std.proofs.Common.{◌≡◌, ◌⊎◌, inl, inr, ℕ, zero, suc, ◌+◌, ◌<◌, ◌≤◌, Bool, true, false, not, ◌&&◌, ◌||◌, ◌==◌, nat_lt, min, List, [], ◌∷◌, ◌++◌, map, length, take, get_or, flat_map, Option, Some, None, is_some, MatchBool, MatchOption, position, bytes_eq, eq-eqb, refl, sym, ◌∙◌, ap, subst, arith, append_assoc, append-nil, length-append}
use Rattle.std.specs.Bool.{if◌then◌else◌}
use Rattle.std.specs.List.{list_any}
use Rattle.std.proofs.lemmas.Bool.{true≢false, lt-ltb, le-ltb}
use Rattle.std.proofs.lemmas.Bool.Decides.{nat_tests}
use Rattle.std.proofs.lemmas.Option.{same_Some}
use Rattle.std.proofs.lemmas.List.{length-map, map-append}
use Rattle.std.proofs.lemmas.List.Concat.{flat_map-cons}
use Rattle.cb_model.specs.declared.GateKind.{GateKind}
use Rattle.cb_model.specs.Text.{Text}
use Rattle.cb_model.specs.Circuits.{Net, Flat, Module, Instance, Placed, gate_names, kind_named, no_flat, flat_named, part_or, part_of, placed_from, outward, own_gates, driver_within, flat, flats}
use Rattle.cb_model.specs.Facts.{Circuits, Spec, FactRefusal, Twice, Pins, Driven, Cycle, Part, Large, ModuleRefusal, HasCycle, all_driven_once, is_part, pins_fit, instances_fault}
use Rattle.cb_facts.specs.Ports.{spec_view}
use Rattle.cb_facts.proofs.Different.{eq-turned}
use Rattle.cb_flat.proofs.Places.{position-cons, here_or, position-map}
use Rattle.cb_circ.specs.declared.circuits.Entry.{Entry}
use Rattle.cb_circ.specs.declared.circuits.SpecEntry.{SpecEntry}
use Rattle.cb_circ.specs.At.{no_module, module_at}
use Rattle.cb_circ.specs.Kept.{IsEntry, AreEntries, IsKept}
use Rattle.cb_circ.specs.View.{modules_of, module_view, circuits_view, IsWell}
use Rattle.std.specs.Borrow.{Bor}
use Rattle.cb_facts.specs.declared.modules.RawModule.{RawModule}
use Rattle.cb_facts.specs.Modules.{texts}
use Rattle.cb_facts.proofs.Steps.{numbers-long}
use Rattle.cb_netlist.specs.declared.netlist.Part as circ
use Rattle.cb_netlist.specs.declared.netlist.Part.TheVariants as part
use Rattle.cb_circ.specs.Parts.{IsNamed, fits_kind, kind_gates, gates_of, all_gates}
use Rattle.cb_circ.proofs.Names.{instance-at, no_instance}
use Rattle.cb_circ.proofs.Marking.{lists-long}

-- ---- flattened modules by name

flats-named : (fs : List Flat) (ms : List Module) → map (λ (f : Flat). f.name) (flats fs ms) ≡ map (λ (f : Flat). f.name) fs ++ map (λ (m : Module). m.name) ms
flats-named fs [] = sym (append-nil (map (λ (f : Flat). f.name) fs))
flats-named fs (m ∷ ms) =
    flats-named (fs ++ flat fs m ∷ []) ms ∙ ap (λ (l : List Text). l ++ map (λ (m : Module). m.name) ms) (map-append (λ (f : Flat). f.name) fs (flat fs m ∷ [])) ∙ append_assoc (map (λ (f : Flat). f.name) fs) (m.name ∷ []) (map (λ (m : Module). m.name) ms)

pub names-are : (es : List Entry) → map (λ (e : Entry). e.raw.name.now) es ≡ map (λ (f : Flat). f.name) (flats [] (modules_of es))
names-are es = names es ∙ sym (flats-named [] (modules_of es))
  where
    names : (es : List Entry) → map (λ (e : Entry). e.raw.name.now) es ≡ map (λ (m : Module). m.name) (modules_of es)
    names [] = refl
    names (e ∷ es) = ap (λ (l : List Text). e.raw.name.now ∷ l) (names es)

position-turned : (x : Text) (fs : List Flat) → position (λ (f : Flat). bytes_eq x f.name) fs ≡ position (λ (f : Flat). bytes_eq f.name x) fs
position-turned x fs = λ i. position (λ (f : Flat). eq-turned x f.name i) fs

pub place-is : (x : Text) (es : List Entry) → position (bytes_eq x) (map (λ (e : Entry). e.raw.name.now) es) ≡ position (λ (f : Flat). bytes_eq f.name x) (flats [] (modules_of es))
place-is x es = ap (position (bytes_eq x)) (names-are es) ∙ position-map (bytes_eq x) (λ (f : Flat). f.name) (flats [] (modules_of es)) ∙ position-turned x (flats [] (modules_of es))

pub named-at : (fs : List Flat) (x : Text) (q : ℕ) → position (λ (f : Flat). bytes_eq f.name x) fs ≡ Some q → (flat_named fs x ≡ get_or fs q no_flat) × (q < length fs) × (list_any (λ (f : Flat). bytes_eq f.name x) fs ≡ true)
named-at [] x q e = absurd (cc)
named-at (f ∷ fs) x q e = step (bytes_eq f.name x) (position (λ (f : Flat). bytes_eq f.name x) fs) (named-at fs x) (sym (position-cons (λ (f : Flat). bytes_eq f.name x) f fs) ∙ e)
  where
    step : (b : Bool) (o : Option ℕ) → ((j : ℕ) → o ≡ Some j → (flat_named fs x ≡ get_or fs j no_flat) × (j < length fs) × (list_any (λ (f : Flat). bytes_eq f.name x) fs ≡ true)) → here_or b o ≡ Some q
        → ((if b then f else flat_named fs x) ≡ get_or (f ∷ fs) q no_flat) × (q < suc (length fs)) × ((b || list_any (λ (f : Flat). bytes_eq f.name x) fs) ≡ true)
    step true o g e = let z : 0 ≡ q = same_Some 0 q e in subst (λ j. (f ≡ get_or (f ∷ fs) j no_flat) × (j < suc (length fs)) × (true ≡ true)) z (refl, omega arith, refl)
    step false None g e = absurd (cc)
    step false (Some j) g e =
        let r = g j refl in
        let y : 1 + j ≡ q = same_Some (1 + j) q e in
        let z : suc j ≡ q = omega (arith, y) in
        subst (λ k. (flat_named fs x ≡ get_or (f ∷ fs) k no_flat) × (k < suc (length fs)) × (list_any (λ (f : Flat). bytes_eq f.name x) fs ≡ true)) z (r.0, omega (arith, r.1), r.2)

pub named-lost : (fs : List Flat) (x : Text) → position (λ (f : Flat). bytes_eq f.name x) fs ≡ None → list_any (λ (f : Flat). bytes_eq f.name x) fs ≡ false
named-lost [] x e = refl
named-lost (f ∷ fs) x e = step (bytes_eq f.name x) (position (λ (f : Flat). bytes_eq f.name x) fs) (named-lost fs x) (sym (position-cons (λ (f : Flat). bytes_eq f.name x) f fs) ∙ e)
  where
    step : (b : Bool) (o : Option ℕ) → (o ≡ None → list_any (λ (f : Flat). bytes_eq f.name x) fs ≡ false) → here_or b o ≡ None → (b || list_any (λ (f : Flat). bytes_eq f.name x) fs) ≡ false
    step true o g e = absurd (cc)
    step false None g e = g refl
    step false (Some j) g e = absurd (cc)

pub no-part : (fs : List Flat) (x : Text) → None ≡ kind_named gate_names x → position (λ (f : Flat). bytes_eq f.name x) fs ≡ None → is_part fs x ≡ false
no-part fs x k e = ap (λ o. is_some o || list_any (λ (f : Flat). bytes_eq f.name x) fs) (sym k) ∙ named-lost fs x e

pub gate-part : (fs : List Flat) (x : Text) (kind : GateKind) → Some kind ≡ kind_named gate_names x → is_part fs x ≡ true
gate-part fs x kind k = ap (λ o. is_some o || list_any (λ (f : Flat). bytes_eq f.name x) fs) (sym k)

pub module-part : (fs : List Flat) (x : Text) → None ≡ kind_named gate_names x → list_any (λ (f : Flat). bytes_eq f.name x) fs ≡ true → is_part fs x ≡ true
module-part fs x k e = ap (λ o. is_some o || list_any (λ (f : Flat). bytes_eq f.name x) fs) (sym k) ∙ e

pub entries-at : (fs : List Flat) (es : List Entry) → AreEntries fs es → (q : ℕ) (d : Entry) → q < length es → IsEntry (get_or fs q no_flat) (get_or es q d)
entries-at [] [] a q d l = absurd (omega (arith, l))
entries-at [] (e ∷ es) a q d l = absurd a
entries-at (f ∷ fs) [] a q d l = absurd a
entries-at (f ∷ fs) (e ∷ es) a zero d l = a.0
entries-at (f ∷ fs) (e ∷ es) a (suc q) d l = entries-at fs es a.1 q d (omega (arith, l))

pub entries-long : (fs : List Flat) (es : List Entry) → AreEntries fs es → length fs ≡ length es
entries-long [] [] a = refl
entries-long [] (e ∷ es) a = absurd a
entries-long (f ∷ fs) [] a = absurd a
entries-long (f ∷ fs) (e ∷ es) a = ap suc (entries-long fs es a.1)

-- ---- the faults of instances

fit-is : (fs : List Flat) (k : Option GateKind) (i : Instance) → pins_fit fs k i ≡ fits_kind fs k i.part (length i.ins) (length i.outs)
fit-is fs (Some kind) i = refl
fit-is fs None i = refl

abbrev fault-step : Bool → Bool → Option FactRefusal → Option FactRefusal
fault-step p f r = if not p then Some Part else (if not f then Some Pins else r)

-- an instance with the name of its part and its numbers of pins
pub record Shaped (i : Instance) (x : Text) (a b : ℕ) : Type 0 where
  pub named : i.part ≡ x
  pub ins : length i.ins ≡ a
  pub outs : length i.outs ≡ b

shape-fit : (fs : List Flat) (i : Instance) (x : Text) (a b : ℕ) → Shaped i x a b → pins_fit fs (kind_named gate_names i.part) i ≡ fits_kind fs (kind_named gate_names x) x a b
shape-fit fs i x a b s =
    fit-is fs (kind_named gate_names i.part) i ∙ ap (λ y. fits_kind fs (kind_named gate_names y) y (length i.ins) (length i.outs)) s.named
    ∙ ap (λ n. fits_kind fs (kind_named gate_names x) x n (length i.outs)) s.ins ∙ ap (fits_kind fs (kind_named gate_names x) x a) s.outs

pub no-such-part : (fs : List Flat) (i : Instance) (is : List Instance) (x : Text) (a b : ℕ) → Shaped i x a b → is_part fs x ≡ false → instances_fault fs (i ∷ is) ≡ Some Part
no-such-part fs i is x a b s e = ap (λ p. fault-step p (pins_fit fs (kind_named gate_names i.part) i) (instances_fault fs is)) (ap (is_part fs) s.named ∙ e)

pub wrong-pins : (fs : List Flat) (i : Instance) (is : List Instance) (x : Text) (a b : ℕ) → Shaped i x a b → is_part fs x ≡ true → fits_kind fs (kind_named gate_names x) x a b ≡ false → instances_fault fs (i ∷ is) ≡ Some Pins
wrong-pins fs i is x a b s e f =
    ap (λ p. fault-step p (pins_fit fs (kind_named gate_names i.part) i) (instances_fault fs is)) (ap (is_part fs) s.named ∙ e)
    ∙ ap (λ p. fault-step true p (instances_fault fs is)) (shape-fit fs i x a b s ∙ f)

pub no-fault : (fs : List Flat) (i : Instance) (is : List Instance) (x : Text) (a b : ℕ) → Shaped i x a b → is_part fs x ≡ true → fits_kind fs (kind_named gate_names x) x a b ≡ true → instances_fault fs (i ∷ is) ≡ instances_fault fs is
no-fault fs i is x a b s e f =
    ap (λ p. fault-step p (pins_fit fs (kind_named gate_names i.part) i) (instances_fault fs is)) (ap (is_part fs) s.named ∙ e)
    ∙ ap (λ p. fault-step true p (instances_fault fs is)) (shape-fit fs i x a b s ∙ f)

-- ---- how many gates

pub kind-long : (fs : List Flat) (k : Option GateKind) (x : Text) (n : ℕ) → length (part_or k fs x n).gates ≡ kind_gates fs k x
kind-long fs (Some kind) x n = refl
kind-long fs None x n = refl

placed-long : (fs : List Flat) (d : Text → Net) (at : ℕ) (is : List Instance) → length (flat_map (own_gates d) (placed_from (part_of fs) at is)) ≡ all_gates fs is
placed-long fs d at [] = refl
placed-long fs d at (i ∷ is) =
    let p : Placed = record { instance = i; flat = part_of fs i.part (length i.ins); first = at } in
    let rest : List Placed = placed_from (part_of fs) (at + length p.flat.gates) is in
    let a = ap length (flat_map-cons (own_gates d) p rest) in
    let b = length-append (own_gates d p) (flat_map (own_gates d) rest) in
    let c : length (own_gates d p) ≡ length p.flat.gates = length-map p.flat.gates (λ g. (g.0, map (outward p d) g.1)) in
    let e = kind-long fs (kind_named gate_names i.part) i.part (length i.ins) in
    let r = placed-long fs d (at + length p.flat.gates) is in
    omega (arith, a, b, c, e, r)

pub gates-long : (fs : List Flat) (m : Module) → length (flat fs m).gates ≡ all_gates fs m.instances
gates-long fs m = placed-long fs (driver_within (suc (length m.instances)) m.inputs (placed_from (part_of fs) 0 m.instances)) 0 m.instances

-- ---- the refusal

module _ (fs : List Flat) (m : Module) where
  abbrev pub last : Option FactRefusal → Type 0
  last r = (HasCycle m × (r ≡ Some Cycle)) ⊎ ((HasCycle m → ⊥) × (r ≡ (if nat_lt 1000000 (length (flat fs m).gates) then Some Large else None)))

  abbrev pub third : Option FactRefusal → Bool → Type 0
  third r b = MatchBool b (last r) (r ≡ Some Driven)

  abbrev pub second : Option FactRefusal → Option FactRefusal → Type 0
  second r o = MatchBool (is_some o) (r ≡ o) (third r (all_driven_once m))

  abbrev pub whole : Option FactRefusal → Bool → Type 0
  whole r b = MatchBool b (r ≡ Some Twice) (second r (instances_fault fs m.instances))

  pub refused-twice : is_part fs m.name ≡ true → ModuleRefusal fs m (Some Twice)
  refused-twice e = subst (whole (Some Twice)) (sym e) refl

  module _ (new : is_part fs m.name ≡ false) where
    pub refused-fault : (r : FactRefusal) → instances_fault fs m.instances ≡ Some r → ModuleRefusal fs m (Some r)
    refused-fault r e = subst (whole (Some r)) (sym new) (subst (second (Some r)) (sym e) refl)

    module _ (fits : instances_fault fs m.instances ≡ None) where
      pub refused-driven : all_driven_once m ≡ false → ModuleRefusal fs m (Some Driven)
      refused-driven e = subst (whole (Some Driven)) (sym new) (subst (second (Some Driven)) (sym fits) (subst (third (Some Driven)) (sym e) refl))

      module _ (once : all_driven_once m ≡ true) where
        from-last : (r : Option FactRefusal) → last r → ModuleRefusal fs m r
        from-last r l = subst (whole r) (sym new) (subst (second r) (sym fits) (subst (third r) (sym once) l))

        pub refused-cycle : HasCycle m → ModuleRefusal fs m (Some Cycle)
        refused-cycle c = from-last (Some Cycle) (inl (c, refl))

        -- the number of gates, cut off
        pub refused-large : (HasCycle m → ⊥) → (n : ℕ) → n ≡ min (all_gates fs m.instances) 1000001 → 1000000 < n → ModuleRefusal fs m (Some Large)
        refused-large c n e l =
            let g = gates-long fs m in
            let big : 1000000 < length (flat fs m).gates = omega (arith, g, e, l) in
            from-last (Some Large) (inr (c, sym (ap (λ b. if b then Some Large else None) (lt-ltb 1000000 (length (flat fs m).gates) big))))

        pub accepted : (HasCycle m → ⊥) → (n : ℕ) → n ≡ min (all_gates fs m.instances) 1000001 → n ≤ 1000000 → ModuleRefusal fs m None × (n ≡ length (flat fs m).gates) × (n ≤ 1000000)
        accepted c n e l =
            let g = gates-long fs m in
            let same : n ≡ length (flat fs m).gates = omega (arith, g, e, l) in
            (from-last None (inr (c, sym (ap (λ b. if b then Some Large else None) (le-ltb 1000000 (length (flat fs m).gates) (omega (arith, same, l)))))), same, l)

-- ---- what is kept

at-map : {X Y : Type 0} (f : X → Y) (xs : List X) (k : ℕ) (d : X) (e : Y) → k < length xs → get_or (map f xs) k e ≡ f (get_or xs k d)
at-map f [] k d e l = absurd (omega (arith, l))
at-map f (x ∷ xs) zero d e l = refl
at-map f (x ∷ xs) (suc k) d e l = at-map f xs k d e (omega (arith, l))

module-turned : (x : Text) (ms : List Module) → position (λ (m : Module). bytes_eq x m.name) ms ≡ position (λ (m : Module). bytes_eq m.name x) ms
module-turned x ms = λ i. position (λ (m : Module). eq-turned x m.name i) ms

spec-turned : (x : Text) (ss : List Spec) → position (λ (s : Spec). bytes_eq x s.name) ss ≡ position (λ (s : Spec). bytes_eq s.name x) ss
spec-turned x ss = λ i. position (λ (s : Spec). eq-turned x s.name i) ss

module _ (es : List Entry) (names : List Text) (ss : List SpecEntry) (spec_names : List Text) (v : Circuits) (is : circuits_view es ss ≡ v) (k : IsKept es names ss spec_names) where
  flats-are : flats [] (modules_of es) ≡ v.flats
  flats-are = ap (λ (c : Circuits). c.flats) is

  pub find-is : (x : Text) (o : Option ℕ) → o ≡ position (bytes_eq x) names → o ≡ position (λ (m : Module). bytes_eq m.name x) v.modules
  find-is x o e =
      e ∙ ap (position (bytes_eq x)) k.named ∙ position-map (bytes_eq x) (λ (e : Entry). e.raw.name.now) es ∙ sym (position-map (λ (m : Module). bytes_eq x m.name) (λ (e : Entry). module_view e.raw) es)
      ∙ module-turned x (modules_of es) ∙ ap (λ (c : Circuits). position (λ (m : Module). bytes_eq m.name x) c.modules) is

  pub spec-is : (x : Text) (o : Option ℕ) → o ≡ position (bytes_eq x) spec_names → o ≡ position (λ (s : Spec). bytes_eq s.name x) v.specs
  spec-is x o e =
      e ∙ ap (position (bytes_eq x)) k.specs_named ∙ position-map (bytes_eq x) (λ (s : SpecEntry). s.raw.name.now) ss ∙ sym (position-map (λ (s : Spec). bytes_eq x s.name) (λ (s : SpecEntry). spec_view s.raw) ss)
      ∙ spec-turned x (map (λ (s : SpecEntry). spec_view s.raw) ss) ∙ ap (λ (c : Circuits). position (λ (s : Spec). bytes_eq s.name x) c.specs) is

  pub in-entries : (q : ℕ) → q < length v.modules → q < length es
  in-entries q l = let e = length-map es (λ (e : Entry). module_view e.raw) in let a = ap (λ (c : Circuits). length c.modules) is in omega (arith, l, e, a)

  pub in-flats : (q : ℕ) → q < length v.flats → q < length es
  in-flats q l = let e = entries-long (flats [] (modules_of es)) es k.entries in let a = ap (λ (c : Circuits). length c.flats) is in omega (arith, l, e, a)

  pub entry-is : (q : ℕ) (e : Entry) → q < length es → e ≡ get_or es q e → IsEntry (get_or v.flats q no_flat) e
  entry-is q e l at =
      subst (λ (fs : List Flat). IsEntry (get_or fs q no_flat) e) flats-are (subst (IsEntry (get_or (flats [] (modules_of es)) q no_flat)) (sym at) (entries-at (flats [] (modules_of es)) es k.entries q e l))

  module-is : (q : ℕ) (e : Entry) → q < length es → e ≡ get_or es q e → module_at v q ≡ module_view e.raw
  module-is q e l at =
      ap (λ (c : Circuits). module_at c q) (sym is) ∙ at-map (λ (e : Entry). module_view e.raw) es q e no_module l ∙ ap (λ (e : Entry). module_view e.raw) (sym at)

  pub inputs-are : (q : ℕ) (e : Entry) → q < length es → e ≡ get_or es q e → e.raw.inputs ≡ length (module_at v q).inputs
  inputs-are q e l at = (entry-is q e l at).well.count ∙ ap (λ (m : Module). length m.inputs) (sym (module-is q e l at))

  pub outputs-are : (q : ℕ) (e : Entry) → q < length es → e ≡ get_or es q e → e.outputs ≡ length (module_at v q).outputs
  outputs-are q e l at = (entry-is q e l at).outputs ∙ sym (length-map e.raw.outputs.items (λ n. get_or e.raw.nets n [])) ∙ ap (λ (m : Module). length m.outputs) (sym (module-is q e l at))

  front-at : (n : ℕ) (xs : List Text) (j : ℕ) → j < length (take n xs) → (j < length xs) × (get_or (take n xs) j [] ≡ get_or xs j [])
  front-at zero xs j l = absurd (omega (arith, l))
  front-at (suc n) [] j l = absurd (omega (arith, l))
  front-at (suc n) (x ∷ xs) zero l = (omega arith, refl)
  front-at (suc n) (x ∷ xs) (suc j) l = let h = front-at n xs j (omega (arith, l)) in (omega (arith, h.0), h.1)

  pub input-at : (q : ℕ) (e : Entry) (j : ℕ) → q < length es → e ≡ get_or es q e → j < length (module_at v q).inputs → (j < length e.raw.nets) × (get_or (module_at v q).inputs j [] ≡ get_or e.raw.nets j [])
  input-at q e j l at h =
      let m = module-is q e l at in
      let f = front-at e.raw.inputs e.raw.nets j (subst (λ (m : Module). j < length m.inputs) m h) in
      (f.0, ap (λ (m : Module). get_or m.inputs j []) m ∙ f.1)

  -- a name among the modules
  pub part-found : (x : Text) (q : ℕ) → None ≡ kind_named gate_names x → Some q ≡ position (bytes_eq x) names → (kind_named gate_names x ≡ None) × (q < length v.flats) × (flat_named v.flats x ≡ get_or v.flats q no_flat) × (is_part v.flats x ≡ true)
  part-found x q n e =
      let r = named-at v.flats x q (ap (position (λ (f : Flat). bytes_eq f.name x)) (sym flats-are) ∙ sym (place-is x es) ∙ ap (position (bytes_eq x)) (sym k.named) ∙ sym e) in
      (sym n, r.1, r.0, module-part v.flats x n r.2)

  pub part-lost : (x : Text) → None ≡ kind_named gate_names x → None ≡ position (bytes_eq x) names → is_part v.flats x ≡ false
  part-lost x n e = no-part v.flats x n (ap (position (λ (f : Flat). bytes_eq f.name x)) (sym flats-are) ∙ sym (place-is x es) ∙ ap (position (bytes_eq x)) (sym k.named) ∙ sym e)

-- ---- the pins and gates of a module

pub module-fits : (fs : List Flat) (x : Text) (f : Flat) (e : Entry) (a b : ℕ) → kind_named gate_names x ≡ None → flat_named fs x ≡ f → IsEntry f e → fits_kind fs (kind_named gate_names x) x a b ≡ (a == e.raw.inputs && b == e.outputs)
module-fits fs x f e a b n s r =
    ap (λ o. fits_kind fs o x a b) n ∙ ap (λ (g : Flat). a == g.inputs && b == length g.outputs) s ∙ ap (λ i. a == i && b == length f.outputs) (sym r.ins) ∙ ap (λ o. a == e.raw.inputs && b == o) (sym r.outs)

pub same-fits : (fs : List Flat) (x : Text) (f : Flat) (e : Entry) (a b : ℕ) → kind_named gate_names x ≡ None → flat_named fs x ≡ f → IsEntry f e → a ≡ e.raw.inputs → (b == e.outputs) ≡ fits_kind fs (kind_named gate_names x) x a b
same-fits fs x f e a b n s r same = sym (module-fits fs x f e a b n s r ∙ ap (λ t. t && b == e.outputs) (eq-eqb a e.raw.inputs same))

no-eqb : (a b : ℕ) → (a ≡ b → ⊥) → (a == b) ≡ false
no-eqb a b ne = grind (arith, nat_tests)

pub other-fits : (fs : List Flat) (x : Text) (f : Flat) (e : Entry) (a b : ℕ) → kind_named gate_names x ≡ None → flat_named fs x ≡ f → IsEntry f e → (a ≡ e.raw.inputs → ⊥) → (a == e.raw.inputs) ≡ fits_kind fs (kind_named gate_names x) x a b
other-fits fs x f e a b n s r ne = sym (module-fits fs x f e a b n s r ∙ step (a == e.raw.inputs) (no-eqb a e.raw.inputs ne))
  where
    step : (t : Bool) → t ≡ false → (t && b == e.outputs) ≡ t
    step true u = absurd (true≢false u)
    step false u = refl

pub module-gates : (fs : List Flat) (x : Text) (f : Flat) (e : Entry) → kind_named gate_names x ≡ None → flat_named fs x ≡ f → IsEntry f e → e.gates ≡ gates_of fs x
module-gates fs x f e n s r = r.gates ∙ ap (λ (g : Flat). length g.gates) (sym s) ∙ sym (ap (λ o. kind_gates fs o x) n)

pub gate-gates : (fs : List Flat) (x : Text) (kind : GateKind) → kind_named gate_names x ≡ Some kind → 1 ≡ gates_of fs x
gate-gates fs x kind e = sym (ap (λ o. kind_gates fs o x) e)

-- ---- an instance by number

texts-at : (ps : List (Bor Text)) (k : ℕ) (p : Bor Text) → k < length ps → p ≡ get_or ps k p → get_or (texts ps) k [] ≡ p.now
texts-at ps k p l e = at-map (λ (p : Bor Text). p.now) ps k p [] l ∙ ap (λ (p : Bor Text). p.now) (sym e)

pub shape-at : (r : RawModule) → IsWell r → (k : ℕ) (p : Bor Text) (a b : List ℕ) → k < length r.parts.items → p ≡ get_or r.parts.items k p → a ≡ get_or r.ins k [] → b ≡ get_or r.outs k []
    → Shaped (get_or (module_view r).instances k no_instance) p.now (length a) (length b)
shape-at r w k p a b l e f g =
    let long = (lists-long r w).0 in
    let texts-long = length-map r.parts.items (λ (p : Bor Text). p.now) in
    let i = instance-at r.nets w.fit k (omega (arith, l, long, texts-long)) in
    record {
      named = i.named ∙ texts-at r.parts.items k p l e;
      ins = sym (numbers-long r.nets (get_or (module_view r).instances k no_instance).ins (get_or r.ins k []) i.takes) ∙ ap length (sym f);
      outs = sym (numbers-long r.nets (get_or (module_view r).instances k no_instance).outs (get_or r.outs k []) i.drives) ∙ ap length (sym g);
    }

pub named-part : (fs : List Flat) (x : Text) (p : circ.Part) → IsNamed fs x p → is_part fs x ≡ true
named-part fs x (part.Gate kind) h = gate-part fs x kind (sym h)
named-part fs x (part.Module q) h = h.3

gates-step : (fs : List Flat) (i : Instance) (x : Text) (a b : ℕ) → Shaped i x a b → gates_of fs i.part ≡ gates_of fs x
gates-step fs i x a b s = ap (gates_of fs) s.named

pub gates-on : (fs : List Flat) (i : Instance) (is : List Instance) (x : Text) (a b : ℕ) (n g n2 all : ℕ) → Shaped i x a b → g ≡ gates_of fs x → n2 ≡ min (n + g) 1000001 → min (n + all_gates fs (i ∷ is)) 1000001 ≡ min all 1000001 → min (n2 + all_gates fs is) 1000001 ≡ min all 1000001
gates-on fs i is x a b n g n2 all s e f so = let z = gates-step fs i x a b s in omega (arith, z, e, f, so)

pub none-named : (fs : List Flat) (x : Text) (o : Option circ.Part) → MatchOption o (is_part fs x ≡ false) (IsNamed fs x) → is_some o ≡ false → is_part fs x ≡ false
none-named fs x None m e = m
none-named fs x (Some p) m e = absurd (true≢false e)
