-- A flattened module carries bits where its parts do and its instances come in an order.
use Rattle.std.proofs.Common.{◌≡◌, ℕ, zero, suc, ◌+◌, ◌-◌, ◌<◌, ◌≤◌, Bool, false, List, [], ◌∷◌, ◌++◌, map, length, get_or, slice_get, Option, Some, None, position, bytes_eq, flat_map, replicate, Contains, inl, inr, refl, sym, ◌∙◌, ap, subst, arith, length-append, append-nil, append_assoc}
use Rattle.std.specs.Option.{option_map}
use Rattle.std.proofs.lemmas.Bool.{cases_lt}
use Rattle.std.proofs.lemmas.Option.{same_Some, slice_get_within, slice_get-map}
use Rattle.std.proofs.lemmas.List.{length-replicate}
use Rattle.std.proofs.lemmas.List.Concat.{flat_map-cons}
use Rattle.std.proofs.lemmas.List.Elements.{Contains-push_cases}
use Rattle.std.proofs.lemmas.List.Quantifiers.{position-Some}
use Rattle.cb_model.specs.declared.GateKind.{GateKind}
use Rattle.cb_model.specs.Bits.{Each}
use Rattle.cb_model.specs.Text.{Text}
use Rattle.cb_model.specs.Circuits.{Net, In, Own, Flat, Instance, Module, Placed, placed_from, part_of, pin_of, outward, drive, drive_pin, driver_within, own_gates, flat}
use Rattle.cb_model.specs.Carry.{Carries, input, gate, AllCarry, none, more, IsTotal, NetIn}
use Rattle.cb_flat.specs.Flatten.{placed_of, Reaches, from_input, from_pin, InOrder, CanFlatten, FlattenCarries, FlattenHasOne}
use Rattle.cb_flat.proofs.Carry.{total_has_one}

-- ---- lists

get-left : {X : Type 0} (xs ys : List X) (k : ℕ) (x : X) → slice_get xs k ≡ Some x → slice_get (xs ++ ys) k ≡ Some x
get-left [] ys k x e = absurd (let l : k < 0 = slice_get_within [] k x e in omega arith)
get-left (y ∷ xs) ys zero x e = e
get-left (y ∷ xs) ys (suc k) x e = get-left xs ys k x e

get-right : {X : Type 0} (xs ys : List X) (j k : ℕ) → j ≡ length xs + k → slice_get (xs ++ ys) j ≡ slice_get ys k
get-right [] ys j k e = ap (slice_get ys) (let q : j ≡ k = omega (arith, e) in q)
get-right (y ∷ xs) ys zero k e = absurd (omega (arith, e))
get-right (y ∷ xs) ys (suc j) k e = get-right xs ys j k (omega (arith, e))

get-map : {X Y : Type 0} (f : X → Y) (xs : List X) (k : ℕ) (x : X) → slice_get xs k ≡ Some x → slice_get (map f xs) k ≡ Some (f x)
get-map f xs k x e = slice_get-map f xs k ∙ ap (option_map f) e

long-map : {X Y : Type 0} (f : X → Y) (xs : List X) → length (map f xs) ≡ length xs
long-map f [] = refl
long-map f (x ∷ xs) = ap suc (long-map f xs)

each-at : {X : Type 0} (P : X → Type 0) (xs : List X) (k : ℕ) (d : X) → Each P xs → k < length xs → P (get_or xs k d)
each-at P [] k d h l = absurd (omega arith)
each-at P (x ∷ xs) zero d h l = h.0
each-at P (x ∷ xs) (suc k) d h l = each-at P xs k d h.1 (omega arith)

-- ---- one instance: a part's nets carry in the whole what they carry in the part

module _ (whole : Flat) (zs : List Bool) (p : Placed) (driver : Text → Net) (xs : List Bool)
    (gates : (k : ℕ) (g : GateKind × List Net) → slice_get p.flat.gates k ≡ Some g → slice_get whole.gates (p.first + k) ≡ Some (g.0, map (outward p driver) g.1))
    (pins : (j : ℕ) → j < length xs → Carries whole zs (driver (get_or p.instance.ins j [])) (get_or xs j false)) where
  mutual
    pub lift : (n : Net) (b : Bool) → Carries p.flat xs n b → Carries whole zs (outward p driver n) b
    lift (In j) b (input l e) = subst (Carries whole zs (driver (get_or p.instance.ins j []))) (sym e) (pins j l)
    lift (Own k) b (gate g bs at all e) = gate (g.0, map (outward p driver) g.1) bs (gates k g at) (lift-all g.1 bs all) e

    pub lift-all : (ns : List Net) (bs : List Bool) → AllCarry p.flat xs ns bs → AllCarry whole zs (map (outward p driver) ns) bs
    lift-all [] [] none = none
    lift-all [] (b ∷ bs) c = elim c [ ]
    lift-all (n ∷ ns) [] c = elim c [ ]
    lift-all (n ∷ ns) (b ∷ bs) (more c cs) = more (lift n b c) (lift-all ns bs cs)

-- ---- where the gates of the instances stand

module _ (part : Text → ℕ → Flat) (driver : Text → Net) where
  -- an instance isn't before the first gate
  first-from : (at : ℕ) (is : List Instance) (k : ℕ) (p : Placed) → slice_get (placed_from part at is) k ≡ Some p → at ≤ p.first
  first-from at [] k p e = absurd (let l : k < 0 = slice_get_within [] k p e in omega arith)
  first-from at (i ∷ is) zero p e = let q : at ≡ p.first = ap (λ (o : Placed). o.first) (same_Some _ p e) in omega arith
  first-from at (i ∷ is) (suc k) p e = let q = first-from (at + length (part i.part (length i.ins)).gates) is k p e in omega (arith, q)

  own-long : (p : Placed) → length (own_gates driver p) ≡ length p.flat.gates
  own-long p = long-map (λ (g : GateKind × List Net). (g.0, map (outward p driver) g.1)) p.flat.gates

  -- the gates of an instance
  gates-at : (at : ℕ) (is : List Instance) (k : ℕ) (p : Placed) (n j : ℕ) (g : GateKind × List Net) → slice_get (placed_from part at is) k ≡ Some p → slice_get p.flat.gates n ≡ Some g → at + j ≡ p.first + n
      → slice_get (flat_map (own_gates driver) (placed_from part at is)) j ≡ Some (g.0, map (outward p driver) g.1)
  gates-at at [] k p n j g e f s = absurd (let l : k < 0 = slice_get_within [] k p e in omega arith)
  gates-at at (i ∷ is) zero p n j g e f s =
      let o : Placed = record { instance = i; flat = part i.part (length i.ins); first = at } in
      let same : o ≡ p = same_Some o p e in
      let q : at ≡ p.first = ap (λ (o : Placed). o.first) same in
      let jn : n ≡ j = omega (arith, q, s) in
      let here : slice_get (own_gates driver p) j ≡ Some (g.0, map (outward p driver) g.1) = subst (λ z. slice_get (own_gates driver p) z ≡ Some (g.0, map (outward p driver) g.1)) jn (get-map (λ h. (h.0, map (outward p driver) h.1)) p.flat.gates n g f) in
      ap (λ l. slice_get l j) (flat_map-cons (own_gates driver) o (placed_from part (at + length (part i.part (length i.ins)).gates) is))
      ∙ get-left (own_gates driver o) (flat_map (own_gates driver) (placed_from part (at + length (part i.part (length i.ins)).gates) is)) j (g.0, map (outward p driver) g.1) (subst (λ (z : Placed). slice_get (own_gates driver z) j ≡ Some (g.0, map (outward p driver) g.1)) (sym same) here)
  gates-at at (i ∷ is) (suc k) p n j g e f s =
      let o : Placed = record { instance = i; flat = part i.part (length i.ins); first = at } in
      let w : ℕ = length o.flat.gates in
      let low : at + w ≤ p.first = first-from (at + w) is k p e in
      let c : ℕ = j - w in
      let jc : length (own_gates driver o) + c ≡ j = omega (arith, own-long o, low, s) in
      ap (λ l. slice_get l j) (flat_map-cons (own_gates driver) o (placed_from part (at + w) is))
      ∙ get-right (own_gates driver o) (flat_map (own_gates driver) (placed_from part (at + w) is)) j c (sym jc)
      ∙ gates-at (at + w) is k p n c g e f (omega (arith, low, s))

  -- each gate is one of an instance
  pub record OfInstance (at : ℕ) (is : List Instance) (j : ℕ) : Type 0 where
    pub k : ℕ
    pub p : Placed
    pub n : ℕ
    pub within : k < length is
    pub placed : slice_get (placed_from part at is) k ≡ Some p
    pub gate : n < length p.flat.gates
    pub stands : at + j ≡ p.first + n

  of-instance : (at : ℕ) (is : List Instance) (j : ℕ) → j < length (flat_map (own_gates driver) (placed_from part at is)) → OfInstance at is j
  of-instance at [] j l = absurd (omega arith)
  of-instance at (i ∷ is) j l =
      let o : Placed = record { instance = i; flat = part i.part (length i.ins); first = at } in
      let w : ℕ = length o.flat.gates in
      elim (cases_lt j w) [
        | inl lt ↦ record { k = 0; p = o; n = j; within = omega arith; placed = refl; gate = lt; stands = refl }
        | inr ge ↦
            let long = ap length (flat_map-cons (own_gates driver) o (placed_from part (at + w) is)) in
            let more = length-append (own_gates driver o) (flat_map (own_gates driver) (placed_from part (at + w) is)) in
            let r = of-instance (at + w) is (j - w) (omega (arith, long, more, own-long o, l, ge)) in
            record { k = suc r.k; p = r.p; n = r.n; within = omega (arith, r.within); placed = r.placed; gate = r.gate; stands = omega (arith, r.stands, ge) }
      ]

-- ---- the whole

module _ (earlier : List Flat) (m : Module) (order : List ℕ) (can : CanFlatten earlier m order) where
  abbrev placed : List Placed
  placed = placed_of earlier m

  abbrev within : ℕ → Text → Net
  within n = driver_within n m.inputs placed

  abbrev driver : Text → Net
  driver = within (suc (length m.instances))

  abbrev whole : Flat
  whole = flat earlier m

  -- what drives a reached net doesn't depend on how far is looked
  abbrev Stable : List ℕ → Type 0
  Stable done = (x : Text) → Reaches m placed done x → (a b : ℕ) → length done < a → length done < b → within a x ≡ within b x

  pin-in : (k : ℕ) (p : Placed) (i : ℕ) → slice_get placed k ≡ Some p → i < p.flat.inputs → i < length p.instance.ins
  pin-in k p i at h = let e = (can.parts k p at).1 in omega (arith, e, h)

  -- what drives an output pin, by what drives the instance's input pins
  same-out : (q : Placed) (next other : Text → Net) (n : Net) → ((i : ℕ) → n ≡ In i → next (get_or q.instance.ins i []) ≡ other (get_or q.instance.ins i [])) → outward q next n ≡ outward q other n
  same-out q next other (Own g) f = refl
  same-out q next other (In i) f = f i refl

  same-drive : (q : Placed) (j : ℕ) (next other : Text → Net) (o : Option ℕ) → outward q next (get_or q.flat.outputs j (In 0)) ≡ outward q other (get_or q.flat.outputs j (In 0)) → drive next o (Some (q, j)) ≡ drive other o (Some (q, j))
  same-drive q j next other (Some i) e = refl
  same-drive q j next other None e = e

  out-in : (k : ℕ) (q : Placed) (j : ℕ) → slice_get placed k ≡ Some q → j < length q.flat.outputs → NetIn q.flat (get_or q.flat.outputs j (In 0))
  out-in k q j at l = each-at (NetIn q.flat) q.flat.outputs j (In 0) (can.parts k q at).0.outputs l

  stable-push : (done : List ℕ) (k : ℕ) (p : Placed) → slice_get placed k ≡ Some p → Each (Reaches m placed done) p.instance.ins → Stable done → Stable (done ++ k ∷ [])
  stable-push done k p at ins s x r zero b la lb = absurd (omega arith)
  stable-push done k p at ins s x r (suc a) zero la lb = absurd (omega arith)
  stable-push done k p at ins s x (from_input i e) (suc a) (suc b) la lb =
      ap (λ o. drive (within a) o (pin_of x placed)) e ∙ sym (ap (λ o. drive (within b) o (pin_of x placed)) e)
  stable-push done k p at ins s x (from_pin c q j h at2 e l) (suc a) (suc b) la lb = elim (Contains-push_cases done k c h) [
    | inl old ↦ s x (from_pin c q j old at2 e l) (suc a) (suc b) (omega (arith, length-append done (k ∷ []))) (omega (arith, length-append done (k ∷ [])))
    | inr same ↦
        let pq : p ≡ q = same_Some p q (sym at ∙ ap (slice_get placed) same ∙ at2) in
        let long = length-append done (k ∷ []) in
        let reached : Each (Reaches m placed done) q.instance.ins = subst (λ (o : Placed). Each (Reaches m placed done) o.instance.ins) pq ins in
        ap (drive (within a) (position (λ y. bytes_eq x y) m.inputs)) e
        ∙ same-drive q j (within a) (within b) (position (λ y. bytes_eq x y) m.inputs) (same-out q (within a) (within b) (get_or q.flat.outputs j (In 0))
        (λ i is. let w : i < q.flat.inputs = subst (NetIn q.flat) is (out-in c q j at2 l) in
        s (get_or q.instance.ins i []) (each-at (Reaches m placed done) q.instance.ins i [] reached (pin-in c q i at2 w)) a b (omega (arith, long)) (omega (arith, long))))
        ∙ sym (ap (drive (within b) (position (λ y. bytes_eq x y) m.inputs)) e)
  ]

  -- what drives an output of an instance is what drives it in the part, or what drives the instance's own pin
  one-step : (done : List ℕ) → Stable done → length done < length m.instances → (x : Text) (q : Placed) (j d : ℕ) → slice_get placed d ≡ Some q → pin_of x placed ≡ Some (q, j) → j < length q.flat.outputs → Each (Reaches m placed done) q.instance.ins
      → position (λ y. bytes_eq x y) m.inputs ≡ None → driver x ≡ outward q driver (get_or q.flat.outputs j (In 0))
  one-step done s small x q j d at e l reached is =
      let next : Text → Net = within (length m.instances) in
      let drives : driver x ≡ outward q next (get_or q.flat.outputs j (In 0)) = ap (λ o. drive next o (pin_of x placed)) is ∙ ap (drive_pin next) e in
      let same : outward q next (get_or q.flat.outputs j (In 0)) ≡ outward q driver (get_or q.flat.outputs j (In 0)) = same-out q next driver (get_or q.flat.outputs j (In 0))
      (λ i is2. let w : i < q.flat.inputs = subst (NetIn q.flat) is2 (out-in d q j at l) in
      s (get_or q.instance.ins i []) (each-at (Reaches m placed done) q.instance.ins i [] reached (pin-in d q i at w)) (length m.instances) (suc (length m.instances)) small (omega arith)) in
      drives ∙ same

  -- ---- what is carried

  module _ (zs : List Bool) (wide : length zs ≡ length m.inputs) where
    -- the nets that are reached carry bits, and so do the gates of these instances
    record Carried (done : List ℕ) : Type 0 where
      stable : Stable done
      drives : (x : Text) (k : ℕ) (p : Placed) (j : ℕ) → Contains done k → slice_get placed k ≡ Some p → pin_of x placed ≡ Some (p, j) → j < length p.flat.outputs → position (λ y. bytes_eq x y) m.inputs ≡ None → driver x ≡ outward p driver (get_or p.flat.outputs j (In 0))
      nets : (x : Text) → Reaches m placed done x → (b : Bool) × Carries whole zs (driver x) b
      gates : (k : ℕ) (p : Placed) → Contains done k → slice_get placed k ≡ Some p → (n : ℕ) → n < length p.flat.gates → (b : Bool) × Carries whole zs (Own (p.first + n)) b

    -- the bits of an instance's pins
    pin-bits : (done : List ℕ) → Carried done → (xs : List Text) → Each (Reaches m placed done) xs → (bs : List Bool) × ((length bs ≡ length xs) × ((j : ℕ) → j < length bs → Carries whole zs (driver (get_or xs j [])) (get_or bs j false)))
    pin-bits done c [] r = ([], (refl, λ j l. absurd (omega arith)))
    pin-bits done c (x ∷ xs) r =
        let b = c.nets x r.0 in
        let t = pin-bits done c xs r.1 in
        (b.0 ∷ t.0, (ap suc t.1.0, at b.0 b.1 t.0 t.1.1))
      where
        at : (b : Bool) → Carries whole zs (driver x) b → (bs : List Bool) → ((j : ℕ) → j < length bs → Carries whole zs (driver (get_or xs j [])) (get_or bs j false)) → (j : ℕ) → j < length (b ∷ bs) → Carries whole zs (driver (get_or (x ∷ xs) j [])) (get_or (b ∷ bs) j false)
        at b h bs f zero l = h
        at b h bs f (suc j) l = f j (omega arith)

    module _ (done : List ℕ) (c : Carried done) (k : ℕ) (p : Placed) (at : slice_get placed k ≡ Some p) (ins : Each (Reaches m placed done) p.instance.ins) where
      bits : (bs : List Bool) × ((length bs ≡ length p.instance.ins) × ((j : ℕ) → j < length bs → Carries whole zs (driver (get_or p.instance.ins j [])) (get_or bs j false)))
      bits = pin-bits done c p.instance.ins ins

      -- a part's net that carries a bit in the part does so in the whole
      lifted : (n : Net) (b : Bool) → Carries p.flat bits.0 n b → Carries whole zs (outward p driver n) b
      lifted = lift whole zs p driver bits.0 (λ n g e. gates-at (part_of earlier) driver 0 m.instances k p n (p.first + n) g at e (omega arith)) bits.1.1

      own : (n : ℕ) → n < length p.flat.gates → (b : Bool) × Carries whole zs (Own (p.first + n)) b
      own n l = let r = (can.parts k p at).0.total bits.0 (omega (arith, bits.1.0, (can.parts k p at).1)) n l in (r.0, lifted (Own n) r.0 r.1)

      -- what drives an output pin carries a bit
      out : (n : Net) → NetIn p.flat n → (b : Bool) × Carries whole zs (outward p driver n) b
      out (Own g) l = own g l
      out (In i) l = c.nets (get_or p.instance.ins i []) (each-at (Reaches m placed done) p.instance.ins i [] ins (pin-in k p i at l))

    carried-push : (done : List ℕ) (k : ℕ) (p : Placed) → length done < length m.instances → slice_get placed k ≡ Some p → Each (Reaches m placed done) p.instance.ins → Carried done → Carried (done ++ k ∷ [])
    carried-push done k p small at ins c = record {
      stable = stable-push done k p at ins c.stable;
      drives = λ x d q j h at2 e l is. elim (Contains-push_cases done k d h) [
        | inl old ↦ c.drives x d q j old at2 e l is
        | inr same ↦
            let pq : p ≡ q = same_Some p q (sym at ∙ ap (slice_get placed) same ∙ at2) in
            one-step done c.stable small x q j d at2 e l (subst (λ (o : Placed). Each (Reaches m placed done) o.instance.ins) pq ins) is
      ];
      nets = net;
      gates = λ d q h at2 n l. elim (Contains-push_cases done k d h) [
        | inl old ↦ c.gates d q old at2 n l
        | inr same ↦
            let pq : p ≡ q = same_Some p q (sym at ∙ ap (slice_get placed) same ∙ at2) in
            own done c d q at2 (subst (λ (o : Placed). Each (Reaches m placed done) o.instance.ins) pq ins) n l
      ];
    }
      where
        net : (x : Text) → Reaches m placed (done ++ k ∷ []) x → (b : Bool) × Carries whole zs (driver x) b
        net x (from_input i e) = c.nets x (from_input i e)
        net x (from_pin d q j h at2 e l) = elim (Contains-push_cases done k d h) [
          | inl old ↦ c.nets x (from_pin d q j old at2 e l)
          | inr same ↦
              let pq : p ≡ q = same_Some p q (sym at ∙ ap (slice_get placed) same ∙ at2) in
              let reached : Each (Reaches m placed done) q.instance.ins = subst (λ (o : Placed). Each (Reaches m placed done) o.instance.ins) pq ins in
              here q j e d at2 l reached (position (λ y. bytes_eq x y) m.inputs) refl
        ]
          where
            here : (q : Placed) (j : ℕ) → pin_of x placed ≡ Some (q, j) → (d : ℕ) → slice_get placed d ≡ Some q → j < length q.flat.outputs → Each (Reaches m placed done) q.instance.ins → (o : Option ℕ) → position (λ y. bytes_eq x y) m.inputs ≡ o → (b : Bool) × Carries whole zs (driver x) b
            here q j e d at2 l reached (Some i) is = c.nets x (from_input i is)
            here q j e d at2 l reached None is =
                let r = out done c d q at2 reached (get_or q.flat.outputs j (In 0)) (out-in d q j at2 l) in
                (r.0, subst (λ n. Carries whole zs n r.0) (sym (one-step done c.stable small x q j d at2 e l reached is)) r.1)

    carried-all : (done ks : List ℕ) → length done + length ks ≤ length m.instances → InOrder m placed done ks → Carried done → Carried (done ++ ks)
    carried-all done [] small o c = subst Carried (sym (append-nil done)) c
    carried-all done (k ∷ ks) small o c =
        subst Carried (append_assoc done (k ∷ []) ks)
        (carried-all (done ++ k ∷ []) ks (omega (arith, length-append done (k ∷ []))) o.1 (carried-push done k o.0.0 (omega (arith, small)) o.0.1.0 o.0.1.1 c))

    start : Carried []
    start = record {
      stable = start-stable;
      drives = λ x k p j h at e l is. absurd (omega (arith, h.1));
      nets = start-net;
      gates = λ k p h at n l. absurd (omega (arith, h.1));
    }
      where
        start-stable : Stable []
        start-stable x (from_input i e) zero b la lb = absurd (omega arith)
        start-stable x (from_input i e) (suc a) zero la lb = absurd (omega arith)
        start-stable x (from_input i e) (suc a) (suc b) la lb = ap (λ o. drive (within a) o (pin_of x placed)) e ∙ sym (ap (λ o. drive (within b) o (pin_of x placed)) e)
        start-stable x (from_pin k p j h at e l) a b la lb = absurd (omega (arith, h.1))

        start-net : (x : Text) → Reaches m placed [] x → (b : Bool) × Carries whole zs (driver x) b
        start-net x (from_input i e) =
            let l = (position-Some (λ y. bytes_eq x y) m.inputs i [] e).0 in
            let d : driver x ≡ In i = ap (λ o. drive (within (length m.instances)) o (pin_of x placed)) e in
            (get_or zs i false, subst (λ n. Carries whole zs n (get_or zs i false)) (sym d) (input (omega (arith, l, wide)) refl))
        start-net x (from_pin k p j h at e l) = absurd (omega (arith, h.1))

    carried : Carried order
    carried = carried-all [] order (omega (arith, can.count)) can.in_order start

  total : IsTotal whole
  total zs wide j l =
      let r = of-instance (part_of earlier) driver 0 m.instances j l in
      let c = carried zs wide in
      let h = c.gates r.k r.p (can.all r.k r.within) r.placed r.n r.gate in
      let e : r.p.first + r.n ≡ j = omega (arith, r.stands) in
      (h.0, subst (λ k. Carries whole zs (Own k) h.0) e h.1)

  net-in : (zs : List Bool) → length zs ≡ length m.inputs → (n : Net) (b : Bool) → Carries whole zs n b → NetIn whole n
  net-in zs wide (In i) b (input l e) = omega (arith, l, wide)
  net-in zs wide (Own k) b (gate g bs at all e) = slice_get_within whole.gates k g at

  abbrev zeros : List Bool
  zeros = replicate (length m.inputs) false

  zeros-long : length zeros ≡ length m.inputs
  zeros-long = length-replicate (length m.inputs) false

  -- each net that is reached is driven by a net of the whole
  pub reached-in : (x : Text) → Reaches m placed order x → NetIn (flat earlier m) (driver_within (suc (length m.instances)) m.inputs (placed_of earlier m) x)
  reached-in x r = let h = (carried zeros zeros-long).nets x r in net-in zeros zeros-long (driver x) h.0 h.1

  -- an input drives itself
  pub input-drives : (x : Text) (i : ℕ) → position (λ y. bytes_eq x y) m.inputs ≡ Some i → driver_within (suc (length m.instances)) m.inputs (placed_of earlier m) x ≡ In i
  input-drives x i is = ap (λ o. drive (within (length m.instances)) o (pin_of x placed)) is

  -- an output of an instance is driven by its part
  pub pin-drives : (x : Text) (k : ℕ) (p : Placed) (j : ℕ) → k < length m.instances → slice_get (placed_of earlier m) k ≡ Some p → pin_of x (placed_of earlier m) ≡ Some (p, j) → j < length p.flat.outputs → position (λ y. bytes_eq x y) m.inputs ≡ None
      → driver_within (suc (length m.instances)) m.inputs (placed_of earlier m) x ≡ outward p (driver_within (suc (length m.instances)) m.inputs (placed_of earlier m)) (get_or p.flat.outputs j (In 0))
  pin-drives x k p j w at e l is = (carried zeros zeros-long).drives x k p j (can.all k w) at e l is

  outs-in : (xs : List Text) → Each (Reaches m placed order) xs → Each (NetIn whole) (map driver xs)
  outs-in [] r = tt
  outs-in (x ∷ xs) r =
      let zs : List Bool = replicate (length m.inputs) false in
      let wide : length zs ≡ length m.inputs = length-replicate (length m.inputs) false in
      let h = (carried zs wide).nets x r.0 in
      (net-in zs wide (driver x) h.0 h.1, outs-in xs r.1)

pub flatten_carries : FlattenCarries
flatten_carries earlier m order can = record { total = total earlier m order can; outputs = outs-in earlier m order can m.outputs can.outputs }

pub flatten_has_one : FlattenHasOne
flatten_has_one earlier m order can xs wide = total_has_one (flat earlier m) (total earlier m order can) xs wide
