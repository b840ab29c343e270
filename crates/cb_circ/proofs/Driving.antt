-- What drives nets, by numbers.
use Rattle.std.proofs.Common.{◌≡◌, ◌≢◌, inl, inr, ℕ, zero, suc, ◌+◌, ◌<◌, ◌≤◌, Bool, true, false, List, [], ◌∷◌, ◌++◌, map, take, drop, length, get_or, slice_get, slice_set, Option, Some, None, position, bytes_eq, flat_map, Contains, refl, sym, ◌∙◌, ap, subst, arith, append-nil, append_assoc}
use Rattle.std.proofs.lemmas.Bool.{cases_eq, true≢false}
use Rattle.std.proofs.lemmas.Option.{same_Some, slice_get_within}
use Rattle.std.proofs.lemmas.List.{get_or-set_same, get_or-set_other, get_or-map, length-set, length-map}
use Rattle.std.proofs.lemmas.List.Concat.{flat_map-cons}
use Rattle.std.proofs.lemmas.List.Elements.{Contains-append_left, Contains-append_right, Contains-push_cases}
use Rattle.cb_model.specs.Bits.{Each}
use Rattle.cb_model.specs.Text.{Text}
use Rattle.cb_model.specs.Circuits.{Net, In, Own, Flat, Instance, Module, Placed, part_of, pin_of, outward, net_number, flat}
use Rattle.cb_model.specs.Facts.{drivers, nets}
use Rattle.cb_model.specs.Order.{CanCome, Follows, IsOrder}
use Rattle.cb_model.specs.Carry.{NetIn}
use Rattle.cb_facts.specs.Reads.{AreNumbers}
use Rattle.cb_order.proofs.Orders.{cons-here, cons-later}
use Rattle.cb_flat.specs.Walk.{AModule, placed_net}
use Rattle.cb_flat.specs.Flatten.{placed_of}
use Rattle.cb_flat.specs.Acyclic.{index_in, wants, instance_graph}
use Rattle.cb_flat.proofs.Places.{position-cons, here_or, bytes_eq-refl, bytes_eq-same, position-Some, position-Contains, position-append-found}
use Rattle.cb_flat.proofs.Drivers.{net-outward}
use Rattle.cb_flat.proofs.Flatten.{reached-in, input-drives, pin-drives}
use Rattle.cb_flat.proofs.Accepted.{IsAccepted, AtPin, at-pin, placed-instance, placed-are, placed-fits, net-driven, net-reached, pin-is-net, graph-at, graph-long, counted, counted-here, counted-there, counted-lost, counted-some, outs_in, outs-cons, outs-one, outs-two, drivers-once, given-once}
use Rattle.cb_circ.specs.Driving.{driver_of, IsDriven, by_input, by_pin, AreDrivers, values_at, set_all, placed_outs}
use Rattle.cb_circ.proofs.Names.{name-at, one-name}
use Rattle.cb_circ.proofs.Owning.{index-within}

-- ---- numbers that are put

pub put-long : (ds ks vs : List ℕ) → length (set_all ds ks vs) ≡ length ds
put-long ds [] vs = refl
put-long ds (k ∷ ks) [] = refl
put-long ds (k ∷ ks) (v ∷ vs) = put-long (slice_set ds k v) ks vs ∙ length-set ds k v

module _ (ns : List Text) (x : Text) (n : ℕ) (p : position (bytes_eq x) ns ≡ Some n) where
  other-number : (y : Text) (k : ℕ) → position (bytes_eq y) ns ≡ Some k → bytes_eq x y ≡ false → n ≢ k
  other-number y k a q = λ e. true≢false (sym (ap (λ t. bytes_eq x t) (sym (one-name x y ns n p (a ∙ ap Some (sym e)))) ∙ bytes_eq-refl x) ∙ q)

  same-number : (y : Text) (k : ℕ) → position (bytes_eq y) ns ≡ Some k → bytes_eq x y ≡ true → k ≡ n
  same-number y k a q = same_Some k n (sym a ∙ ap (λ t. position (bytes_eq t) ns) (sym (bytes_eq-same x y q)) ∙ p)

  -- what is under the number of another net stays
  put-other : (ds ks vs : List ℕ) (ys : List Text) → AreNumbers ns ys ks → counted (bytes_eq x) ys ≡ 0 → get_or (set_all ds ks vs) n 0 ≡ get_or ds n 0
  put-other ds [] vs [] a z = refl
  put-other ds (k ∷ ks) vs [] a z = absurd a
  put-other ds [] vs (y ∷ ys) a z = absurd a
  put-other ds (k ∷ ks) [] (y ∷ ys) a z = refl
  put-other ds (k ∷ ks) (v ∷ vs) (y ∷ ys) a z = step (bytes_eq x y) refl (put-other (slice_set ds k v) ks vs ys a.1)
    where
      step : (b : Bool) → bytes_eq x y ≡ b → (counted (bytes_eq x) ys ≡ 0 → get_or (set_all (slice_set ds k v) ks vs) n 0 ≡ get_or (slice_set ds k v) n 0) → get_or (set_all (slice_set ds k v) ks vs) n 0 ≡ get_or ds n 0
      step true q f = absurd (let h = counted-here x y ys q in omega (arith, h, z))
      step false q f = f (sym (counted-there x y ys q) ∙ z) ∙ get_or-set_other ds k n v 0 (other-number y k a.0 q)

  -- under the number of a net that stands once there is its value
  put-here : (ds ks vs : List ℕ) (ys : List Text) (j : ℕ) → AreNumbers ns ys ks → n < length ds → length vs ≡ length ys → position (bytes_eq x) ys ≡ Some j → counted (bytes_eq x) ys ≤ 1 → get_or (set_all ds ks vs) n 0 ≡ get_or vs j 0
  put-here ds ks vs [] j a w l e c = absurd (cc)
  put-here ds [] vs (y ∷ ys) j a w l e c = absurd a
  put-here ds (k ∷ ks) [] (y ∷ ys) j a w l e c = absurd (omega (arith, l))
  put-here ds (k ∷ ks) (v ∷ vs) (y ∷ ys) j a w l e c = step (bytes_eq x y) (position (bytes_eq x) ys) refl refl (sym (position-cons (bytes_eq x) y ys) ∙ e) (put-here (slice_set ds k v) ks vs ys)
    where
      step : (b : Bool) (o : Option ℕ) → bytes_eq x y ≡ b → position (bytes_eq x) ys ≡ o → here_or b o ≡ Some j
          → ((i : ℕ) → AreNumbers ns ys ks → n < length (slice_set ds k v) → length vs ≡ length ys → position (bytes_eq x) ys ≡ Some i → counted (bytes_eq x) ys ≤ 1 → get_or (set_all (slice_set ds k v) ks vs) n 0 ≡ get_or vs i 0)
          → get_or (set_all (slice_set ds k v) ks vs) n 0 ≡ get_or (v ∷ vs) j 0
      step true o q r h f =
          let z : 0 ≡ j = same_Some 0 j h in
          let same : k ≡ n = same-number y k a.0 q in
          let rest : counted (bytes_eq x) ys ≡ 0 = (let t = counted-here x y ys q in omega (arith, t, c)) in
          put-other (slice_set ds k v) ks vs ys a.1 rest ∙ ap (λ i. get_or (slice_set ds i v) n 0) same ∙ get_or-set_same ds n v 0 w ∙ ap (λ i. get_or (v ∷ vs) i 0) z
      step false None q r h f = absurd (cc)
      step false (Some i) q r h f =
          let z : 1 + i ≡ j = same_Some (1 + i) j h in
          let s : suc i ≡ j = omega (arith, z) in
          let t = counted-there x y ys q in
          f i a.1 (let u = length-set ds k v in omega (arith, u, w)) (omega (arith, l)) r (omega (arith, t, c)) ∙ ap (λ i. get_or (v ∷ vs) i 0) s

-- ---- an order

pub follows-at : (g : List (List ℕ)) (done is : List ℕ) (k d : ℕ) → Follows g done is → k < length is → CanCome g (done ++ take k is) (get_or is k d)
follows-at g done [] k d f l = absurd (omega (arith, l))
follows-at g done (i ∷ is) zero d f l = subst (λ (xs : List ℕ). CanCome g xs i) (sym (append-nil done)) f.0
follows-at g done (i ∷ is) (suc k) d f l = subst (λ (xs : List ℕ). CanCome g xs (get_or is k d)) (append_assoc done (i ∷ []) (take k is)) (follows-at g (done ++ i ∷ []) is k d f.2 (omega (arith, l)))

-- ---- each net is driven once

outs-part : (is : List Instance) (k : ℕ) (i : Instance) (x : Text) → slice_get is k ≡ Some i → counted (bytes_eq x) i.outs ≤ counted (bytes_eq x) (outs_in is)
outs-part [] k i x e = absurd (let l : k < 0 = slice_get_within [] k i e in omega (arith, l))
outs-part (y ∷ is) zero i x e = let c = outs-cons y is x in let s = ap (λ (z : Instance). counted (bytes_eq x) z.outs) (same_Some y i e) in omega (arith, c, s)
outs-part (y ∷ is) (suc k) i x e = let c = outs-cons y is x in let r = outs-part is k i x e in omega (arith, c, r)

flat-has : (f : Instance → List Text) (is : List Instance) (k : ℕ) (i : Instance) → slice_get is k ≡ Some i → (x : Text) → Contains (f i) x → Contains (flat_map f is) x
flat-has f [] k i e x h = absurd (let l : k < 0 = slice_get_within [] k i e in omega (arith, l))
flat-has f (y ∷ is) zero i e x h = subst (λ (xs : List Text). Contains xs x) (sym (flat_map-cons f y is)) (Contains-append_left (f y) (flat_map f is) x (subst (λ (z : Instance). Contains (f z) x) (sym (same_Some y i e)) h))
flat-has f (y ∷ is) (suc k) i e x h = subst (λ (xs : List Text). Contains xs x) (sym (flat_map-cons f y is)) (Contains-append_right (f y) (flat_map f is) x (flat-has f is k i e x h))

pub each-at : {X : Type 0} (P : X → Type 0) (xs : List X) (k : ℕ) (d : X) → Each P xs → k < length xs → P (get_or xs k d)
each-at P [] k d h l = absurd (omega (arith, l))
each-at P (x ∷ xs) zero d h l = h.0
each-at P (x ∷ xs) (suc k) d h l = each-at P xs k d h.1 (omega (arith, l))

pub out-is-net : (m : Module) (k : ℕ) (i : Instance) → slice_get m.instances k ≡ Some i → (x : Text) → Contains i.outs x → Contains (nets m) x
out-is-net m k i e x h =
    Contains-append_left (drivers m ++ m.outputs) (flat_map (λ (i : Instance). i.ins) m.instances) x
    (Contains-append_left (drivers m) m.outputs x (Contains-append_right m.inputs (flat_map (λ (i : Instance). i.outs) m.instances) x (flat-has (λ (i : Instance). i.outs) m.instances k i e x h)))

pub output-is-net : (m : Module) (x : Text) → Contains m.outputs x → Contains (nets m) x
output-is-net m x h = Contains-append_left (drivers m ++ m.outputs) (flat_map (λ (i : Instance). i.ins) m.instances) x (Contains-append_right (drivers m) m.outputs x h)

module _ (fs : List Flat) (m : Module) (a : IsAccepted fs m) where
  abbrev placed : List Placed
  placed = placed_of fs m

  abbrev number : Text → ℕ
  number x = net_number (length m.inputs) (driver_of fs m x)

  pub one-instance : (k j : ℕ) (b c : Instance) (x : Text) → slice_get m.instances k ≡ Some b → slice_get m.instances j ≡ Some c → Contains b.outs x → Contains c.outs x → k ≡ j
  one-instance k j b c x e f g h = elim (cases_eq k j) [
    | inl s ↦ s
    | inr ne ↦ absurd (let t = outs-two m.instances k j b c x e f g h ne in let u = given-once m a.driven x (out-is-net m k b e x g) in omega (arith, t, u))
  ]

  no-input : (k : ℕ) (b : Instance) (x : Text) → slice_get m.instances k ≡ Some b → Contains b.outs x → Contains m.inputs x → ⊥
  no-input k b x e g h =
      let d = drivers-once m a.driven x (out-is-net m k b e x g) in
      let i = counted-some x m.inputs h in
      let o = outs-one m.instances k b x e g in
      omega (arith, d, i, o)

  once-in : (k : ℕ) (b : Instance) (x : Text) → slice_get m.instances k ≡ Some b → Contains b.outs x → counted (bytes_eq x) b.outs ≤ 1
  once-in k b x e g = let d = outs-part m.instances k b x e in let u = given-once m a.driven x (out-is-net m k b e x g) in omega (arith, d, u)

  free : (k : ℕ) (b : Instance) (x : Text) → slice_get m.instances k ≡ Some b → Contains b.outs x → position (bytes_eq x) m.inputs ≡ None
  free k b x e g = step (position (bytes_eq x) m.inputs) refl
    where
      step : (o : Option ℕ) → position (bytes_eq x) m.inputs ≡ o → o ≡ None
      step None q = refl
      step (Some i) q = absurd (no-input k b x e g (position-Some x m.inputs i q).1)

  -- the pin that drives a net
  record PinAt (x : Text) (p : Placed) : Type 0 where
    j : ℕ
    pin : pin_of x placed ≡ Some (p, j)
    place : position (bytes_eq x) p.instance.outs ≡ Some j

  pin-at : (k : ℕ) (p : Placed) (x : Text) → slice_get placed k ≡ Some p → Contains p.instance.outs x → PinAt x p
  pin-at k p x e g =
      let i = (placed-instance (part_of fs) 0 m.instances k p e).0 in
      elim (net-driven fs m a.fit a.driven a.acyclic x (out-is-net m k p.instance i x g)) [
        | inl q ↦ absurd (no-input k p.instance x i g (position-Some x m.inputs q.0 q.1).1)
        | inr r ↦
            let t : AtPin x placed r.0.0 r.0.1 = at-pin x placed r.0.0 r.0.1 r.1 in
            let u = (placed-instance (part_of fs) 0 m.instances t.k r.0.0 t.at).0 in
            let same : k ≡ t.k = one-instance k t.k p.instance r.0.0.instance x i u g (position-Some x r.0.0.instance.outs r.0.1 t.pin).1 in
            let pq : r.0.0 ≡ p = same_Some r.0.0 p (sym t.at ∙ ap (slice_get placed) (sym same) ∙ e) in
            record { j = r.0.1; pin = r.1 ∙ ap (λ (q : Placed). Some (q, r.0.1)) pq; place = ap (λ (q : Placed). position (bytes_eq x) q.instance.outs) (sym pq) ∙ t.pin }
      ]

  -- ---- nets that some instances drive

  driven-from : (done : List ℕ) (x : Text) → Contains (nets m) x → ((k : ℕ) → Contains (index_in x m.instances) k → Contains done k) → IsDriven m done x
  driven-from done x h f = elim (net-driven fs m a.fit a.driven a.acyclic x h) [
    | inl q ↦ by_input (position-Some x m.inputs q.0 q.1).1
    | inr r ↦
        let t : AtPin x placed r.0.0 r.0.1 = at-pin x placed r.0.0 r.0.1 r.1 in
        let u = (placed-instance (part_of fs) 0 m.instances t.k r.0.0 t.at).0 in
        by_pin t.k r.0.0.instance (f t.k (subst (λ (is : List Instance). Contains (index_in x is) t.k) (placed-are (part_of fs) 0 m.instances) t.index)) u (position-Some x r.0.0.instance.outs r.0.1 t.pin).1
  ]

  all-from : (done : List ℕ) (xs : List Text) → ((x : Text) → Contains xs x → Contains (nets m) x) → ((k : ℕ) → Contains (wants m.instances xs) k → Contains done k) → Each (IsDriven m done) xs
  all-from done [] n f = tt
  all-from done (x ∷ xs) n f = (
    driven-from done x (n x (cons-here x xs)) (λ k h. f k (Contains-append_left (index_in x m.instances) (wants m.instances xs) k h)),
    all-from done xs (λ y h. n y (cons-later x xs y h)) (λ k h. f k (Contains-append_right (index_in x m.instances) (wants m.instances xs) k h)),
  )

  -- the input pins of an instance that can come next
  come-driven : (done : List ℕ) (k : ℕ) (i : Instance) → slice_get m.instances k ≡ Some i → CanCome (instance_graph m) done k → Each (IsDriven m done) i.ins
  come-driven done k i e c = all-from done i.ins (pin-is-net fs m a.fit a.driven a.acyclic k i e) (λ n h. c.needs n (subst (λ (ks : List ℕ). Contains ks n) (sym (graph-at m.instances m.instances k i e)) h))

  pub read-is : (ns : List Text) (done ds : List ℕ) → AreDrivers fs m ns done ds → (xs : List Text) (ks : List ℕ) → AreNumbers ns xs ks → Each (IsDriven m done) xs → values_at ds ks ≡ map number xs
  read-is ns done ds r [] [] n d = refl
  read-is ns done ds r [] (k ∷ ks) n d = absurd n
  read-is ns done ds r (x ∷ xs) [] n d = absurd n
  read-is ns done ds r (x ∷ xs) (k ∷ ks) n d = λ j. r.are x k d.0 n.0 j ∷ read-is ns done ds r xs ks n.1 d.1 j

  -- what drives the outputs of an instance, by what drives its input pins
  outs-at : (k : ℕ) (p : Placed) (pins : List ℕ) → slice_get placed k ≡ Some p → pins ≡ map number p.instance.ins → (j : ℕ) → j < length p.flat.outputs
      → get_or (placed_outs p.flat (length m.inputs) p.first pins) j 0 ≡ net_number (length m.inputs) (outward p (driver_of fs m) (get_or p.flat.outputs j (In 0)))
  outs-at k p pins e s j l =
      let fits = placed-fits fs m a.fit a.driven a.acyclic k p e in
      get_or-map (λ o. placed_net p.flat.inputs (length m.inputs) p.first pins (net_number p.flat.inputs o)) p.flat.outputs j (In 0) 0 l
      ∙ sym (net-outward (length m.inputs) (driver_of fs m) p (record { part = AModule 0; first = p.first; ins = pins }) refl s fits.1 (get_or p.flat.outputs j (In 0)) (each-at (NetIn p.flat) p.flat.outputs j (In 0) fits.0.outputs l))

  -- one instance more
  pub drive-on : (ns : List Text) (done ds : List ℕ) (k : ℕ) (p : Placed) (ins outs vs : List ℕ) → AreDrivers fs m ns done ds → CanCome (instance_graph m) done k → slice_get placed k ≡ Some p → AreNumbers ns p.instance.ins ins → AreNumbers ns p.instance.outs outs
      → vs ≡ placed_outs p.flat (length m.inputs) p.first (values_at ds ins) → AreDrivers fs m ns (done ++ k ∷ []) (set_all ds outs vs)
  drive-on ns done ds k p ins outs vs r c e ri ro v = record { long = put-long ds outs vs ∙ r.long; are = at }
    where
      i : slice_get m.instances k ≡ Some p.instance
      i = (placed-instance (part_of fs) 0 m.instances k p e).0

      kept : (x : Text) (n : ℕ) → IsDriven m done x → position (bytes_eq x) ns ≡ Some n → (Contains p.instance.outs x → ⊥) → get_or (set_all ds outs vs) n 0 ≡ number x
      kept x n d q f = put-other ns x n q ds outs vs p.instance.outs ro (counted-lost x p.instance.outs f) ∙ r.are x n d q

      here : (x : Text) (n : ℕ) → position (bytes_eq x) ns ≡ Some n → Contains p.instance.outs x → get_or (set_all ds outs vs) n 0 ≡ number x
      here x n q g =
          let fits = placed-fits fs m a.fit a.driven a.acyclic k p e in
          let t = pin-at k p x e g in
          let b = (position-Some x p.instance.outs t.j t.place).0 in
          let lo : t.j < length p.flat.outputs = omega (arith, b, fits.2) in
          let w : n < length ds = (let h = (name-at x ns n q).0 in omega (arith, h, r.long)) in
          let vl : length vs ≡ length p.instance.outs = ap length v ∙ length-map p.flat.outputs (λ o. placed_net p.flat.inputs (length m.inputs) p.first (values_at ds ins) (net_number p.flat.inputs o)) ∙ fits.2 in
          let pins = read-is ns done ds r p.instance.ins ins ri (come-driven done k p.instance i c) in
          put-here ns x n q ds outs vs p.instance.outs t.j ro w vl t.place (once-in k p.instance x i g) ∙ ap (λ (l : List ℕ). get_or l t.j 0) v ∙ outs-at k p (values_at ds ins) e pins t.j lo
          ∙ ap (net_number (length m.inputs)) (sym (pin-drives fs m a.order a.can x k p t.j (slice_get_within m.instances k p.instance i) e t.pin lo (free k p.instance x i g)))

      at : (x : Text) (n : ℕ) → IsDriven m (done ++ k ∷ []) x → position (bytes_eq x) ns ≡ Some n → get_or (set_all ds outs vs) n 0 ≡ number x
      at x n (by_input h) q = kept x n (by_input h) q (λ g. no-input k p.instance x i g h)
      at x n (by_pin d b h s g) q = elim (Contains-push_cases done k d h) [
        | inl old ↦ kept x n (by_pin d b old s g) q (λ t. c.new (subst (Contains done) (one-instance d k b p.instance x s i g t) old))
        | inr same ↦ here x n q (subst (λ (z : Instance). Contains z.outs x) (same_Some b p.instance (sym s ∙ ap (slice_get m.instances) (sym same) ∙ i)) g)
      ]

  -- ---- at the start and at the end

  pub drive-none : (ns : List Text) (ds : List ℕ) (c : ℕ) → m.inputs ≡ take c ns → length ds ≡ length ns → ((j : ℕ) → j < length m.inputs → get_or ds j 0 ≡ j) → AreDrivers fs m ns [] ds
  drive-none ns ds c t l f = record { long = l; are = at }
    where
      split : (c : ℕ) (ns : List Text) → take c ns ++ drop c ns ≡ ns
      split zero ns = refl
      split (suc c) [] = refl
      split (suc c) (n ∷ ns) = ap (λ (xs : List Text). n ∷ xs) (split c ns)

      at : (x : Text) (n : ℕ) → IsDriven m [] x → position (bytes_eq x) ns ≡ Some n → get_or ds n 0 ≡ number x
      at x n (by_pin k i h s g) q = absurd (omega (arith, h.1))
      at x n (by_input h) q =
          let p = position-Contains x m.inputs h in
          let w = (position-Some x m.inputs p.0 p.1).0 in
          let front : position (bytes_eq x) (take c ns ++ drop c ns) ≡ Some p.0 = position-append-found (bytes_eq x) (take c ns) (drop c ns) p.0 (ap (position (bytes_eq x)) (sym t) ∙ p.1) in
          let same : p.0 ≡ n = same_Some p.0 n (sym front ∙ ap (position (bytes_eq x)) (split c ns) ∙ q) in
          ap (λ k. get_or ds k 0) (sym same) ∙ f p.0 w ∙ ap (net_number (length m.inputs)) (sym (input-drives fs m a.order a.can x p.0 p.1))

  -- behind all instances each net is driven
  pub driven-all : (order : List ℕ) → IsOrder (instance_graph m) order → (x : Text) → Contains (nets m) x → IsDriven m order x
  driven-all order o x h = elim (net-driven fs m a.fit a.driven a.acyclic x h) [
    | inl q ↦ by_input (position-Some x m.inputs q.0 q.1).1
    | inr r ↦
        let t : AtPin x placed r.0.0 r.0.1 = at-pin x placed r.0.0 r.0.1 r.1 in
        let u = (placed-instance (part_of fs) 0 m.instances t.k r.0.0 t.at).0 in
        let w = slice_get_within m.instances t.k r.0.0.instance u in
        let g = graph-long m.instances m.instances in
        by_pin t.k r.0.0.instance (o.all t.k (omega (arith, w, g))) u (position-Some x r.0.0.instance.outs r.0.1 t.pin).1
  ]

  -- the number of what drives a net is below those of the inputs and gates
  pub number-in : (x : Text) → Contains (nets m) x → number x < length m.inputs + length (flat fs m).gates
  number-in x h = below (driver_of fs m x) (reached-in fs m a.order a.can x (net-reached fs m a.fit a.driven a.acyclic x a.order h (λ k i. a.can.all k (within k i))))
    where
      below : (n : Net) → NetIn (flat fs m) n → net_number (length m.inputs) n < length m.inputs + length (flat fs m).gates
      below (In i) l = omega (arith, l)
      below (Own g) l = omega (arith, l)

      within : (k : ℕ) → Contains (index_in x m.instances) k → k < length m.instances
      within k i = index-within x m.instances k i
