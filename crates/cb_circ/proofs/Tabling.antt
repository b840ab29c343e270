-- The drivers of a module's nets, one instance after another.
use Rattle.std.proofs.Common.{◌≡◌, ℕ, suc, ◌+◌, ◌<◌, ◌≤◌, ◌^◌, List, [], ◌∷◌, ◌++◌, map, take, drop, length, get_or, refl, sym, ◌∙◌, ap, subst, arith}
use Rattle.std.proofs.lemmas.List.{length-map, take_all}
use Rattle.std.proofs.Math.Seq.{take-append_seam}
use Rattle.std.specs.Borrow.{Bor}
use Rattle.cb_model.specs.Text.{Text}
use Rattle.cb_model.specs.Circuits.{Flat, Instance, Module, Placed, placed_from, part_of, net_number, flat}
use Rattle.cb_model.specs.Order.{CanCome, IsOrder}
use Rattle.cb_facts.specs.declared.modules.RawModule.{RawModule}
use Rattle.cb_flat.specs.Walk.{placed_net}
use Rattle.cb_flat.specs.Flatten.{placed_of}
use Rattle.cb_flat.specs.Acyclic.{instance_graph}
use Rattle.cb_flat.proofs.Accepted.{IsAccepted, graph-long, placed-fits}
use Rattle.cb_netlist.specs.declared.netlist.Part as circ
use Rattle.cb_netlist.specs.Wiring.{Wiring, bare_wiring}
use Rattle.cb_netlist.specs.Parts.{part_is}
use Rattle.cb_netlist.specs.Netlists.{gates_in, TakesPins}
use Rattle.cb_circ.specs.declared.checks.Found.{Found}
use Rattle.cb_circ.specs.View.{module_view, IsWell}
use Rattle.cb_circ.specs.Parts.{IsNamed, AreParts}
use Rattle.cb_circ.specs.Driving.{AreDrivers, IsTable, ArePlaced, values_at, set_all, part_flat, placed_outs, with_outputs}
use Rattle.cb_circ.proofs.Marking.{lists-long}
use Rattle.cb_circ.proofs.Driving.{follows-at, drive-on, drive-none}
use Rattle.cb_circ.proofs.Names.{no_instance}
use Rattle.cb_circ.proofs.Refusing.{shape-at, gates-long}
use Rattle.cb_circ.proofs.Filling.{Here, here, named-at, named-long, take-next, outs-are, outs-long, takes-pins, gates-within, table-from}

-- a list with its front written anew
pub back : (v old : List ℕ) (n : ℕ) → n ≡ length v → take n (v ++ drop (length v) old) ≡ v
back v old n e = ap (λ k. take k (v ++ drop (length v) old)) e ∙ take-append_seam v (drop (length v) old)

pub placed-long : (part : Text → ℕ → Flat) (at : ℕ) (is : List Instance) → length (placed_from part at is) ≡ length is
placed-long part at [] = refl
placed-long part at (i ∷ is) = ap suc (placed-long part (at + length (part i.part (length i.ins)).gates) is)

pub pins-read : (pins old values ds numbers ins : List ℕ) → pins ≡ old ++ values_at values numbers → old ≡ [] → values ≡ ds → numbers ≡ ins → pins ≡ values_at ds ins
pins-read pins old values ds numbers ins p o v n = p ∙ ap (λ (xs : List ℕ). xs ++ values_at values numbers) o ∙ ap (λ (xs : List ℕ). values_at xs numbers) v ∙ ap (values_at ds) n

pub outs-read : (outs old more : List ℕ) → outs ≡ old ++ more → old ≡ [] → outs ≡ more
outs-read outs old more p o = p ∙ ap (λ (xs : List ℕ). xs ++ more) o

pub write-read : (new values numbers given ds outs found : List ℕ) → new ≡ set_all values numbers given → values ≡ ds → numbers ≡ outs → given ≡ found → new ≡ set_all ds outs found
write-read new values numbers given ds outs found p v n g = p ∙ ap (λ (xs : List ℕ). set_all xs numbers given) v ∙ ap (λ (xs : List ℕ). set_all ds xs given) n ∙ ap (set_all ds outs) g

pub parts-in : (r : RawModule) → IsWell r → (k : ℕ) → k < length r.parts.items → k < length (module_view r).instances
parts-in r w k l =
    let t = length-map r.parts.items (λ (p : Bor Text). p.now) in
    let e = (lists-long r w).0 in
    omega (arith, l, t, e)

pub parts-out : (fs : List Flat) (r : RawModule) → IsWell r → (k : ℕ) → length r.parts.items ≤ k → length (placed_of fs (module_view r)) ≤ k
parts-out fs r w k l =
    let t = length-map r.parts.items (λ (p : Bor Text). p.now) in
    let e = (lists-long r w).0 in
    let g = placed-long (part_of fs) 0 (module_view r).instances in
    omega (arith, l, t, e, g)

-- ---- an instance by its place

module _ (fs : List Flat) (r : RawModule) (w : IsWell r) (found : Found) (placed : ArePlaced fs (module_view r) found) (k : ℕ) (l : k < length (module_view r).instances) where
  pub in-ins : k < length r.ins
  in-ins = let e = (lists-long r w).1 in omega (arith, l, e)

  pub in-outs : k < length r.outs
  in-outs = let e = (lists-long r w).2 in omega (arith, l, e)

  pub in-parts : k < length found.parts.items
  in-parts = let e = named-long fs (module_view r).instances found.parts.items placed.named in omega (arith, l, e)

  pub in-firsts : k < length found.firsts.items
  in-firsts =
      let e = ap length placed.first in
      let f : length (map (λ (p : Placed). p.first) (placed_of fs (module_view r))) ≡ length (placed_of fs (module_view r)) = length-map (placed_of fs (module_view r)) (λ (p : Placed). p.first) in
      let g = placed-long (part_of fs) 0 (module_view r).instances in
      omega (arith, l, e, f, g)

  pub this-named : (pt : circ.Part) → pt ≡ get_or found.parts.items k pt → (name : Bor Text) → k < length r.parts.items → name ≡ get_or r.parts.items k name → IsNamed fs name.now pt
  this-named pt pe name lp ne =
      subst (λ (x : Text). IsNamed fs x pt) (shape-at r w k name (get_or r.ins k []) (get_or r.outs k []) lp ne refl refl).named
      (subst (IsNamed fs (get_or (module_view r).instances k no_instance).part) (sym pe) (named-at fs (module_view r).instances found.parts.items k pt placed.named l))

  module _ (a : IsAccepted fs (module_view r)) (pt : circ.Part) (pe : pt ≡ get_or found.parts.items k pt) (first : ℕ) (fe : first ≡ get_or found.firsts.items k 0) where
    pub this : Here fs (module_view r) r.nets k pt first (get_or r.ins k []) (get_or r.outs k [])
    this = here fs r w found placed k l pt pe first fe (get_or r.ins k []) (get_or r.outs k []) refl refl

    pub this-pins : (n : ℕ) → n ≡ length (get_or r.ins k []) → TakesPins fs (part_is pt) n
    this-pins n e = takes-pins fs (module_view r) a r.nets k pt first (get_or r.ins k []) (get_or r.outs k []) this n e

    pub this-small : r.inputs + first + gates_in fs (part_is pt) < 2 ^ 32
    this-small =
        let g = gates-within fs (module_view r) a r.nets k pt first (get_or r.ins k []) (get_or r.outs k []) this in
        let s = placed.small in
        let c = w.count in
        omega (arith, g, s, c)

    outs-same : (pins outs : List ℕ) → length pins ≡ length (get_or r.ins k []) → outs ≡ placed_outs (part_flat fs pt (length pins)) r.inputs first pins → outs ≡ placed_outs this.p.flat (length (module_view r).inputs) this.p.first pins
    outs-same pins outs e oe =
        oe ∙ ap (λ n. placed_outs (part_flat fs pt (length pins)) n first pins) w.count ∙ outs-are fs (module_view r) a r.nets k pt first (get_or r.ins k []) (get_or r.outs k []) this pins e

    pub outs-count : (pins outs : List ℕ) → length pins ≡ length (get_or r.ins k []) → outs ≡ placed_outs (part_flat fs pt (length pins)) r.inputs first pins → length outs ≡ length (get_or r.outs k [])
    outs-count pins outs e oe =
        ap length (outs-same pins outs e oe) ∙ length-map this.p.flat.outputs (λ o. placed_net this.p.flat.inputs (length (module_view r).inputs) this.p.first pins (net_number this.p.flat.inputs o))
        ∙ (placed-fits fs (module_view r) a.fit a.driven a.acyclic k this.p this.at).2 ∙ sym (outs-long fs (module_view r) a r.nets k pt first (get_or r.ins k []) (get_or r.outs k []) this)

    pub next-drivers : (order : List ℕ) (i : ℕ) → IsOrder (instance_graph (module_view r)) order → i < length order → get_or order i 0 ≡ k → (ds pins outs new : List ℕ) → AreDrivers fs (module_view r) r.nets (take i order) ds
        → pins ≡ values_at ds (get_or r.ins k []) → outs ≡ placed_outs (part_flat fs pt (length pins)) r.inputs first pins → new ≡ set_all ds (get_or r.outs k []) outs → AreDrivers fs (module_view r) r.nets (take (i + 1) order) new
    next-drivers order i o li ke ds pins outs new d e oe ne =
        let m = module_view r in
        let come : CanCome (instance_graph m) (take i order) k = subst (CanCome (instance_graph m) (take i order)) ke (follows-at (instance_graph m) [] order i 0 o.follows li) in
        let vs : outs ≡ placed_outs this.p.flat (length m.inputs) this.p.first (values_at ds (get_or r.ins k [])) =
        outs-same pins outs (ap length e ∙ length-map (get_or r.ins k []) (λ j. get_or ds j 0)) oe ∙ ap (placed_outs this.p.flat (length m.inputs) this.p.first) e in
        let done : take (i + 1) order ≡ take i order ++ k ∷ [] = take-next order i 0 li ∙ ap (λ j. take i order ++ j ∷ []) ke in
        subst (λ (js : List ℕ). AreDrivers fs m r.nets js new) (sym done)
        (subst (AreDrivers fs m r.nets (take i order ++ k ∷ [])) (sym ne) (drive-on fs m a r.nets (take i order) ds k this.p (get_or r.ins k []) (get_or r.outs k []) outs d come this.at this.takes this.drives vs))

-- ---- the loop

pub place-in : (m : Module) (order : List ℕ) (i : ℕ) → IsOrder (instance_graph m) order → i < length order → get_or order i 0 < length m.instances
place-in m order i o l =
    let c = (follows-at (instance_graph m) [] order i 0 o.follows l).within in
    let g = graph-long m.instances m.instances in
    omega (arith, c, g)

pub drivers-start : (fs : List Flat) (r : RawModule) (w : IsWell r) (a : IsAccepted fs (module_view r)) (ds : List ℕ) → length ds ≡ length r.nets → ((k : ℕ) → k < r.inputs → get_or ds k 0 ≡ k) → AreDrivers fs (module_view r) r.nets [] ds
drivers-start fs r w a ds l f = drive-none fs (module_view r) a r.nets ds r.inputs w.front l (λ k b. f k (let c = w.count in omega (arith, b, c)))

pub drivers-end : (fs : List Flat) (m : Module) (a : IsAccepted fs m) (ns : List Text) (order ds : List ℕ) (i : ℕ) → IsOrder (instance_graph m) order → length order ≤ i → AreDrivers fs m ns (take i order) ds → IsTable fs m ns ds
drivers-end fs m a ns order ds i o l d = table-from fs m a ns order ds o (subst (λ (js : List ℕ). AreDrivers fs m ns js ds) (take_all i order l) d)

pub found-gates : (fs : List Flat) (m : Module) (found : Found) → AreParts fs m found → found.gates ≤ 1000000 → found.gates ≡ length (flat fs m).gates
found-gates fs m found p few = let g = p.gates in let l = gates-long fs m in omega (arith, g, l, few)

pub small-found : (fs : List Flat) (r : RawModule) → IsWell r → (found : Found) → AreParts fs (module_view r) found → found.gates ≤ 1000000 → r.inputs + found.gates < 2 ^ 32 → length (module_view r).inputs + length (flat fs (module_view r)).gates < 2 ^ 32
small-found fs r w found p few s = let g = found-gates fs (module_view r) found p few in let c = w.count in omega (arith, g, c, s)

pub bare-found : (fs : List Flat) (r : RawModule) → IsWell r → (found : Found) → AreParts fs (module_view r) found → found.gates ≤ 1000000 → bare_wiring r.inputs found.gates ≡ bare_wiring (length (module_view r).inputs) (length (flat fs (module_view r)).gates)
bare-found fs r w found p few = λ j. bare_wiring (w.count j) (found-gates fs (module_view r) found p few j)

pub out-read : (new mid : Wiring) (drivers outputs ds os : List ℕ) → new ≡ with_outputs mid (values_at drivers outputs) → drivers ≡ ds → outputs ≡ os → new ≡ with_outputs mid (values_at ds os)
out-read new mid drivers outputs ds os e d o = e ∙ ap (λ (xs : List ℕ). with_outputs mid (values_at xs outputs)) d ∙ ap (λ (xs : List ℕ). with_outputs mid (values_at ds xs)) o
