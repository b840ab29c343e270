-- Chains of links.
use Rattle.std.proofs.Common.{◌≡◌, ◌⊎◌, inl, inr, ℕ, suc, ◌+◌, ◌<◌, List, length, Some, None, refl, sym, ap, subst, ◌∙◌, arith}
use Rattle.std.specs.Prelude.{slice_get, get_or}
use Rattle.std.specs.Option.{option_map_or}
use Rattle.std.proofs.lemmas.Option.{slice_get-get_or}
use Rattle.cb_model.specs.Bits.{Bits}
use Rattle.cb_heap.specs.declared.Stored.{Stored}
use Rattle.cb_heap.specs.declared.Ref.{Ref}
use Rattle.cb_heap.specs.declared.Stored.TheVariants as cell
use Rattle.cb_heap.specs.Reading.{Reading, CellHolds, CellsHold}
use Rattle.cb_heap.specs.Finite.{Names, IsFinite, ends}
use Rattle.cb_heap.specs.Links.{IsLinked, LinkFalls, IsSolid, IsSolidAt, link_of, chain, chain_step, LeadsTo, arrives, goes, IsLast}
use Rattle.cb_heap.proofs.Steps.{some-inj, no_some}

pub links-name : (r : ℕ) (c : Stored) (to : Ref) → link_of c ≡ Some to → Names r c to.0
links-name r (cell.Bound x) to e = ap (λ (y : Ref). y.0) (sym (some-inj x to e))
links-name r (cell.Same x) to e = ap (λ (y : Ref). y.0) (sym (some-inj x to e))
links-name r (cell.Leaf s) to e = absurd (no_some _ to refl e)
links-name r cell.BusVar to e = absurd (no_some _ to refl e)
links-name r cell.BusNil to e = absurd (no_some _ to refl e)
links-name r (cell.BusCons a b) to e = absurd (no_some _ to refl e)
links-name r cell.TermVar to e = absurd (no_some _ to refl e)
links-name r (cell.Int z) to e = absurd (no_some _ to refl e)
links-name r (cell.Node n k) to e = absurd (no_some _ to refl e)

pub link-within : (cs : List Stored) → IsLinked cs → (r : ℕ) (c : Stored) (to : Ref) → slice_get cs r ≡ Some c → link_of c ≡ Some to → to.0 < length cs
link-within cs h r c to is e = h.within r to.0 (c, is, links-name r c to e)

pub link-value : (w : Bits) (g : Reading) (r : ℕ) (c : Stored) (to : Ref) → link_of c ≡ Some to → CellHolds w g r c → g r ≡ g to.0
link-value w g r (cell.Bound x) to e h = h ∙ ap (λ (y : Ref). g y.0) (some-inj x to e)
link-value w g r (cell.Same x) to e h = h ∙ ap (λ (y : Ref). g y.0) (some-inj x to e)
link-value w g r (cell.Leaf s) to e h = absurd (no_some _ to refl e)
link-value w g r cell.BusVar to e h = absurd (no_some _ to refl e)
link-value w g r cell.BusNil to e h = absurd (no_some _ to refl e)
link-value w g r (cell.BusCons a b) to e h = absurd (no_some _ to refl e)
link-value w g r cell.TermVar to e h = absurd (no_some _ to refl e)
link-value w g r (cell.Int z) to e h = absurd (no_some _ to refl e)
link-value w g r (cell.Node n k) to e h = absurd (no_some _ to refl e)

chain-at : (cs : List Stored) (r : ℕ) (c : Stored) → slice_get cs r ≡ Some c → chain cs r ≡ chain_step (length cs) r c
chain-at cs r c is = ap (λ o. option_map_or (chain_step (length cs) r) o 0) is

-- below a variable's link, whatever stands where it leads
below-bound : (n r j : ℕ) (c : Stored) → j < n → (j < r) ⊎ IsSolid c → chain_step n j c < n + suc r
below-bound n r j (cell.Bound x) m (inl l) = omega arith
below-bound n r j (cell.Bound x) m (inr s) = absurd s
below-bound n r j (cell.Same x) m f = omega arith
below-bound n r j (cell.Leaf s) m f = omega arith
below-bound n r j cell.BusVar m f = omega arith
below-bound n r j cell.BusNil m f = omega arith
below-bound n r j (cell.BusCons a b) m f = omega arith
below-bound n r j cell.TermVar m f = omega arith
below-bound n r j (cell.Int z) m f = omega arith
below-bound n r j (cell.Node x k) m f = omega arith

below-same : (n r j : ℕ) (c : Stored) → j < r → IsSolid c → chain_step n j c < suc r
below-same n r j (cell.Bound x) l s = absurd s
below-same n r j (cell.Same x) l s = omega arith
below-same n r j (cell.Leaf z) l s = omega arith
below-same n r j cell.BusVar l s = absurd s
below-same n r j cell.BusNil l s = omega arith
below-same n r j (cell.BusCons a b) l s = omega arith
below-same n r j cell.TermVar l s = absurd s
below-same n r j (cell.Int z) l s = omega arith
below-same n r j (cell.Node x k) l s = omega arith

solid-here : (cs : List Stored) (r j : ℕ) (d : Stored) → slice_get cs j ≡ Some d → (j < r) ⊎ IsSolidAt cs j → (j < r) ⊎ IsSolid d
solid-here cs r j d is (inl l) = inl l
solid-here cs r j d is (inr s) = inr (subst IsSolid (some-inj s.0 d (sym s.1 ∙ is)) s.2)

falls-step : (cs : List Stored) (n r : ℕ) (c d : Stored) (to : Ref) → LinkFalls cs r c → link_of c ≡ Some to → to.0 < n → slice_get cs to.0 ≡ Some d → chain_step n to.0 d < chain_step n r c
falls-step cs n r (cell.Bound x) d to f e m is =
    let same : x ≡ to = some-inj x to e in
    below-bound n r to.0 d m (solid-here cs r to.0 d is (subst (λ (y : Ref). (y.0 < r) ⊎ IsSolidAt cs y.0) same f))
falls-step cs n r (cell.Same x) d to f e m is =
    let same : x ≡ to = some-inj x to e in
    let h : (to.0 < r) × IsSolidAt cs to.0 = subst (λ (y : Ref). (y.0 < r) × IsSolidAt cs y.0) same f in
    below-same n r to.0 d h.0 (subst IsSolid (some-inj h.1.0 d (sym h.1.1 ∙ is)) h.1.2)
falls-step cs n r (cell.Leaf s) d to f e m is = absurd (no_some _ to refl e)
falls-step cs n r cell.BusVar d to f e m is = absurd (no_some _ to refl e)
falls-step cs n r cell.BusNil d to f e m is = absurd (no_some _ to refl e)
falls-step cs n r (cell.BusCons a b) d to f e m is = absurd (no_some _ to refl e)
falls-step cs n r cell.TermVar d to f e m is = absurd (no_some _ to refl e)
falls-step cs n r (cell.Int z) d to f e m is = absurd (no_some _ to refl e)
falls-step cs n r (cell.Node x k) d to f e m is = absurd (no_some _ to refl e)

pub chain-falls : (cs : List Stored) → IsLinked cs → (r : ℕ) (c : Stored) (to : Ref) → slice_get cs r ≡ Some c → link_of c ≡ Some to → chain cs to.0 < chain cs r
chain-falls cs h r c to is e =
    let m = link-within cs h r c to is e in
    let d = get_or cs to.0 cell.BusNil in
    let there = slice_get-get_or cs to.0 cell.BusNil m in
    let f = falls-step cs (length cs) r c d to (h.falls r c is) e m there in
    subst (λ n. n < chain cs r) (sym (chain-at cs to.0 d there)) (subst (λ n. chain_step (length cs) to.0 d < n) (sym (chain-at cs r c is)) f)

pub only-child : (r : ℕ) (c : Stored) (to : Ref) (j : ℕ) → link_of c ≡ Some to → Names r c j → j ≡ to.0
only-child r (cell.Bound x) to j e n = n ∙ ap (λ (y : Ref). y.0) (some-inj x to e)
only-child r (cell.Same x) to j e n = n ∙ ap (λ (y : Ref). y.0) (some-inj x to e)
only-child r (cell.Leaf s) to j e n = absurd n
only-child r cell.BusVar to j e n = absurd n
only-child r cell.BusNil to j e n = absurd n
only-child r (cell.BusCons a b) to j e n = absurd (no_some _ to refl e)
only-child r cell.TermVar to j e n = absurd n
only-child r (cell.Int z) to j e n = absurd n
only-child r (cell.Node m k) to j e n = absurd (no_some _ to refl e)

pub link-finite : (cs : List Stored) (r : ℕ) (c : Stored) (to : Ref) → slice_get cs r ≡ Some c → link_of c ≡ Some to → IsFinite cs to.0 → IsFinite cs r
link-finite cs r c to is e f = ends (λ j child.
    let same : c ≡ child.0 = some-inj c child.0 (sym is ∙ child.1) in
    subst (IsFinite cs) (sym (only-child r c to j e (subst (λ x. Names r x j) (sym same) child.2))) f)

-- ---- ways along links

pub leads-on : (cs : List Stored) (r e : ℕ) (c : Stored) (to : Ref) → LeadsTo cs r e → slice_get cs e ≡ Some c → link_of c ≡ Some to → LeadsTo cs r to.0
leads-on cs r e c to arrives is l = goes c to is l arrives
leads-on cs r e c to (goes d x a b k) is l = goes d x a b (leads-on cs x.0 e c to k is l)

pub leads-value : (w : Bits) (g : Reading) (cs : List Stored) → CellsHold w cs g → (r e : ℕ) → LeadsTo cs r e → g r ≡ g e
leads-value w g cs h r e arrives = refl
leads-value w g cs h r e (goes c to is l k) = link-value w g r c to l (h r c is) ∙ leads-value w g cs h to.0 e k

pub leads-finite : (cs : List Stored) (r e : ℕ) → LeadsTo cs r e → IsFinite cs e → IsFinite cs r
leads-finite cs r e arrives f = f
leads-finite cs r e (goes c to is l k) f = link-finite cs r c to is l (leads-finite cs to.0 e k f)

pub last-is : (cs : List Stored) (r e : ℕ) (c : Stored) → slice_get cs e ≡ Some c → link_of c ≡ None → LeadsTo cs r e → IsLast cs r e
last-is cs r e c is n k = record {
  cell = c;
  there = is;
  no_link = n;
  leads = k;
  value = λ w g h. leads-value w g cs h r e k;
  finite = leads-finite cs r e k;
}
