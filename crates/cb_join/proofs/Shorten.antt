-- Links that are led to the end of their way.
use Rattle.std.proofs.Common.{◌≡◌, ◌≢◌, ◌⊎◌, inl, inr, ℕ, ◌<◌, ◌↔◌, List, length, Some, None, refl, sym, ap, subst, ◌∙◌, arith}
use Rattle.std.specs.Prelude.{slice_get, slice_set}
use Rattle.std.specs.Option.{option_map_or}
use Rattle.std.proofs.lemmas.List.{length-set}
use Rattle.std.proofs.lemmas.Option.{slice_get_within}
use Rattle.cb_model.specs.declared.Sort.{Sort}
use Rattle.cb_model.specs.Bits.{Bits, Each}
use Rattle.cb_model.specs.Values.{Sorts}
use Rattle.cb_heap.specs.declared.Stored.{Stored}
use Rattle.cb_heap.specs.declared.Stored.TheVariants as cell
use Rattle.cb_heap.specs.declared.Ref.{Ref}
use Rattle.cb_heap.specs.Reading.{Reading, CellHolds, IsReading, form_of}
use Rattle.cb_heap.specs.Finite.{CellSorted, IsSorted}
use Rattle.cb_heap.specs.Links.{IsLast, IsLinked, IsSolid, IsSolidAt, LeadsTo, LinkFalls, arrives, chain, chain_step, goes, link_of}
use Rattle.cb_heap.proofs.Chains.{chain-falls, leads-value, link-value, only-child}
use Rattle.cb_heap.proofs.Rewriting.{linked-set, solid-stays, sorted-set}
use Rattle.cb_heap.proofs.Steps.{get-set-other, holds-back, holds-into, holds-new, no_some, some-inj}
use Rattle.cb_join.specs.Joins.{Clashes, Equated, IsEnd, IsEndOf, IsShortened, IsWithin, leaf_of, relinked, work_of}
use Rattle.cb_join.specs.Cycle.{IsLinkTo}
use Rattle.cb_join.proofs.Ends.{ends-short}
use Rattle.cb_join.proofs.Joins.{keeps-on, leaf-set, rising-set, slots-set, work-set}

-- ---- one link

link-says : (w : Bits) (g : Reading) (r : ℕ) (c : Stored) (to : Ref) → link_of c ≡ Some to → g r ≡ g to.0 → CellHolds w g r c
link-says w g r (cell.Bound x) to e h = h ∙ ap (λ (y : Ref). g y.0) (sym (some-inj x to e))
link-says w g r (cell.Same x) to e h = h ∙ ap (λ (y : Ref). g y.0) (sym (some-inj x to e))
link-says w g r (cell.Leaf s) to e h = absurd (no_some _ to refl e)
link-says w g r cell.BusVar to e h = absurd (no_some _ to refl e)
link-says w g r cell.BusNil to e h = absurd (no_some _ to refl e)
link-says w g r (cell.BusCons a b) to e h = absurd (no_some _ to refl e)
link-says w g r cell.TermVar to e h = absurd (no_some _ to refl e)
link-says w g r (cell.Int z) to e h = absurd (no_some _ to refl e)
link-says w g r (cell.Node n k) to e h = absurd (no_some _ to refl e)

relinked-link : (c : Stored) (e : Ref) → link_of (relinked c e) ≡ Some e
relinked-link (cell.Same x) e = refl
relinked-link (cell.Bound x) e = refl
relinked-link (cell.Leaf s) e = refl
relinked-link cell.BusVar e = refl
relinked-link cell.BusNil e = refl
relinked-link (cell.BusCons a b) e = refl
relinked-link cell.TermVar e = refl
relinked-link (cell.Int z) e = refl
relinked-link (cell.Node n k) e = refl

-- of a link nothing is left to be done, no leaf and no form
no-work : (c : Stored) (to : Ref) → link_of c ≡ Some to → (work_of c ≡ 0) × (leaf_of c ≡ 0) × (form_of c ≡ None)
no-work (cell.Bound x) to e = (refl, refl, refl)
no-work (cell.Same x) to e = (refl, refl, refl)
no-work (cell.Leaf s) to e = absurd (no_some _ to refl e)
no-work cell.BusVar to e = absurd (no_some _ to refl e)
no-work cell.BusNil to e = absurd (no_some _ to refl e)
no-work (cell.BusCons a b) to e = absurd (no_some _ to refl e)
no-work cell.TermVar to e = absurd (no_some _ to refl e)
no-work (cell.Int z) to e = absurd (no_some _ to refl e)
no-work (cell.Node n k) to e = absurd (no_some _ to refl e)

-- ---- how links fall along a way

-- where a cell is older than r or solid, so is the end of its way
bound-end : (cs : List Stored) → IsLinked cs → (r j e : ℕ) → LeadsTo cs j e → (j < r) ⊎ IsSolidAt cs j → (e < r) ⊎ IsSolidAt cs e
bound-end cs h r j e arrives f = f
bound-end cs h r j e (goes (cell.Bound x) to is l k) f =
    let same : x ≡ to = some-inj x to l in
    let falls : (to.0 < j) ⊎ IsSolidAt cs to.0 = subst (λ (y : Ref). (y.0 < j) ⊎ IsSolidAt cs y.0) same (h.falls j (cell.Bound x) is) in
    bound-end cs h r to.0 e k (elim f [
      | inl less ↦ elim falls [ inl a ↦ inl (omega (arith, a, less)) | inr s ↦ inr s ]
      | inr s ↦ absurd (subst IsSolid (some-inj s.0 (cell.Bound x) (sym s.1 ∙ is)) s.2)
    ])
bound-end cs h r j e (goes (cell.Same x) to is l k) f =
    let same : x ≡ to = some-inj x to l in
    let falls : (to.0 < j) × IsSolidAt cs to.0 = subst (λ (y : Ref). (y.0 < j) × IsSolidAt cs y.0) same (h.falls j (cell.Same x) is) in
    bound-end cs h r to.0 e k (inr falls.1)
bound-end cs h r j e (goes (cell.Leaf s) to is l k) f = absurd (no_some _ to refl l)
bound-end cs h r j e (goes cell.BusVar to is l k) f = absurd (no_some _ to refl l)
bound-end cs h r j e (goes cell.BusNil to is l k) f = absurd (no_some _ to refl l)
bound-end cs h r j e (goes (cell.BusCons a b) to is l k) f = absurd (no_some _ to refl l)
bound-end cs h r j e (goes cell.TermVar to is l k) f = absurd (no_some _ to refl l)
bound-end cs h r j e (goes (cell.Int z) to is l k) f = absurd (no_some _ to refl l)
bound-end cs h r j e (goes (cell.Node n m) to is l k) f = absurd (no_some _ to refl l)

-- where a cell is older than r and solid, so is the end of its way
same-end : (cs : List Stored) → IsLinked cs → (r j e : ℕ) → LeadsTo cs j e → j < r → IsSolidAt cs j → (e < r) × IsSolidAt cs e
same-end cs h r j e arrives less s = (less, s)
same-end cs h r j e (goes (cell.Bound x) to is l k) less s = absurd (subst IsSolid (some-inj s.0 (cell.Bound x) (sym s.1 ∙ is)) s.2)
same-end cs h r j e (goes (cell.Same x) to is l k) less s =
    let same : x ≡ to = some-inj x to l in
    let falls : (to.0 < j) × IsSolidAt cs to.0 = subst (λ (y : Ref). (y.0 < j) × IsSolidAt cs y.0) same (h.falls j (cell.Same x) is) in
    same-end cs h r to.0 e k (let a = falls.0 in omega (arith, a, less)) falls.1
same-end cs h r j e (goes (cell.Leaf z) to is l k) less s = absurd (no_some _ to refl l)
same-end cs h r j e (goes cell.BusVar to is l k) less s = absurd (no_some _ to refl l)
same-end cs h r j e (goes cell.BusNil to is l k) less s = absurd (no_some _ to refl l)
same-end cs h r j e (goes (cell.BusCons a b) to is l k) less s = absurd (no_some _ to refl l)
same-end cs h r j e (goes cell.TermVar to is l k) less s = absurd (no_some _ to refl l)
same-end cs h r j e (goes (cell.Int z) to is l k) less s = absurd (no_some _ to refl l)
same-end cs h r j e (goes (cell.Node n m) to is l k) less s = absurd (no_some _ to refl l)

-- one sort along a way
link-sort : (t : Sorts) (ss : List Sort) (r : ℕ) (c : Stored) (to : Ref) → link_of c ≡ Some to → CellSorted t ss r c → (s : Sort) × (slice_get ss r ≡ Some s) × (slice_get ss to.0 ≡ Some s)
link-sort t ss r (cell.Bound x) to e h = (h.0, h.1, ap (λ (y : Ref). slice_get ss y.0) (sym (some-inj x to e)) ∙ h.2)
link-sort t ss r (cell.Same x) to e h = (h.0, h.1, ap (λ (y : Ref). slice_get ss y.0) (sym (some-inj x to e)) ∙ h.2)
link-sort t ss r (cell.Leaf s) to e h = absurd (no_some _ to refl e)
link-sort t ss r cell.BusVar to e h = absurd (no_some _ to refl e)
link-sort t ss r cell.BusNil to e h = absurd (no_some _ to refl e)
link-sort t ss r (cell.BusCons a b) to e h = absurd (no_some _ to refl e)
link-sort t ss r cell.TermVar to e h = absurd (no_some _ to refl e)
link-sort t ss r (cell.Int z) to e h = absurd (no_some _ to refl e)
link-sort t ss r (cell.Node n k) to e h = absurd (no_some _ to refl e)

leads-sort : (t : Sorts) (ss : List Sort) (cs : List Stored) → IsSorted t ss cs → (j e : ℕ) → LeadsTo cs j e → (s : Sort) → slice_get ss j ≡ Some s → slice_get ss e ≡ Some s
leads-sort t ss cs h j e arrives s is = is
leads-sort t ss cs h j e (goes c to at l k) s is =
    let q = link-sort t ss j c to l (h.cells j c at) in
    leads-sort t ss cs h to.0 e k s (q.2 ∙ sym q.1 ∙ is)

link-sorted : (t : Sorts) (ss : List Sort) (r : ℕ) (c : Stored) (e : Ref) (s : Sort) → slice_get ss r ≡ Some s → slice_get ss e.0 ≡ Some s → CellSorted t ss r (relinked c e)
link-sorted t ss r (cell.Same x) e s a b = (s, a, b)
link-sorted t ss r (cell.Bound x) e s a b = (s, a, b)
link-sorted t ss r (cell.Leaf z) e s a b = (s, a, b)
link-sorted t ss r cell.BusVar e s a b = (s, a, b)
link-sorted t ss r cell.BusNil e s a b = (s, a, b)
link-sorted t ss r (cell.BusCons x y) e s a b = (s, a, b)
link-sorted t ss r cell.TermVar e s a b = (s, a, b)
link-sorted t ss r (cell.Int z) e s a b = (s, a, b)
link-sorted t ss r (cell.Node n k) e s a b = (s, a, b)

keeps-solid : (c : Stored) (to e : Ref) → link_of c ≡ Some to → IsSolid c → IsSolid (relinked c e)
keeps-solid (cell.Same x) to e l s = tt
keeps-solid (cell.Bound x) to e l s = absurd s
keeps-solid (cell.Leaf z) to e l s = absurd (no_some _ to refl l)
keeps-solid cell.BusVar to e l s = absurd (no_some _ to refl l)
keeps-solid cell.BusNil to e l s = absurd (no_some _ to refl l)
keeps-solid (cell.BusCons a b) to e l s = absurd (no_some _ to refl l)
keeps-solid cell.TermVar to e l s = absurd (no_some _ to refl l)
keeps-solid (cell.Int z) to e l s = absurd (no_some _ to refl l)
keeps-solid (cell.Node n k) to e l s = absurd (no_some _ to refl l)

old-falls : (cs : List Stored) (r : ℕ) (c : Stored) (to : Ref) → link_of c ≡ Some to → LinkFalls cs r c → ((to.0 < r) ⊎ IsSolidAt cs to.0) × (IsSolid c → (to.0 < r) × IsSolidAt cs to.0)
old-falls cs r (cell.Bound x) to l h = let same : x ≡ to = some-inj x to l in (subst (λ (y : Ref). (y.0 < r) ⊎ IsSolidAt cs y.0) same h, λ s. absurd s)
old-falls cs r (cell.Same x) to l h = let same : x ≡ to = some-inj x to l in let f : (to.0 < r) × IsSolidAt cs to.0 = subst (λ (y : Ref). (y.0 < r) × IsSolidAt cs y.0) same h in (inl f.0, λ s. f)
old-falls cs r (cell.Leaf z) to l h = absurd (no_some _ to refl l)
old-falls cs r cell.BusVar to l h = absurd (no_some _ to refl l)
old-falls cs r cell.BusNil to l h = absurd (no_some _ to refl l)
old-falls cs r (cell.BusCons a b) to l h = absurd (no_some _ to refl l)
old-falls cs r cell.TermVar to l h = absurd (no_some _ to refl l)
old-falls cs r (cell.Int z) to l h = absurd (no_some _ to refl l)
old-falls cs r (cell.Node n k) to l h = absurd (no_some _ to refl l)

new-falls : (cs : List Stored) (r : ℕ) (c : Stored) (to e : Ref) → link_of c ≡ Some to → (e.0 < r) ⊎ IsSolidAt cs e.0 → (IsSolid c → (e.0 < r) × IsSolidAt cs e.0) → LinkFalls cs r (relinked c e)
new-falls cs r (cell.Bound x) to e l f g = f
new-falls cs r (cell.Same x) to e l f g = g tt
new-falls cs r (cell.Leaf z) to e l f g = absurd (no_some _ to refl l)
new-falls cs r cell.BusVar to e l f g = absurd (no_some _ to refl l)
new-falls cs r cell.BusNil to e l f g = absurd (no_some _ to refl l)
new-falls cs r (cell.BusCons a b) to e l f g = absurd (no_some _ to refl l)
new-falls cs r cell.TermVar to e l f g = absurd (no_some _ to refl l)
new-falls cs r (cell.Int z) to e l f g = absurd (no_some _ to refl l)
new-falls cs r (cell.Node n k) to e l f g = absurd (no_some _ to refl l)

-- ---- a link led to the end of its way

chain-same : (cs cs' : List Stored) (r : ℕ) → length cs' ≡ length cs → slice_get cs' r ≡ slice_get cs r → chain cs' r ≡ chain cs r
chain-same cs cs' r n e = ap (λ o. option_map_or (chain_step (length cs') r) o 0) e ∙ ap (λ k. option_map_or (chain_step k r) (slice_get cs r) 0) n

leads-beside : (cs : List Stored) → IsLinked cs → (at : ℕ) (d : Stored) (r e : ℕ) → LeadsTo cs r e → chain cs r < chain cs at → LeadsTo (slice_set cs at d) r e
leads-beside cs h at d r e arrives less = arrives
leads-beside cs h at d r e (goes c to is l k) less =
    let apart : r ≢ at = λ same. let x : chain cs r ≡ chain cs at = ap (chain cs) same in omega (arith, x, less) in
    let f = chain-falls cs h r c to is l in
    goes c to (get-set-other cs at r d apart ∙ is) l (leads-beside cs h at d to.0 e k (omega (arith, f, less)))

module _ (ss : List Sort) (cs : List Stored) (linked : IsLinked cs) (at : ℕ) (c : Stored) (to e : Ref) (is : slice_get cs at ≡ Some c) (li : link_of c ≡ Some to) (leads : LeadsTo cs to.0 e.0) (end : IsEnd cs e.0) where
  abbrev after : List Stored
  after = slice_set cs at (relinked c e)

  below : chain cs to.0 < chain cs at
  below = chain-falls cs linked at c to is li

  pub still-leads : LeadsTo after to.0 e.0
  still-leads = leads-beside cs linked at (relinked c e) to.0 e.0 leads below

  pub link-less : chain after to.0 < chain cs at
  link-less =
      let apart : to.0 ≢ at = λ same. let b = below in let x : chain cs to.0 ≡ chain cs at = ap (chain cs) same in omega (arith, x, b) in
      let b = below in
      let x = chain-same cs after to.0 (length-set cs at (relinked c e)) (get-set-other cs at to.0 (relinked c e) apart) in
      omega (arith, b, x)

  pub then-linked : IsLinked after
  then-linked =
      let f = old-falls cs at c to li (linked.falls at c is) in
      let keep : (IsSolid c → IsSolid (relinked c e)) = keeps-solid c to e li in
      linked-set cs at (relinked c e) c is linked keep
      (new-falls after at c to e li
      (elim (bound-end cs linked at to.0 e.0 leads f.0) [ inl a ↦ inl a | inr s ↦ inr (solid-stays cs at (relinked c e) c is keep e.0 s) ])
      (λ s. let x = f.1 s in let y = same-end cs linked at to.0 e.0 leads x.0 x.1 in (y.0, solid-stays cs at (relinked c e) c is keep e.0 y.1)))
      (λ j n. subst (λ k. k < length cs) (sym (only-child at (relinked c e) e j (relinked-link c e) n)) (slice_get_within cs e.0 end.0 end.1))

  still-end : (r : ℕ) → IsEnd cs r → IsEnd after r
  still-end r h = (h.0, get-set-other cs at r (relinked c e) (λ same. no_some (link_of c) to (subst (λ x. link_of x ≡ None) (some-inj h.0 c (sym h.1 ∙ ap (λ k. slice_get cs k) same ∙ is)) h.2) li) ∙ h.1, h.2)

  pub link-shortened : IsShortened ss cs after
  link-shortened = record {
    reads = λ t w g. (
      λ q. record { fits = q.fits; holds = holds-into w cs g at (relinked c e) c is q.holds (link-says w g at (relinked c e) e (relinked-link c e) (link-value w g at c to li (q.holds at c is) ∙ leads-value w g cs q.holds to.0 e.0 leads)) },
      λ q. record { fits = q.fits; holds = holds-back w cs g at (relinked c e) c is q.holds (link-says w g at c to li (link-value w g at (relinked c e) e (relinked-link c e) (holds-new w cs g at (relinked c e) c is q.holds) ∙ sym (leads-value w g after q.holds to.0 e.0 still-leads))) },
    );
    ends = still-end;
    keeps = λ ls. record {
      sorted = λ t o. let q = link-sort t ss at c to li (o.cells at c is) in sorted-set cs at (relinked c e) c is t ss o (link-sorted t ss at c e q.0 q.1 (leads-sort t ss cs o to.0 e.0 leads q.0 q.2));
      slots = λ n a b. (slots-set n cs at (relinked c e) c is (no-work (relinked c e) e (relinked-link c e)).2 a, b);
      rises = λ n k o. rising-set n k cs at (relinked c e) (no-work (relinked c e) e (relinked-link c e)).2 o;
      fewer = let x = leaf-set cs at (relinked c e) c is in let a = (no-work c to li).1 in let b = (no-work (relinked c e) e (relinked-link c e)).1 in omega (arith, x, a, b);
      ends = ends-short cs at c (relinked c e) to e is li (relinked-link c e) leads end still-end;
    };
    number = length-set cs at (relinked c e);
    work = let x = work-set cs at (relinked c e) c is in let a = (no-work c to li).0 in let b = (no-work (relinked c e) e (relinked-link c e)).0 in omega (arith, x, a, b);
  }

pub none-shortened : (ss : List Sort) (cs : List Stored) → IsShortened ss cs cs
none-shortened ss cs = record {
  reads = λ t w g. (λ q. q, λ q. q);
  ends = λ r h. h;
  keeps = λ ls. record { sorted = λ t o. o; slots = λ n a b. (a, b); rises = λ n k o. o; fewer = omega arith; ends = λ r j h. h };
  number = refl;
  work = refl;
}

pub shortened-then : (ss : List Sort) (a b d : List Stored) → IsShortened ss a b → IsShortened ss b d → IsShortened ss a d
shortened-then ss a b d p q = record {
  reads = λ t w g. (λ x. (q.reads t w g).0 ((p.reads t w g).0 x), λ x. (p.reads t w g).1 ((q.reads t w g).1 x));
  ends = λ r h. q.ends r (p.ends r h);
  keeps = λ ls. record {
    sorted = λ t o. (q.keeps ls).sorted t ((p.keeps ls).sorted t o);
    slots = λ n x y. let z = (p.keeps ls).slots n x y in (q.keeps ls).slots n z.0 z.1;
    rises = λ n k o. (q.keeps ls).rises n k ((p.keeps ls).rises n k o);
    fewer = let x = (p.keeps ls).fewer in let y = (q.keeps ls).fewer in omega (arith, x, y);
    ends = λ r j h. (q.keeps ls).ends r j ((p.keeps ls).ends r j h);
  };
  number = q.number ∙ p.number;
  work = q.work ∙ p.work;
}

-- ---- the end of a way

pub link-here : (cs : List Stored) (at : ℕ) (c : Stored) (to : Ref) → slice_get cs at ≡ Some c → IsLinkTo cs at to → link_of c ≡ Some to
link-here cs at c to is link = ap link_of (some-inj c link.0 (sym is ∙ link.1)) ∙ link.2

pub still-there : (ss : List Sort) (cs cs' : List Stored) (r : ℕ) → IsShortened ss cs cs' → r < length cs → r < length cs'
still-there ss cs cs' r h less = subst (λ n. r < n) (sym h.number) less

pub end-there : (cs : List Stored) (e : ℕ) → IsEnd cs e → e < length cs
end-there cs e h = slice_get_within cs e h.0 h.1

pub last-end : (cs : List Stored) (r e : ℕ) → IsLast cs r e → IsEnd cs e
last-end cs r e l = (l.cell, l.there, l.no_link)

pub end-of : (ss : List Sort) (cs cs' : List Stored) (r e : ℕ) → IsLast cs r e → IsShortened ss cs cs' → IsEndOf ss cs cs' r e
end-of ss cs cs' r e l h = record { value = λ t w g q. l.value w g q.holds; end = h.ends e (last-end cs r e l) }

-- ---- both ends of a pair

module _ (ss zs : List Sort) (same : zs ≡ ss) (cs mid new : List Stored) (l r e f : ℕ) (a : IsEndOf ss cs mid l e) (p : IsShortened ss cs mid) (b' : IsEndOf zs mid new r f) (q' : IsShortened zs mid new) where
  b : IsEndOf ss mid new r f
  b = subst (λ (x : List Sort). IsEndOf x mid new r f) same b'

  q : IsShortened ss mid new
  q = subst (λ (x : List Sort). IsShortened x mid new) same q'

  pub both : IsShortened ss cs new
  both = shortened-then ss cs mid new p q

  pub both-ends : IsEnd new e × IsEnd new f
  both-ends = (q.ends e a.end, b.end)

  values : (t : Sorts) (w : Bits) (g : Reading) → IsReading t w ss cs g → (g l ≡ g r) ↔ (g e ≡ g f)
  values t w g h =
      let x = a.value t w g h in
      let y = b.value t w g ((p.reads t w g).0 h) in
      (λ k. sym x ∙ k ∙ y, λ k. x ∙ k ∙ sym y)

  pub within-both : (ps : List (ℕ × ℕ)) → IsWithin cs ps → IsWithin new ps
  within-both ps h = subst (λ n. Each (λ (x : ℕ × ℕ). (x.0 < n) × (x.1 < n)) ps) (sym both.number) h

  pub skip : (ps ls : List (ℕ × ℕ)) → IsLinked new → IsWithin cs ps → e ≡ f → Equated ss cs ps ls l r new ps ls
  skip ps ls linked wi one = record {
    joined = λ t w g. (
      λ x. ((both.reads t w g).0 x.0, x.1.1, x.2),
      λ y. let x = (both.reads t w g).1 y.0 in (x, ((values t w g x).1 (ap g one), y.1), y.2),
    );
    linked = linked;
    within = within-both ps wi;
    keeps = both.keeps ls;
    less = let x = both.work in omega (arith, x);
  }

  turned : (u : ℕ × ℕ) → (u ≡ (e, f)) ⊎ (u ≡ (f, e)) → (g : Reading) → (g e ≡ g f) ↔ (g u.0 ≡ g u.1)
  turned u (inl h) g = (λ x. ap (λ (k : ℕ × ℕ). g k.0) h ∙ x ∙ sym (ap (λ (k : ℕ × ℕ). g k.1) h), λ x. sym (ap (λ (k : ℕ × ℕ). g k.0) h) ∙ x ∙ ap (λ (k : ℕ × ℕ). g k.1) h)
  turned u (inr h) g = (λ x. ap (λ (k : ℕ × ℕ). g k.0) h ∙ sym x ∙ sym (ap (λ (k : ℕ × ℕ). g k.1) h), λ x. sym (ap (λ (k : ℕ × ℕ). g k.1) h) ∙ sym x ∙ ap (λ (k : ℕ × ℕ). g k.0) h)

  pub made-one : (u : ℕ × ℕ) → (u ≡ (e, f)) ⊎ (u ≡ (f, e)) → (ps ls : List (ℕ × ℕ)) (us : List Sort) → us ≡ ss → (cs' : List Stored) (ps' ls' : List (ℕ × ℕ)) → Equated us new ps ls u.0 u.1 cs' ps' ls' → Equated ss cs ps ls l r cs' ps' ls'
  made-one u turn ps ls us one cs' ps' ls' eq = record {
    joined = λ t w g. (
      λ x. (k.joined t w g).0 ((both.reads t w g).0 x.0, ((turned u turn g).0 ((values t w g x.0).0 x.1.0), x.1.1), x.2),
      λ y. let x = (k.joined t w g).1 y in let z = (both.reads t w g).1 x.0 in (z, ((values t w g z).1 ((turned u turn g).1 x.1.0), x.1.1), x.2),
    );
    linked = k.linked;
    within = k.within;
    keeps = keeps-on ss cs ps ls ss new cs' ls ls' refl (both.keeps ls) k.keeps;
    less = let x = both.work in let y = k.less in omega (arith, x, y);
  }
    where
      k : Equated ss new ps ls u.0 u.1 cs' ps' ls'
      k = subst (λ (x : List Sort). Equated x new ps ls u.0 u.1 cs' ps' ls') one eq

  pub clash-both : (u : ℕ × ℕ) → (u ≡ (e, f)) ⊎ (u ≡ (f, e)) → (us : List Sort) → us ≡ ss → Clashes us new u.0 u.1 → Clashes ss cs l r
  clash-both u turn us one n t w g h x =
      (subst (λ (y : List Sort). Clashes y new u.0 u.1) one n) t w g ((both.reads t w g).0 h) ((turned u turn g).0 ((values t w g h).0 x))

  pub both-there : (u : ℕ × ℕ) → (u ≡ (e, f)) ⊎ (u ≡ (f, e)) → (u.0 < length new) × (u.1 < length new)
  both-there u (inl h) = subst (λ (k : ℕ × ℕ). (k.0 < length new) × (k.1 < length new)) (sym h) (end-there new e both-ends.0, end-there new f both-ends.1)
  both-there u (inr h) = subst (λ (k : ℕ × ℕ). (k.0 < length new) × (k.1 < length new)) (sym h) (end-there new f both-ends.1, end-there new e both-ends.0)

  pub ends-both : (u : ℕ × ℕ) → (u ≡ (e, f)) ⊎ (u ≡ (f, e)) → IsEnd new u.0 × IsEnd new u.1
  ends-both u (inl h) = subst (λ (k : ℕ × ℕ). IsEnd new k.0 × IsEnd new k.1) (sym h) (both-ends.0, both-ends.1)
  ends-both u (inr h) = subst (λ (k : ℕ × ℕ). IsEnd new k.0 × IsEnd new k.1) (sym h) (both-ends.1, both-ends.0)
