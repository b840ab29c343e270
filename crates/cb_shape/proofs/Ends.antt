-- The end of a chain of links, and the term that it tells.
use Rattle.std.proofs.Common.{◌≡◌, ℕ, zero, suc, ◌+◌, ◌<◌, arith, length, List, [], ◌∷◌, Option, Some, None, refl, sym, ap, subst, ◌∙◌}
use Rattle.std.specs.Prelude.{slice_get}
use Rattle.cb_laws.proofs.OpenTrees.{Plain, Plains, ALeaf, ABus, AVar, AnInt, ANode}
use Rattle.cb_heap.specs.declared.Ref.{Ref}
use Rattle.cb_heap.specs.declared.Stored.{Stored}
use Rattle.cb_heap.specs.declared.Stored.TheVariants as cell
use Rattle.std.proofs.lemmas.Option.{slice_get_within}
use Rattle.cb_heap.specs.Links.{IsLinked, LeadsTo, arrives, goes, IsLast, link_of}
use Rattle.cb_heap.proofs.Steps.{some-inj, no_some}
use Rattle.cb_shape.specs.Terms.{EndsAt, IsLeaf, IsBus, IsTerm, AreTerms, how_many}

-- what stands in a place is one
pub one-there : (cs : List Stored) (r : ℕ) (c d : Stored) → slice_get cs r ≡ Some c → slice_get cs r ≡ Some d → c ≡ d
one-there cs r c d a b = some-inj c d (sym a ∙ b)

-- the links from a cell have one end
pub one-end : (cs : List Stored) (r e f : ℕ) (c d : Stored) → LeadsTo cs r e → slice_get cs e ≡ Some c → link_of c ≡ None →
    LeadsTo cs r f → slice_get cs f ≡ Some d → link_of d ≡ None → e ≡ f
one-end cs r e f c d arrives a n arrives b m = refl
one-end cs r e f c d arrives a n (goes x to is l k) b m =
    absurd (no_some (link_of c) to n (ap link_of (one-there cs r c x a is) ∙ l))
one-end cs r e f c d (goes x to is l k) a n arrives b m =
    absurd (no_some (link_of d) to m (ap link_of (one-there cs r d x b is) ∙ l))
one-end cs r e f c d (goes x to is l k) a n (goes y at is' l' k') b m =
    let same : to ≡ at = some-inj to at (sym l ∙ ap link_of (one-there cs r x y is is') ∙ l') in
    one-end cs to.0 e f c d k a n (subst (λ (q : Ref). LeadsTo cs q.0 f) (sym same) k') b m

-- what the end of a term's cell tells of it
abbrev pub FormAt : List Stored → ℕ → Stored → Plain → Type 0
FormAt cs e (cell.Leaf s) p = p ≡ ALeaf s
FormAt cs e cell.BusVar p = p ≡ ABus [] (Some e)
FormAt cs e cell.BusNil p = p ≡ ABus [] None
FormAt cs e (cell.BusCons h l) p = (s : ℕ) × (ss : List ℕ) × (t : Option ℕ) × (p ≡ ABus (s ∷ ss) t) × IsLeaf cs h.0 s × IsBus cs l.0 ss t
FormAt cs e cell.TermVar p = p ≡ AVar e
FormAt cs e (cell.Int z) p = p ≡ AnInt z
FormAt cs e (cell.Node n k) p = (ps : Plains) × (p ≡ ANode n ps) × (k ≡ how_many ps) × AreTerms cs (suc e) ps
FormAt cs e (cell.Bound to) p = ⊥
FormAt cs e (cell.Same to) p = ⊥

-- a term's cell with its end
record Formed (cs : List Stored) (r : ℕ) (p : Plain) : Type 0 where
  e : ℕ
  c : Stored
  ends : EndsAt cs r e c
  no_link : link_of c ≡ None
  form : FormAt cs e c p

formed : (cs : List Stored) (r : ℕ) (p : Plain) → IsTerm cs r p → Formed cs r p
formed cs r (ALeaf s) h = record { e = h.0; c = cell.Leaf s; ends = h.1; no_link = refl; form = refl }
formed cs r (ABus [] None) h = record { e = h.0; c = cell.BusNil; ends = h.1; no_link = refl; form = refl }
formed cs r (ABus [] (Some x)) h = record { e = x; c = cell.BusVar; ends = h; no_link = refl; form = refl }
formed cs r (ABus (s ∷ ss) t) h =
    record { e = h.0; c = cell.BusCons h.1 h.2; ends = h.3; no_link = refl; form = (s, ss, t, refl, h.4, h.5) }
formed cs r (AVar x) h = record { e = x; c = cell.TermVar; ends = h; no_link = refl; form = refl }
formed cs r (AnInt z) h = record { e = h.0; c = cell.Int z; ends = h.1; no_link = refl; form = refl }
formed cs r (ANode n ps) h = record { e = h.0; c = cell.Node n (how_many ps); ends = h.1; no_link = refl; form = (ps, refl, refl, h.2) }

-- the last cell tells the term
pub form-at : (cs : List Stored) (r e : ℕ) (c : Stored) (p : Plain) → IsLast cs r e → slice_get cs e ≡ Some c → IsTerm cs r p → FormAt cs e c p
form-at cs r e c p l is h =
    let f = formed cs r p h in
    let none : link_of c ≡ None = ap link_of (one-there cs e c l.cell is l.there) ∙ l.no_link in
    let at : f.e ≡ e = one-end cs r f.e e f.c c f.ends.leads f.ends.there f.no_link l.leads is none in
    let there : slice_get cs e ≡ Some f.c = subst (λ x. slice_get cs x ≡ Some f.c) at f.ends.there in
    subst (λ x. FormAt cs e x p) (one-there cs e f.c c there is) (subst (λ x. FormAt cs x f.c p) at f.form)

-- the last cell is no link
pub no-link : (cs : List Stored) (r e : ℕ) (c : Stored) → IsLast cs r e → slice_get cs e ≡ Some c → link_of c ≡ None
no-link cs r e c l is = ap link_of (one-there cs e c l.cell is l.there) ∙ l.no_link

-- the slot of a leaf
pub leaf-slot : (cs : List Stored) (r e : ℕ) (x s : ℕ) → IsLast cs r e → slice_get cs e ≡ Some (cell.Leaf x) → IsLeaf cs r s → x ≡ s
leaf-slot cs r e x s l is h = leaf-same s x (form-at cs r e (cell.Leaf x) (ALeaf s) l is h)
  where
    slot-in : ℕ → Plain → ℕ
    slot-in d (ALeaf y) = y
    slot-in d p = d

    leaf-same : (s x : ℕ) → ALeaf s ≡ ALeaf x → x ≡ s
    leaf-same s x q = sym (ap (slot-in 0) q)

-- a leaf's last cell is a leaf
pub leaf-last : (cs : List Stored) (r e : ℕ) (c : Stored) (s : ℕ) → IsLast cs r e → slice_get cs e ≡ Some c → IsLeaf cs r s → c ≡ cell.Leaf s
leaf-last cs r e c s l is h =
    let none = no-link cs r e c l is in
    let at : h.0 ≡ e = one-end cs r h.0 e (cell.Leaf s) c h.1.leads h.1.there refl l.leads is none in
    one-there cs e c (cell.Leaf s) is (subst (λ x. slice_get cs x ≡ Some (cell.Leaf s)) at h.1.there)

-- a term's cell is there
pub term-there : (cs : List Stored) (r : ℕ) (p : Plain) → IsTerm cs r p → (c : Stored) × (slice_get cs r ≡ Some c)
term-there cs r p h = let f = formed cs r p h in led r f.e f.c f.ends.leads f.ends.there
  where
    led : (r e : ℕ) (c : Stored) → LeadsTo cs r e → slice_get cs e ≡ Some c → (d : Stored) × (slice_get cs r ≡ Some d)
    led r e c arrives is = (c, is)
    led r e c (goes x to at l k) is = (x, at)

-- the arguments of a name are there
pub node-behind : (cs : List Stored) → IsLinked cs → (e n k : ℕ) → slice_get cs e ≡ Some (cell.Node n k) → e + k < length cs
node-behind cs l e n zero is = let w = slice_get_within cs e (cell.Node n 0) is in omega arith
node-behind cs l e n (suc k) is = l.within e (e + suc k) (cell.Node n (suc k), is, (omega arith, omega arith))

-- ---- buses

abbrev pub SamePair : List ℕ × Option ℕ → List ℕ × Option ℕ → Type 0
SamePair x y = x ≡ y

-- an element of a bus, and the rest of it
pub record AtBus (cs : List Stored) (h l : Ref) (ss : List ℕ) (t : Option ℕ) : Type 0 where
  pub s : ℕ
  pub rest : List ℕ
  pub is : ss ≡ s ∷ rest
  pub leaf : IsLeaf cs h.0 s
  pub bus : IsBus cs l.0 rest t

abbrev slots-in : Plain → List ℕ
slots-in (ABus ss t) = ss
slots-in p = []

abbrev tail-in : Plain → Option ℕ
tail-in (ABus ss t) = t
tail-in p = None

pub bus-at : (cs : List Stored) (r e : ℕ) (h l : Ref) (ss : List ℕ) (t : Option ℕ) → IsLast cs r e → slice_get cs e ≡ Some (cell.BusCons h l) → IsBus cs r ss t → AtBus cs h l ss t
bus-at cs r e h l ss t last is b =
    let f : FormAt cs e (cell.BusCons h l) (ABus ss t) = form-at cs r e (cell.BusCons h l) (ABus ss t) last is b in
    record {
      s = f.0;
      rest = f.1;
      is = ap slots-in f.3;
      leaf = f.4;
      bus = subst (λ x. IsBus cs l.0 f.1 x) (sym (ap tail-in f.3)) f.5;
    }

pub bus-nil : (cs : List Stored) (r e : ℕ) (ss : List ℕ) (t : Option ℕ) → IsLast cs r e → slice_get cs e ≡ Some cell.BusNil → IsBus cs r ss t → SamePair (ss, t) ([], None)
bus-nil cs r e ss t last is b =
    let f : ABus ss t ≡ ABus [] None = form-at cs r e cell.BusNil (ABus ss t) last is b in
    ap (λ p. (slots-in p, tail-in p)) f

pub bus-var : (cs : List Stored) (r e : ℕ) (ss : List ℕ) (t : Option ℕ) → IsLast cs r e → slice_get cs e ≡ Some cell.BusVar → IsBus cs r ss t → SamePair (ss, t) ([], Some e)
bus-var cs r e ss t last is b =
    let f : ABus ss t ≡ ABus [] (Some e) = form-at cs r e cell.BusVar (ABus ss t) last is b in
    ap (λ p. (slots-in p, tail-in p)) f

-- nothing else stands at the end of a bus
pub bus-ends : (cs : List Stored) (r e : ℕ) (c : Stored) (ss : List ℕ) (t : Option ℕ) → IsLast cs r e → slice_get cs e ≡ Some c → IsBus cs r ss t →
    (c ≡ cell.BusNil → ⊥) → (c ≡ cell.BusVar → ⊥) → ((h l : Ref) → c ≡ cell.BusCons h l → ⊥) → ⊥
bus-ends cs r e c ss t last is b nil var cons = at c (form-at cs r e c (ABus ss t) last is b) nil var cons
  where
    is-bus : Plain → ℕ
    is-bus (ABus xs y) = 1
    is-bus p = 0

    none : (p : Plain) → is-bus p ≡ 0 → ABus ss t ≡ p → ⊥
    none p z q = absurd (let w : 1 ≡ 0 = ap is-bus q ∙ z in omega arith)

    at : (c : Stored) → FormAt cs e c (ABus ss t) → (c ≡ cell.BusNil → ⊥) → (c ≡ cell.BusVar → ⊥) → ((h l : Ref) → c ≡ cell.BusCons h l → ⊥) → ⊥
    at (cell.Leaf s) f nil var cons = none (ALeaf s) refl f
    at cell.BusVar f nil var cons = var refl
    at cell.BusNil f nil var cons = nil refl
    at (cell.BusCons h l) f nil var cons = cons h l refl
    at cell.TermVar f nil var cons = none (AVar e) refl f
    at (cell.Int z) f nil var cons = none (AnInt z) refl f
    at (cell.Node n k) f nil var cons = none (ANode n f.0) refl f.1
    at (cell.Bound to) f nil var cons = f
    at (cell.Same to) f nil var cons = f
