-- The levels of the leaves that get parameters, leaf by leaf.
use Rattle.std.proofs.Common.{◌≡◌, ◌⊎◌, inl, inr, ℕ, zero, suc, ◌+◌, ◌<◌, ◌≤◌, Bool, true, false, ◌||◌, cond, nat_eq, List, [], ◌∷◌, ◌++◌, map, length, take, get_or, Option, Some, None, IsSome, refl, sym, ap, ◌∙◌, subst, arith, length-append, length-take, eq-eqb}
use Rattle.std.proofs.lemmas.Bool.{cases_eq, ne_eqb}
use Rattle.std.proofs.lemmas.List.{take_more}
use Rattle.std.specs.List.{list_any}
use Rattle.std.specs.Map.{lookup}
use Rattle.std.specs.List.Sorted.{IsStrictlyIncreasing}
use Rattle.cb_model.specs.Bits.{Bits, Each}
use Rattle.cb_dd.specs.declared.Node.{Node}
use Rattle.cb_dd.specs.Diagram.{Store, IsNode, function_of}
use Rattle.cb_ops.specs.Ops.{DependsOn}
use Rattle.cb_ops.specs.Support.{IsListed}
use Rattle.cb_boole.specs.Elimination.{Function}
use Rattle.cb_boole.specs.View.{View}
use Rattle.cb_boole.specs.Form.{Names, IsSettledLeaf, AreSettled}
use Rattle.cb_solution.proofs.Solved.{only-from, rising-more}
use Rattle.cb_elim.specs.declared.Slot.{Slot}
use Rattle.cb_elim.specs.declared.Free.{Free}
use Rattle.cb_elim.specs.Store.{Seen, IsStore, view_of, value_in, stands_in}
use Rattle.cb_project.specs.Answer.{AreSlots, slot_nodes}
use Rattle.cb_project.proofs.Slots.{value-same, there-at, slot-there}
use Rattle.cb_project.specs.Renaming.{Entries, names_in, numbers_of, AreNamed, IsNamedNext}

-- ---- one entry more

names-old : (es : Entries) (x : ℕ × ℕ) (q v : ℕ) → names_in es q ≡ Some v → names_in (es ++ x ∷ []) q ≡ Some v
names-old [] x q v h = absurd (let d : None ≡ Some v = h in cc)
names-old (e ∷ es) x q v h = by (nat_eq q e.0) h (names-old es x q v)
  where
    by : (b : Bool) → cond b (Some e.1) (lookup (nat_eq q) es) ≡ Some v → (lookup (nat_eq q) es ≡ Some v → lookup (nat_eq q) (es ++ x ∷ []) ≡ Some v) →
        cond b (Some e.1) (lookup (nat_eq q) (es ++ x ∷ [])) ≡ Some v
    by true h next = h
    by false h next = next h

names-cases : (es : Entries) (l u q v : ℕ) → names_in (es ++ (l, u) ∷ []) q ≡ Some v → (names_in es q ≡ Some v) ⊎ ((q ≡ l) × (v ≡ u))
names-cases [] l u q v h = by (cases_eq q l)
  where
    by : (q ≡ l) ⊎ (q ≡ l → ⊥) → (names_in [] q ≡ Some v) ⊎ ((q ≡ l) × (v ≡ u))
    by (inl e) = inr (e, (let d : Some u ≡ Some v = sym (subst (λ k. cond (nat_eq k l) (Some u) None ≡ Some u) (sym e) (rw (eq-eqb l l refl) refl)) ∙ h in cc))
    by (inr ne) = absurd (let d : None ≡ Some v = sym (ap (λ b. cond b (Some u) None) (ne_eqb q l ne)) ∙ h in cc)
names-cases (e ∷ es) l u q v h = by (nat_eq q e.0) h (names-cases es l u q v)
  where
    by : (b : Bool) → cond b (Some e.1) (lookup (nat_eq q) (es ++ (l, u) ∷ [])) ≡ Some v → (lookup (nat_eq q) (es ++ (l, u) ∷ []) ≡ Some v → (lookup (nat_eq q) es ≡ Some v) ⊎ ((q ≡ l) × (v ≡ u))) →
        (cond b (Some e.1) (lookup (nat_eq q) es) ≡ Some v) ⊎ ((q ≡ l) × (v ≡ u))
    by true h next = inl h
    by false h next = next h

pub names-none : (n l : ℕ) (es : Entries) → Each (λ e. e.0 < n) es → n ≤ l → names_in es l ≡ None
names-none n l [] below h = refl
names-none n l (e ∷ es) below h =
    ap (λ b. cond b (Some e.1) (lookup (nat_eq l) es)) (ne_eqb l e.0 (λ (i : l ≡ e.0). omega (arith, below.0, i, h))) ∙ names-none n l es below.1 h

keys-below : (n k : ℕ) (es : Entries) → Each (λ e. e.0 < n) es → IsListed (map (λ e. e.0) es) k → k < n
keys-below n k [] below h = absurd (let d : false ≡ true = h in cc)
keys-below n k (e ∷ es) below h = by (cases_eq k e.0) (keys-below n k es below.1)
  where
    by : (k ≡ e.0) ⊎ (k ≡ e.0 → ⊥) → (IsListed (map (λ e. e.0) es) k → k < n) → k < n
    by (inl i) next = omega (arith, i, below.0)
    by (inr ne) next = next (sym (ap (λ b. b || list_any (nat_eq k) (map (λ e. e.0) es)) (ne_eqb k e.0 ne)) ∙ h)

-- ---- leaves that are settled stay so

settled-grow : (S : View) (at at' : Names) (m u : ℕ) (xs : List ℕ) → u + length xs ≤ m → ((k v : ℕ) → at k ≡ Some v → at' k ≡ Some v) → ((k v : ℕ) → at' k ≡ Some v → v < m → at k ≡ Some v) →
    AreSettled S at u xs → AreSettled S at' u xs
settled-grow S at at' m u [] le on off are = tt
settled-grow S at at' m u (x ∷ xs) le on off are = (
  record {
    depends = λ p q h. are.0.depends p q (λ k w. h k (by k w));
    stands = λ l e. are.0.stands l (off l u e (omega (arith, le)));
  },
  settled-grow S at at' m (suc u) xs (omega (arith, le)) on off are.1,
)
  where
    by : (k : ℕ) → (k < S.constants) ⊎ ((v : ℕ) × (at k ≡ Some v) × (v ≤ u)) → (k < S.constants) ⊎ ((v : ℕ) × (at' k ≡ Some v) × (v ≤ u))
    by k (inl w) = inl w
    by k (inr w) = inr (w.0, on k w.0 w.1, w.2)

settled-more : (S : View) (at : Names) (u : ℕ) (xs : List ℕ) (x : ℕ) → AreSettled S at u xs → IsSettledLeaf S at (u + length xs) x → AreSettled S at u (xs ++ x ∷ [])
settled-more S at u [] x are leaf = (subst (λ n. IsSettledLeaf S at n x) (let e : u + 0 ≡ u = omega arith in e) leaf, tt)
settled-more S at u (y ∷ xs) x are leaf =
    (are.0, settled-more S at (suc u) xs x are.1 (subst (λ n. IsSettledLeaf S at n x) (let e : u + suc (length xs) ≡ suc u + length xs = omega arith in e) leaf))

some-value : (o : Option ℕ) → IsSome o → (v : ℕ) × (o ≡ Some v)
some-value (Some v) h = (v, refl)
some-value None h = absurd (let d : false ≡ true = h in cc)

numbers-more : (xs : List Slot) (x : Slot) → numbers_of (xs ++ x ∷ []) ≡ numbers_of xs ++ x.0 ∷ []
numbers-more [] x = refl
numbers-more (y ∷ xs) x = ap (λ l. y.0 ∷ l) (numbers-more xs x)

length-numbers-of : (xs : List Slot) → length (numbers_of xs) ≡ length xs
length-numbers-of [] = refl
length-numbers-of (x ∷ xs) = ap suc (length-numbers-of xs)

length-take-of : (leaves : List Slot) (i : ℕ) → i ≤ length leaves → length (take i leaves) ≡ i
length-take-of leaves i le = omega (arith, length-take i leaves, le)

keys-more : (es : Entries) (l u : ℕ) → map (λ e. e.0) (es ++ (l, u) ∷ []) ≡ map (λ e. e.0) es ++ l ∷ []
keys-more [] l u = refl
keys-more (e ∷ es) l u = ap (λ k. e.0 ∷ k) (keys-more es l u)

below-more : (n m : ℕ) (es : Entries) (l u : ℕ) → n ≤ m → l < m → Each (λ e. e.0 < n) es → Each (λ e. e.0 < m) (es ++ (l, u) ∷ [])
below-more n m [] l u le lt below = (lt, tt)
below-more n m (e ∷ es) l u le lt below = (omega (arith, below.0, le), below-more n m es l u le lt below.1)

-- ---- the next leaf

module _ (s : Seen) (first i : ℕ) (leaves : List Slot) (lt : i < length leaves) (d : Slot) (own : Option ℕ) (n : Node) (support : List ℕ)
    (stands : (l : ℕ) → own ≡ Some l → stands_in s.free l ≡ Some (get_or leaves i d).0)
    (depends : DependsOn s.nodes.triples n.0 support) (value : function_of s.nodes.triples n.0 ≡ value_in s.nodes.triples s.slots (get_or leaves i d).0) where
  abbrev x : ℕ
  x = (get_or leaves i d).0

  abbrev Cover : Entries → Type 0
  Cover es = (k : ℕ) → IsListed support k → (k < s.constants) ⊎ IsSome (names_in es k)

  leaf-is : (es : Entries) → ((l v : ℕ) → names_in es l ≡ Some v → v < first + (i + 1)) → Cover es → ((l : ℕ) → names_in es l ≡ Some (first + i) → stands_in s.free l ≡ Some x) →
      IsSettledLeaf (view_of s) (names_in es) (first + i) x
  unfolding view_of
  leaf-is es high cover named-own = record {
    depends = λ p q h.
        sym (ap (λ (g : Function). g p) value) ∙ only-from s.nodes.triples n.0 support depends p q (λ k there. by p q h k (cover k there)) ∙ ap (λ (g : Function). g q) value;
    stands = named-own;
  }
    where
      by : (p q : Bits) → ((k : ℕ) → (k < s.constants) ⊎ ((v : ℕ) × (names_in es k ≡ Some v) × (v ≤ first + i)) → p k ≡ q k) → (k : ℕ) → (k < s.constants) ⊎ IsSome (names_in es k) → p k ≡ q k
      by p q h k (inl w) = h k (inl w)
      by p q h k (inr w) = let v = some-value (names_in es k) w in let b : v.0 < first + (i + 1) = high k v.0 v.1 in h k (inr (v.0, v.1, omega (arith, b)))

  settled-next : (es : Entries) → AreSettled (view_of s) (names_in es) first (numbers_of (take i leaves)) → IsSettledLeaf (view_of s) (names_in es) (first + i) x →
      AreSettled (view_of s) (names_in es) first (numbers_of (take (i + 1) leaves))
  settled-next es are leaf =
      let m : length (numbers_of (take i leaves)) ≡ i = length-numbers-of (take i leaves) ∙ length-take-of leaves i (omega (arith, lt)) in
      subst (AreSettled (view_of s) (names_in es) first) (sym (ap numbers_of (take_more leaves i d lt) ∙ numbers-more (take i leaves) (get_or leaves i d)))
      (settled-more (view_of s) (names_in es) first (numbers_of (take i leaves)) x are (subst (λ k. IsSettledLeaf (view_of s) (names_in es) (first + k) x) (sym m) leaf))

  pub named-next : (next now : ℕ) (es new : Entries) → AreNamed s first leaves i next es → IsNamedNext es new next now own (first + i) → Cover new → AreNamed s first leaves (i + 1) now new
  named-next next now es new named (inl w) cover =
      let high : (l v : ℕ) → names_in es l ≡ Some v → v < first + (i + 1) = λ l v e. let b = named.bounds l v e in omega (arith, b.2) in
      subst (λ k. AreNamed s first leaves (i + 1) k new) (sym w.1) (subst (λ es'. AreNamed s first leaves (i + 1) next es') (sym w.0) (record {
        bounds = λ l v e. let b = named.bounds l v e in (b.0, b.1, omega (arith, b.2));
        constants = named.constants;
        few = omega (arith, named.few);
        below = named.below;
        rise = named.rise;
        settled = settled-next es named.settled (leaf-is es high (subst Cover w.0 cover) (λ l e. absurd (let b = named.bounds l (first + i) e in omega (arith, b.2))));
      }))
  named-next next now es new named (inr w) cover =
      subst (λ k. AreNamed s first leaves (i + 1) k new) (sym w.3) (subst (λ es'. AreNamed s first leaves (i + 1) (w.0 + 1) es') (sym w.4) (record {
        bounds = bounds;
        constants = omega (arith, named.constants, w.2);
        few = omega (arith, named.few, length-append es ((w.0, first + i) ∷ []));
        below = below-more next (w.0 + 1) es w.0 (first + i) (omega (arith, w.2)) (omega arith) named.below;
        rise = subst IsStrictlyIncreasing (sym (keys-more es w.0 (first + i))) (rising-more (map (λ e. e.0) es) w.0 named.rise (λ k there. let b : k < next = keys-below next k es named.below there in omega (arith, b, w.2)));
        settled = settled-next more
            (settled-grow (view_of s) (names_in es) (names_in more) (first + i) first (numbers_of (take i leaves)) (omega (arith, length-numbers-of (take i leaves), length-take-of leaves i (omega (arith, lt))))
            (λ k v e. names-old es (w.0, first + i) k v e) (λ k v e b. old k v b (names-cases es w.0 (first + i) k v e)) named.settled)
            (leaf-is more (λ l v e. (bounds l v e).2) (subst Cover w.4 cover) (λ l e. here l (names-cases es w.0 (first + i) l (first + i) e)));
      }))
    where
      more : Entries
      more = es ++ (w.0, first + i) ∷ []

      old : (k v : ℕ) → v < first + i → (names_in es k ≡ Some v) ⊎ ((k ≡ w.0) × (v ≡ first + i)) → names_in es k ≡ Some v
      old k v b (inl e) = e
      old k v b (inr e) = absurd (omega (arith, b, e.1))

      here : (l : ℕ) → (names_in es l ≡ Some (first + i)) ⊎ ((l ≡ w.0) × (first + i ≡ first + i)) → stands_in s.free l ≡ Some x
      here l (inl e) = absurd (let b = named.bounds l (first + i) e in omega (arith, b.2))
      here l (inr e) = stands l (w.1 ∙ ap Some (sym e.0))

      bounds : (l v : ℕ) → names_in (es ++ (w.0, first + i) ∷ []) l ≡ Some v → (s.constants ≤ l) × (first ≤ v) × (v < first + (i + 1))
      bounds l v e = by (names-cases es w.0 (first + i) l v e)
        where
          by : (names_in es l ≡ Some v) ⊎ ((l ≡ w.0) × (v ≡ first + i)) → (s.constants ≤ l) × (first ≤ v) × (v < first + (i + 1))
          by (inl h) = let b = named.bounds l v h in (b.0, b.1, omega (arith, b.2))
          by (inr h) = (omega (arith, h.0, w.2, named.constants), omega (arith, h.1), omega (arith, h.1))

-- ---- as the code has them

pub listed-from : (P : ℕ → Type 0) (ls : List ℕ) → Each P ls → (l : ℕ) → IsListed ls l → P l
listed-from P [] all l h = absurd (let d : false ≡ true = h in cc)
listed-from P (k ∷ ls) all l h = by (cases_eq l k) (listed-from P ls all.1 l)
  where
    by : (l ≡ k) ⊎ (l ≡ k → ⊥) → (IsListed ls l → P l) → P l
    by (inl e) next = subst P (sym e) all.0
    by (inr ne) next = next (sym (ap (λ b. b || list_any (nat_eq l) ls) (ne_eqb l k ne)) ∙ h)

pub first-named : (s : Seen) (first : ℕ) (leaves : List Slot) (es : Entries) (c next : ℕ) → es ≡ [] → c ≡ s.constants → next ≡ c → AreNamed s first leaves 0 next es
first-named s first leaves es c next e ec en = subst (λ es. AreNamed s first leaves 0 next es) (sym e) (record {
  bounds = λ l v h. absurd (let d : None ≡ Some v = h in cc);
  constants = omega (arith, ec, en);
  few = omega arith;
  below = tt;
  rise = λ k h. absurd (omega (arith, h));
  settled = tt;
})

-- a value, as the code reads it
module _ (s : Seen) (st : IsStore s) (leaves : List Slot) (are : AreSlots s leaves) (values : List Node) (ev : values ≡ slot_nodes s leaves) (o : Store) (eo : o ≡ s.nodes) (i : ℕ) (lt : i < length leaves)
    (d : Node) where
  slot-at : (xs : List Slot) (j : ℕ) (e : Slot) → j < length xs → get_or (slot_nodes s xs) j d ≡ get_or s.slots (get_or xs j e).0 (record { 0 = 0 })
  slot-at [] j e h = absurd (omega (arith, h))
  slot-at (x ∷ xs) zero e h = refl
  slot-at (x ∷ xs) (suc j) e h = slot-at xs j e (omega (arith, h))

  pub value-node : IsNode o.triples (get_or values i d).0
  value-node =
      subst (λ (t : Store). IsNode t.triples (get_or values i d).0) (sym eo)
      (subst (λ (n : Node). IsNode s.nodes.triples n.0) (sym (ap (λ (ns : List Node). get_or ns i d) ev ∙ slot-at leaves i (record { 0 = 0 }) lt))
      (there-at s.nodes.triples s.slots (get_or leaves i (record { 0 = 0 })).0 (record { 0 = 0 }) st.nodes (slot-there s leaves i (record { 0 = 0 }) are lt)))

  pub value-function : (e : Slot) → function_of s.nodes.triples (get_or values i d).0 ≡ value_in s.nodes.triples s.slots (get_or leaves i e).0
  value-function e =
      ap (λ (n : Node). function_of s.nodes.triples n.0) (ap (λ (ns : List Node). get_or ns i d) ev ∙ slot-at leaves i e lt) ∙
      value-same s.nodes.triples s.slots (get_or leaves i e).0 (record { 0 = 0 }) (slot-there s leaves i e are lt)

-- a variable's own level, as the code looks it up
pub own-stands : (free : List Free) (seen : List Free) (x : ℕ) (found : ℕ → Option ℕ) (got own : Option ℕ) → ((y l : ℕ) → found y ≡ Some l → stands_in seen l ≡ Some y) → seen ≡ free → got ≡ found x → own ≡ got →
    (l : ℕ) → own ≡ Some l → stands_in free l ≡ Some x
own-stands free seen x found got own all es eg eo l e = subst (λ (fs : List Free). stands_in fs l ≡ Some x) es (all x l (sym (eo ∙ eg) ∙ e))

pub cover-from : (levels seen : List ℕ) (c c' : ℕ) (es : Entries) → ((l : ℕ) → IsListed seen l → (l < c) ⊎ IsSome (names_in es l)) → seen ≡ levels → c ≡ c' →
    (l : ℕ) → IsListed levels l → (l < c') ⊎ IsSome (names_in es l)
cover-from levels seen c c' es all e ec l there =
    subst (λ k. (l < k) ⊎ IsSome (names_in es l)) ec (all l (subst (λ (ls : List ℕ). IsListed ls l) (sym e) there))
