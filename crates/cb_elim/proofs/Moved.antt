-- The slots' values with the images put in, one slot after another.
use Rattle.std.proofs.Common.{◌≡◌, ◌⊎◌, inl, inr, ℕ, zero, suc, ◌+◌, ◌<◌, ◌≤◌, Bool, if◌then◌else◌, nat_eq, List, [], ◌∷◌, ◌++◌, length, take, map, get_or, refl, sym, ap, subst, ◌∙◌, arith, append_assoc}
use Rattle.std.specs.Prelude.{slice_set}
use Rattle.std.specs.List.Sorted.{IsStrictlyIncreasing}
use Rattle.std.proofs.lemmas.Bool.{cases_Bool, cases_eq, cases_lt, eq-eqb, eqb-true, ne_eqb, true≢false}
use Rattle.std.specs.List.{list_any}
use Rattle.std.proofs.lemmas.List.{append-nil, get_or-set_other, length-set, map-append, set-get_or, take_more}
use Rattle.std.proofs.Math.Seq.{drop-length, take-length}
use Rattle.cb_model.specs.Bits.{Bits, Each, put}
use Rattle.cb_dd.specs.declared.Node.{Node}
use Rattle.cb_dd.specs.declared.Triple.{Triple}
use Rattle.cb_dd.specs.Diagram.{Store, IsNode, function_of}
use Rattle.cb_ops.specs.Ops.{DependsOn, Grows, IsFree, StandsFor}
use Rattle.std.specs.Prelude.{Contains}
use Rattle.std.proofs.lemmas.Map.Views.{Contains-from_any}
use Rattle.cb_ops.specs.Support.{IsListed}
use Rattle.cb_ops.specs.Substitute.{Images, AreNodes, image_of, substituted}
use Rattle.cb_ops.specs.Composed.{ComposedRoom}
use Rattle.cb_ops.proofs.Ite.{Grows-same, Grows-then, put-other}
use Rattle.cb_ops.proofs.Substitute.{substituted-grown}
use Rattle.cb_solution.proofs.Solved.{at-none, cases-image, image-listed, listed-at, listed-here, only-from}
use Rattle.cb_trail.specs.declared.uses.Use.{Use}
use Rattle.cb_trail.specs.Uses.{IsUsed}
use Rattle.cb_elim.specs.declared.Change.{Change}
use Rattle.cb_elim.specs.Store.{AreThere, value_in}
use Rattle.cb_elim.specs.Moments.{change_at, changes_from, undone}
use Rattle.cb_elim.specs.Equation.{AreMoved, AreRewritten, IsStepped}
use Rattle.cb_elim.specs.Watch.{AreWatched, Covers, IsDead, KeepsUses, UsesNew}
use Rattle.cb_elim.proofs.Views.{changed-still, value-still, there-still}
use Rattle.cb_elim.proofs.Changes.{changes-same, changes-write}
use Rattle.cb_elim.proofs.Falling.{listed-either, listed-left, listed-one, listed-right}
use Rattle.cb_elim.proofs.Rooms.{MovedSo, moved-none, moved-one}
use Rattle.cb_elim.proofs.Covering.{covers-grown, covers-uses, covers-write, dead-alike, each-more, set-there, used-later, value-past, value-read, value-set-other, value-set-own}

-- ---- the first so many slots of a rising list

take-zero : (xs : List ℕ) → take 0 xs ≡ []
take-zero [] = refl
take-zero (x ∷ xs) = refl

cases-listed : (xs : List ℕ) (x : ℕ) → IsListed xs x ⊎ (IsListed xs x → ⊥)
cases-listed xs x = elim (cases_Bool (list_any (nat_eq x) xs)) [ inl there ↦ inl there | inr away ↦ inr (λ h. true≢false (sym h ∙ away)) ]

taken-cases : (xs : List ℕ) (k y : ℕ) → k < length xs → IsListed (take (k + 1) xs) y → IsListed (take k xs) y ⊎ (y ≡ get_or xs k 0)
taken-cases xs k y h there = elim (listed-either (take k xs) (get_or xs k 0 ∷ []) y (subst (λ zs. IsListed zs y) (take_more xs k 0 h) there)) [
  | inl before ↦ inl before
  | inr here ↦ inr (listed-one (get_or xs k 0) y here)
]

taken-old : (xs : List ℕ) (k y : ℕ) → k < length xs → IsListed (take k xs) y → IsListed (take (k + 1) xs) y
taken-old xs k y h there = subst (λ zs. IsListed zs y) (sym (take_more xs k 0 h)) (listed-left (take k xs) (get_or xs k 0 ∷ []) y there)

taken-here : (xs : List ℕ) (k : ℕ) → k < length xs → IsListed (take (k + 1) xs) (get_or xs k 0)
taken-here xs k h = subst (λ zs. IsListed zs (get_or xs k 0)) (sym (take_more xs k 0 h)) (listed-right (take k xs) (get_or xs k 0 ∷ []) (get_or xs k 0) (listed-here (get_or xs k 0) []))

taken-below : (xs : List ℕ) (k y : ℕ) → IsStrictlyIncreasing xs → k < length xs → IsListed (take k xs) y → y < get_or xs k 0
taken-below xs zero y rise h there = absurd (true≢false (sym (subst (λ zs. IsListed zs y) (take-zero xs) there)))
taken-below xs (suc k) y rise h there =
    let next : suc k ≡ k + 1 = omega arith in
    let up : get_or xs k 0 < get_or xs (k + 1) 0 = rise k (omega arith) in
    let e : get_or xs (suc k) 0 ≡ get_or xs (k + 1) 0 = ap (λ j. get_or xs j 0) next in
    elim (taken-cases xs k y (omega arith) (subst (λ j. IsListed (take j xs) y) next there)) [
      | inl before ↦ let r : y < get_or xs k 0 = taken-below xs k y rise (omega arith) before in omega arith
      | inr here ↦ omega arith
    ]

number-below : (xs : List ℕ) (k : ℕ) → IsStrictlyIncreasing xs → k < length xs → k ≤ get_or xs k 0
number-below xs zero rise h = omega arith
number-below xs (suc k) rise h =
    let up : get_or xs k 0 < get_or xs (k + 1) 0 = rise k (omega arith) in
    let r : k ≤ get_or xs k 0 = number-below xs k rise (omega arith) in
    let e : get_or xs (suc k) 0 ≡ get_or xs (k + 1) 0 = ap (λ j. get_or xs j 0) (let n : suc k ≡ k + 1 = omega arith in n) in
    omega arith

-- the levels of the first so many images
pub levels-cases : (xs : Images) (i : ℕ) (d : ℕ × Node) (k : ℕ) → i < length xs → IsListed (map (λ q. q.0) (take (i + 1) xs)) k → IsListed (map (λ q. q.0) (take i xs)) k ⊎ (k ≡ (get_or xs i d).0)
levels-cases xs i d k h there = elim (listed-either (map (λ q. q.0) (take i xs)) ((get_or xs i d).0 ∷ []) k
    (subst (λ zs. IsListed zs k) (map-append (λ q. q.0) (take i xs) (get_or xs i d ∷ [])) (subst (λ (zs : Images). IsListed (map (λ q. q.0) zs) k) (take_more xs i d h) there))) [
      | inl before ↦ inl before
      | inr here ↦ inr (listed-one (get_or xs i d).0 k here)
    ]

pub levels-all : (xs : Images) (i k : ℕ) → i ≡ length xs → IsListed (map (λ q. q.0) xs) k → IsListed (map (λ q. q.0) (take i xs)) k
levels-all xs i k e h = subst (λ (zs : Images). IsListed (map (λ q. q.0) zs) k) (sym (ap (λ j. take j xs) e ∙ take-length xs)) h

pub levels-next : (xs : List ℕ) (k y : ℕ) → k < length xs → IsListed (take (k + 1) xs) y → IsListed (take k xs) y ⊎ (y ≡ get_or xs k 0)
levels-next xs k y h there = taken-cases xs k y h there

pub levels-whole : (xs : List ℕ) (k y : ℕ) → k ≡ length xs → IsListed xs y → IsListed (take k xs) y
levels-whole xs k y e h = subst (λ zs. IsListed zs y) (sym (ap (λ j. take j xs) e ∙ take-length xs)) h

-- the levels that a value gained
pub uses-new : (ts : List Triple) (c old new x t : ℕ) (before levels : List ℕ) (us : List Use) → ((l : ℕ) → Contains before l → IsFree ts old l → ⊥) → DependsOn ts new levels →
    ((l : ℕ) → IsListed levels l → c ≤ l → (IsListed before l → ⊥) → IsUsed us l x t) → UsesNew ts c us old new x t
uses-new ts c old new x t before levels us needed enough used l free dead = elim (cases-listed levels l) [
  | inl there ↦ inl (used l there free (λ b. needed l (Contains-from_any {eq = nat_eq} (λ y z d. eqb-true y z d) l before b) dead))
  | inr away ↦ inr (λ p b. only-from ts new levels enough (put l b p) p (λ j w. put-other p l b j (λ same. away (subst (IsListed levels) same w))))
]

pub uses-later : (ts : List Triple) (c old new x t s : ℕ) (us : List Use) → t ≤ s → UsesNew ts c us old new x t → UsesNew ts c us old new x s
uses-later ts c old new x t s us h w l free dead = elim (w l free dead) [ inl u ↦ inl (used-later us l x t s h u) | inr d ↦ inr d ]

-- ---- one slot

pub there-at : (ts : List Triple) (ns : List Node) (x : ℕ) (d : Node) → AreThere ts ns → x < length ns → IsNode ts (get_or ns x d).0
there-at ts [] x d h less = absurd (omega arith)
there-at ts (n ∷ ns) zero d h less = h.0
there-at ts (n ∷ ns) (suc x) d h less = there-at ts ns x d h.1 (omega arith)

pub are-still : (c : ℕ) (s t : Store) → Grows s t → (ns : List Node) (trail : List Change) (us : List Use) → AreWatched s.triples c ns trail us → AreWatched t.triples c ns trail us
are-still c s t g ns trail us w = record {
  there = there-still s t g ns w.there;
  changed = changed-still s t g trail w.changed;
  within = w.within;
  covers = covers-grown c s t g ns trail us w.there w.changed w.covers;
}

pub are-uses : (c : ℕ) (ts : List Triple) (ns : List Node) (trail : List Change) (us vs : List Use) → KeepsUses us vs → AreWatched ts c ns trail us → AreWatched ts c ns trail vs
are-uses c ts ns trail us vs keeps w = record { there = w.there; changed = w.changed; within = w.within; covers = covers-uses c ts ns trail us vs keeps w.covers }

pub are-written : (c : ℕ) (s t : Store) → Grows s t → (ns : List Node) (trail more : List Change) (us ws : List Use) (x : ℕ) (v : Node) → AreWatched s.triples c ns trail us → KeepsUses us ws → IsNode t.triples v.0 → x < length ns →
    UsesNew t.triples c ws (get_or ns x (record { 0 = 0 })).0 v.0 x (length trail + 1) → more ≡ trail ++ record { slot = x; value = get_or ns x (record { 0 = 0 }) } ∷ [] → AreWatched t.triples c (slice_set ns x v) more ws
are-written c s t g ns trail more us ws x v w keeps wv less uses pushed =
    let still = are-still c s t g ns trail us w in
    subst (λ (cs : List Change). AreWatched t.triples c (slice_set ns x v) cs ws) (sym pushed) (record {
      there = set-there t.triples ns x v still.there wv;
      changed = each-more (λ d. IsNode t.triples d.value.0) trail (record { slot = x; value = get_or ns x (record { 0 = 0 }) }) still.changed (there-at t.triples ns x (record { 0 = 0 }) still.there less);
      within = subst (λ n. Each (λ d. d.slot < n) (trail ++ record { slot = x; value = get_or ns x (record { 0 = 0 }) } ∷ [])) (sym (length-set ns x v))
          (each-more (λ d. d.slot < length ns) trail (record { slot = x; value = get_or ns x (record { 0 = 0 }) }) w.within less);
      covers = covers-write c t.triples ns trail us ws still.covers keeps x (get_or ns x (record { 0 = 0 })) v (record { 0 = 0 }) refl less uses;
    })

module _ (s t : Store) (images : Images) (x : ℕ) (ns : List Node) (v : Node) (less : x < length ns) (wv : IsNode t.triples v.0)
    (is : StandsFor t.triples v.0 (λ a. function_of s.triples (get_or ns x (record { 0 = 0 })).0 (substituted s.triples images a))) where
  function : (p : Bits) → function_of t.triples v.0 p ≡ value_in s.triples ns x (substituted s.triples images p)
  function p = is.at p ∙ sym (ap (λ (f : Bits → Bool). f (substituted s.triples images p)) (value-read s.triples ns x (record { 0 = 0 }) less))

  pub stepped-same : v.0 ≡ (get_or ns x (record { 0 = 0 })).0 → (trail : List Change) → IsStepped s t images x ns ns trail trail
  stepped-same e trail = record {
    value = v;
    node = wv;
    function = function;
    slots = sym (ap (λ (n : Node). slice_set ns x n) (let n : v ≡ get_or ns x (record { 0 = 0 }) = λ i. record { 0 = e i } in n) ∙ set-get_or ns x (record { 0 = 0 }));
    changes = sym (ap (λ b. trail ++ (if b then [] else record { slot = x; value = get_or ns x (record { 0 = 0 }) } ∷ [])) (eq-eqb (get_or ns x (record { 0 = 0 })).0 v.0 (sym e)) ∙ append-nil trail);
  }

  pub stepped-more : (v.0 ≡ (get_or ns x (record { 0 = 0 })).0 → ⊥) → (trail more : List Change) → more ≡ trail ++ record { slot = x; value = get_or ns x (record { 0 = 0 }) } ∷ [] → IsStepped s t images x ns (slice_set ns x v) trail more
  stepped-more other trail more pushed = record {
    value = v;
    node = wv;
    function = function;
    slots = refl;
    changes = pushed ∙ sym (ap (λ b. trail ++ (if b then [] else record { slot = x; value = get_or ns x (record { 0 = 0 }) } ∷ [])) (ne_eqb (get_or ns x (record { 0 = 0 })).0 v.0 (λ e. other (sym e))));
  }

-- ---- the loop

-- the images are put into the first so many slots
pub record RewriteSo (k : ℕ) (c : ℕ) (images : Images) (at : List ℕ) (s t : Store) (ns vs : List Node) (old new : List Change) (us : List Use) : Type 0 where
  pub grows : Grows s t
  pub number : length vs ≡ length ns
  pub done : (x : ℕ) (p : Bits) → IsListed (take k at) x → value_in t.triples vs x p ≡ value_in s.triples ns x (substituted s.triples images p)
  pub others : (x : ℕ) (d : Node) → (IsListed (take k at) x → ⊥) → get_or vs x d ≡ get_or ns x d
  pub changes : new ≡ old ++ changes_from 0 ns vs
  pub watched : AreWatched t.triples c vs new us
  pub room : MovedSo k ns images s t
  pub fulls : t.fulls ≡ s.fulls

pub rewrite-none : (c : ℕ) (images : Images) (at : List ℕ) (s : Store) (ns : List Node) (old : List Change) (us : List Use) → AreWatched s.triples c ns old us → RewriteSo 0 c images at s s ns ns old old us
rewrite-none c images at s ns old us w = record {
  grows = Grows-same s;
  number = refl;
  done = λ x p h. absurd (true≢false (sym (subst (λ zs. IsListed zs x) (take-zero at) h)));
  others = λ x d h. refl;
  changes = sym (ap (λ cs. old ++ cs) (changes-same 0 ns) ∙ append-nil old);
  watched = w;
  room = moved-none ns images s;
  fulls = refl;
}

module _ (k c : ℕ) (images : Images) (at : List ℕ) (s t u : Store) (ns vs ws : List Node) (old mid new : List Change) (us xs : List Use) (nodes : AreNodes s.triples images) (there : AreThere s.triples ns) (rise : IsStrictlyIncreasing at)
    (below : (x : ℕ) → IsListed at x → x < length ns) (h : k < length at) (x : ℕ) (is : x ≡ get_or at k 0) (so : RewriteSo k c images at s t ns vs old mid us) (tu : Grows t u) where
  zero-node : Node
  zero-node = record { 0 = 0 }

  less : x < length ns
  less = below x (subst (IsListed at) (sym is) (listed-at at k h))

  -- the slot isn't rewritten yet
  fresh : (y : ℕ) → x ≤ y → IsListed (take k at) y → ⊥
  fresh y le w = let b : y < get_or at k 0 = taken-below at k y rise h w in absurd (omega arith)

  same-at : get_or vs x (record { 0 = 0 }) ≡ get_or ns x (record { 0 = 0 })
  same-at = so.others x (record { 0 = 0 }) (fresh x (omega arith))

  old-value : value_in t.triples vs x ≡ value_in s.triples ns x
  old-value =
      value-read t.triples vs x (record { 0 = 0 }) (let e = so.number in let h = less in omega arith)
      ∙ ap (λ (n : Node). function_of t.triples n.0) same-at
      ∙ sym (value-read t.triples ns x (record { 0 = 0 }) less)
      ∙ value-still s t so.grows ns there x

  pub rewrite-room : ComposedRoom (get_or vs x (record { 0 = 0 })).0 images t u → MovedSo (k + 1) ns images s u
  rewrite-room room =
      moved-one s t u so.grows images nodes ns there k x (record { 0 = 0 }) less (subst (λ (n : Node). ComposedRoom n.0 images t u) same-at room) so.room

  pub rewrite-next : IsStepped t u images x vs ws mid new → AreWatched u.triples c ws new xs → ComposedRoom (get_or vs x (record { 0 = 0 })).0 images t u → u.fulls ≡ t.fulls → RewriteSo (k + 1) c images at s u ns ws old new xs
  rewrite-next step w room fulls = record {
    grows = Grows-then s t u so.grows tu;
    number = ap length step.slots ∙ length-set vs x step.value ∙ so.number;
    done = λ y p there_y. elim (cases_eq y x) [
      | inl same ↦ ap (λ z. value_in u.triples ws z p) same ∙ here p ∙ sym (ap (λ z. value_in s.triples ns z (substituted s.triples images p)) same)
      | inr other ↦
          elim (taken-cases at k y h there_y) [
            | inl before ↦
                ap (λ zs. value_in u.triples zs y p) step.slots
                ∙ ap (λ (f : Bits → Bool). f p) (value-set-other u.triples vs x y step.value other)
                ∙ ap (λ (f : Bits → Bool). f p) (value-still t u tu vs so.watched.there y)
                ∙ so.done y p before
            | inr e ↦ absurd (other (e ∙ sym is))
          ]
    ];
    others = λ y d away. elim (cases_eq y x) [
      | inl same ↦ absurd (away (subst (IsListed (take (k + 1) at)) (sym (same ∙ is)) (taken-here at k h)))
      | inr other ↦ ap (λ zs. get_or zs y d) step.slots ∙ get_or-set_other vs x y step.value d other ∙ so.others y d (λ b. away (taken-old at k y h b))
    ];
    changes =
        step.changes
        ∙ ap (λ cs. cs ++ change_at x (get_or vs x (record { 0 = 0 })) step.value) so.changes
        ∙ append_assoc old (changes_from 0 ns vs) (change_at x (get_or vs x (record { 0 = 0 })) step.value)
        ∙ ap (λ cs. old ++ cs) (sym (
        ap (λ zs. changes_from 0 ns zs) step.slots
        ∙ changes-write 0 ns vs x step.value (record { 0 = 0 }) so.number less (λ y e le. so.others y e (fresh y le))
        ∙ ap (λ (n : Node). changes_from 0 ns vs ++ change_at (0 + x) n step.value) (sym same-at)
        ∙ ap (λ j. changes_from 0 ns vs ++ change_at j (get_or vs x (record { 0 = 0 })) step.value) (let z : 0 + x ≡ x = omega arith in z)));
    watched = w;
    room = rewrite-room room;
    fulls = fulls ∙ so.fulls;
  }
    where
      here : (p : Bits) → value_in u.triples ws x p ≡ value_in s.triples ns x (substituted s.triples images p)
      here p =
          ap (λ zs. value_in u.triples zs x p) step.slots
          ∙ ap (λ (f : Bits → Bool). f p) (value-set-own u.triples vs x step.value (let e = so.number in let q = less in omega arith))
          ∙ step.function p
          ∙ ap (value_in t.triples vs x) (substituted-grown s t so.grows images nodes p)
          ∙ ap (λ (f : Bits → Bool). f (substituted s.triples images p)) old-value

pub rewrite-few : (k : ℕ) (at : List ℕ) (ns : List Node) → IsStrictlyIncreasing at → ((x : ℕ) → IsListed at x → x < length ns) → k ≤ length at → k ≤ length ns
rewrite-few zero at ns rise below h = omega arith
rewrite-few (suc k) at ns rise below h =
    let a : k ≤ get_or at k 0 = number-below at k rise (omega arith) in
    let b : get_or at k 0 < length ns = below (get_or at k 0) (listed-at at k (omega arith)) in
    omega arith

module _ (k c : ℕ) (images : Images) (at : List ℕ) (s t : Store) (ns vs : List Node) (old new : List Change) (us : List Use) (there : AreThere s.triples ns) (so : RewriteSo k c images at s t ns vs old new us) where
  pub rewrite-rewritten : AreRewritten ns vs old new
  rewrite-rewritten = record { number = so.number; changes = so.changes }

  all : k ≡ length at → take k at ≡ at
  all e = ap (λ j. take j at) e ∙ take-length at

  pub rewrite-values : k ≡ length at → (x : ℕ) (p : Bits) → IsListed at x → value_in t.triples vs x p ≡ value_in s.triples ns x (substituted s.triples images p)
  rewrite-values e x p h = so.done x p (subst (λ zs. IsListed zs x) (sym (all e)) h)

  pub rewrite-others : k ≡ length at → (x : ℕ) (p : Bits) → (IsListed at x → ⊥) → value_in t.triples vs x p ≡ value_in s.triples ns x p
  rewrite-others e x p away = elim (cases_lt x (length ns)) [
    | inl less ↦
        ap (λ (f : Bits → Bool). f p) (value-read t.triples vs x (record { 0 = 0 }) (let n = so.number in omega arith))
        ∙ ap (λ (n : Node). function_of t.triples n.0 p) (so.others x (record { 0 = 0 }) (λ h. away (subst (λ zs. IsListed zs x) (all e) h)))
        ∙ sym (ap (λ (f : Bits → Bool). f p) (value-read t.triples ns x (record { 0 = 0 }) less))
        ∙ ap (λ (f : Bits → Bool). f p) (value-still s t so.grows ns there x)
    | inr past ↦
        ap (λ (f : Bits → Bool). f p) (value-past t.triples vs x (let n = so.number in omega arith))
        ∙ sym (ap (λ (f : Bits → Bool). f p) (value-past s.triples ns x past))
  ]

-- ---- all slots

module _ (s t : Store) (images : Images) (c : ℕ) (at : List ℕ) (ns vs : List Node) (trail : List Change) (us : List Use) (number : length vs ≡ length ns) (there : AreThere t.triples vs)
    (done : (x : ℕ) (p : Bits) → IsListed at x → value_in t.triples vs x p ≡ value_in s.triples ns x (substituted s.triples images p))
    (others : (x : ℕ) (p : Bits) → (IsListed at x → ⊥) → value_in t.triples vs x p ≡ value_in s.triples ns x p)
    (covers : Covers s.triples c ns trail us) (free : (l : ℕ) → IsListed (map (λ i. i.0) images) l → c ≤ l)
    (whole : (l x k : ℕ) → IsListed (map (λ i. i.0) images) l → x < length ns → IsUsed us l x k → IsListed at x) where
  off : (p : Bits) (k : ℕ) → (IsListed (map (λ i. i.0) images) k → ⊥) → p k ≡ substituted s.triples images p k
  off p k away = elim (cases-image (image_of images k)) [
    | inl m ↦ absurd (away (image-listed images k m.0 m.1))
    | inr none ↦ sym (at-none s.triples images p k none)
  ]

  -- a slot that uses none of the levels
  still : (x : ℕ) (p : Bits) → x < length ns → (IsListed at x → ⊥) → value_in s.triples ns x p ≡ value_in s.triples ns x (substituted s.triples images p)
  still x p less away = dead-alike (map (λ i. i.0) images) (value_in s.triples ns x) (λ l listed. dead l listed) p (substituted s.triples images p) (off p)
    where
      dead : (l : ℕ) → IsListed (map (λ i. i.0) images) l → IsDead l (value_in s.triples ns x)
      dead l listed = elim (subst (λ cs. IsUsed us l x (length trail) ⊎ IsDead l (value_in s.triples (undone cs ns) x)) (drop-length trail) (covers.at (length trail) x l (omega arith) (free l listed))) [
        | inl u ↦ absurd (away (whole l x (length trail) listed less u))
        | inr d ↦ d
      ]

  pub all-moved : AreMoved s.triples t.triples images ns vs
  all-moved = record {
    there = there;
    number = number;
    at = λ x p. elim (cases-listed at x) [
      | inl listed ↦ done x p listed
      | inr away ↦ elim (cases_lt x (length ns)) [
        | inl less ↦ others x p away ∙ still x p less away
        | inr past ↦
            ap (λ (f : Bits → Bool). f p) (value-past t.triples vs x (omega arith))
            ∙ sym (ap (λ (f : Bits → Bool). f (substituted s.triples images p)) (value-past s.triples ns x past))
      ]
    ];
  }
