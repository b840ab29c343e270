-- Many equations as one: that no pair differs.
use Rattle.std.proofs.Common.{◌≡◌, ◌↔◌, ◌⊎◌, inl, inr, ℕ, zero, suc, ◌+◌, ◌-◌, ◌*◌, ◌^◌, min, ◌<◌, ◌≤◌, Bool, true, false, ◌||◌, List, [], ◌∷◌, ◌++◌, length, map, get_or, nat_eq, Some, None, refl, sym, ap, ap₂, subst, ◌∙◌, arith}
use Rattle.std.proofs.lemmas.Bool.{cases_Bool, true≢false}
use Rattle.std.proofs.lemmas.Nat.{pow_pos}
use Rattle.std.proofs.Math.Nat.{mul-le-mul_left, mul-le-mul_right}
use Rattle.std.specs.List.{list_any}
use Rattle.cb_model.specs.Bits.{Bits, Each, put, xor}
use Rattle.cb_dd.specs.declared.Node.{Node}
use Rattle.cb_dd.specs.declared.Triple.{Triple}
use Rattle.cb_dd.specs.Diagram.{Store, IsNode, function_of}
use Rattle.cb_ops.specs.Ops.{Grows, DependsOn, Agree}
use Rattle.cb_ops.specs.Support.{IsListed}
use Rattle.cb_ops.specs.Substitute.{Images}
use Rattle.cb_ops.proofs.Ite.{Grows-then, agree-absent}
use Rattle.cb_boole.specs.Elimination.{Function, DependsOnly, rest, solved}
use Rattle.cb_boole.specs.View.{View, IsFit, point}
use Rattle.cb_boole.proofs.Bounds.{below_pow, four_next}
use Rattle.cb_boole.proofs.Grow.{fit_two}
use Rattle.cb_boole.proofs.Only.{IsHeld, solved_alike, weaker}
use Rattle.cb_boole.proofs.Unify.{AreFree, cases_stands}
use Rattle.cb_solution.specs.Differ.{ArePairs, DependPairs, some_differ}
use Rattle.cb_solution.specs.Solution.{ImagesWithin}
use Rattle.cb_solution.proofs.Solved.{agree-from, at-some, image-listed, listed-here, listed-there, only-into}
use Rattle.cb_elim.specs.declared.Change.{Change}
use Rattle.cb_elim.specs.Store.{Seen, IsStore, IsArgument, IsAsBefore, OnlyNodes, AreThere, value_in, slot_bits, view_of}
use Rattle.cb_elim.specs.Equation.{AreMoved, DependEach, MovedRoom, differ}
use Rattle.cb_elim.specs.Moments.{changes_from}
use Rattle.cb_elim.specs.Unified.{HasSameValues, OnlyValues}
use Rattle.cb_elim.specs.Pairs.{AreArguments, AreSame, AreSlots, AreSolutionOf, AreSolved, AreUnified, AgreeAt, ArePairsGeneral, ArePairsLevels, HaveNone, HavePairsNoSolution, PairsCause, PairsRoom, PairsSidesRoom}
use Rattle.cb_elim.proofs.Changes.{changes-within, each-append}
use Rattle.cb_elim.proofs.Views.{value-still}
use Rattle.cb_elim.proofs.Rooms.{depend-still}
use Rattle.cb_elim.proofs.Equations.{falls, free-off, held-from, is-left, is-same, is-some, refuted, same-slots, same-values, store-solved}

-- ---- where no pair differs, all agree

xor-agree : (x y : Bool) → xor x y ≡ false → x ≡ y
xor-agree true true h = refl
xor-agree true false h = cc
xor-agree false true h = cc
xor-agree false false h = refl

xor-equal : (x y : Bool) → x ≡ y → xor x y ≡ false
xor-equal true y h = rw (← h)
xor-equal false y h = rw (← h)

or-first : (x y : Bool) → (x || y) ≡ false → x ≡ false
or-first true y h = h
or-first false y h = refl

or-second : (x y : Bool) → (x || y) ≡ false → y ≡ false
or-second true y h = absurd (true≢false h)
or-second false y h = h

or-none : (x y : Bool) → x ≡ false → y ≡ false → (x || y) ≡ false
or-none x y h k = ap₂ ◌||◌ h k

none-differ : (ts : List Triple) (qs : List (Node × Node)) (p : Bits) → some_differ ts qs p ≡ false → AgreeAt ts qs p
none-differ ts [] p h = tt
none-differ ts (q ∷ qs) p h = (xor-agree _ _ (or-first _ _ h), none-differ ts qs p (or-second (xor (function_of ts q.0.0 p) (function_of ts q.1.0 p)) _ h))

all-agree : (ts : List Triple) (qs : List (Node × Node)) (p : Bits) → AgreeAt ts qs p → some_differ ts qs p ≡ false
all-agree ts [] p h = refl
all-agree ts (q ∷ qs) p h = or-none _ _ (xor-equal _ _ h.0) (all-agree ts qs p h.1)

-- ---- the pairs at the call

there : (s : Seen) (qs : List (Node × Node)) → AreArguments s qs → ArePairs s.nodes.triples qs
there s [] h = tt
there s (q ∷ qs) h = ((h.0.0.node, h.0.1.node), there s qs h.1)

pub pairs-there : (now s : Seen) → s ≡ now → (qs : List (Node × Node)) → AreArguments now qs → ArePairs s.nodes.triples qs
pairs-there now s is qs h = subst (λ (o : Seen). ArePairs o.nodes.triples qs) (sym is) (there now qs h)

fit-none : (S : View) → IsFit S (λ p. false)
fit-none S = record { only = λ p q h. refl; kept = λ p. refl }

fit-pairs : (s : Seen) (qs : List (Node × Node)) → AreArguments s qs → IsFit (view_of s) (some_differ s.nodes.triples qs)
fit-pairs s [] h = fit-none (view_of s)
fit-pairs s (q ∷ qs) h =
    fit_two (view_of s) ◌||◌ (λ p. xor (function_of s.nodes.triples q.0.0 p) (function_of s.nodes.triples q.1.0 p)) (some_differ s.nodes.triples qs)
    (fit_two (view_of s) xor (function_of s.nodes.triples q.0.0) (function_of s.nodes.triples q.1.0) h.0.0.fit h.0.1.fit) (fit-pairs s qs h.1)

-- ---- the store at the solution of all pairs

all-off : (s : Seen) (qs : List (Node × Node)) → AreArguments s qs → (l : ℕ) → s.constants ≤ l → (view_of s).stands l ≡ None → Each (λ q. (p : Bits) (b : Bool) → differ s.nodes.triples q.0.0 q.1.0 (put l b p) ≡ differ s.nodes.triples q.0.0 q.1.0 p) qs
unfolding view_of
all-off s [] h l c e = tt
all-off s (q ∷ qs) h l c e = (
  free-off (view_of s) (differ s.nodes.triples q.0.0 q.1.0) (fit_two (view_of s) xor (function_of s.nodes.triples q.0.0) (function_of s.nodes.triples q.1.0) h.0.0.fit h.0.1.fit) l c e,
  all-off s qs h.1 l c e,
)

all-free : (s : Seen) (qs : List (Node × Node)) → AreArguments s qs → (ls : List ℕ) → ((l : ℕ) → IsListed ls l → s.constants ≤ l) →
    ((l : ℕ) → IsListed ls l → Each (λ q. (p : Bits) (b : Bool) → differ s.nodes.triples q.0.0 q.1.0 (put l b p) ≡ differ s.nodes.triples q.0.0 q.1.0 p) qs → ⊥) → AreFree (view_of s) ls
all-free s qs h [] free needed = tt
all-free s qs h (l ∷ ls) free needed = (
  one (cases_stands ((view_of s).stands l)),
  all-free s qs h ls (λ k w. free k (listed-there l k ls w)) (λ k w. needed k (listed-there l k ls w)),
)
  where
    one : ((view_of s).stands l ≡ None) ⊎ ((x : ℕ) × ((view_of s).stands l ≡ Some x)) → (x : ℕ) × ((view_of s).stands l ≡ Some x)
    one (inr w) = w
    one (inl e) = absurd (needed l (listed-here l ls) (all-off s qs h l (free l (listed-here l ls)) e))

module _ (s : Seen) (st : IsStore s) (qs : List (Node × Node)) (h : AreArguments s qs) (ls : List ℕ) (el : ArePairsLevels s.constants s.nodes.triples qs ls) where
  are-free : AreFree (view_of s) ls
  are-free = all-free s qs h ls el.free el.needed

  are-held : DependsOnly (IsHeld s.constants ls) (some_differ s.nodes.triples qs)
  are-held = weaker (λ l. (l < s.constants) ⊎ IsListed ls l) (IsHeld s.constants ls) (some_differ s.nodes.triples qs) el.whole (λ l w. held-from s.constants ls l w)

  none-at : (p : Bits) → rest ls (some_differ s.nodes.triples qs) p ≡ true → HaveNone (view_of s) s.nodes.triples qs
  none-at p left = record {
    at = p;
    none = λ c r a. true≢false
        (sym (refuted s st (some_differ s.nodes.triples qs) (fit-pairs s qs h) ls are-free are-held p left c r)
        ∙ all-agree s.nodes.triples qs (point (view_of s).stands p c) a);
  }

  module _ (none_left : (p : Bits) → rest ls (some_differ s.nodes.triples qs) p ≡ false) (vs : List Node) (cs : List Change) (t : Store)
      (at : (x : ℕ) (p : Bits) → value_in t.triples vs x p ≡ value_in s.nodes.triples s.slots x (solved ls (some_differ s.nodes.triples qs) p)) where
    solved-at : AreSolved (view_of s) (view_of (record s { slots = vs; trail = cs; nodes = t })) s.nodes.triples qs
    solved-at = record {
      left = λ p c.
          let w = is-left s st (some_differ s.nodes.triples qs) (fit-pairs s qs h) ls are-free are-held (falls ls el.falls) none_left vs cs t at p c in
          ((λ r. let x = w.0 r in (x.0, none-differ s.nodes.triples qs _ x.1)), (λ x. w.1 (x.0, all-agree s.nodes.triples qs _ x.1)));
      some = is-some s st (some_differ s.nodes.triples qs) (fit-pairs s qs h) ls are-free are-held (falls ls el.falls) none_left vs cs t at;
    }

    solution-at : AreSolutionOf s (record s { slots = vs; trail = cs; nodes = t }) qs
    unfolding view_of
    solution-at = record { levels = ls; elimination = el; none_left = none_left; values = at }

    same-at : HasSameValues (view_of s) (view_of (record s { slots = vs; trail = cs; nodes = t }))
    same-at = is-same s st (some_differ s.nodes.triples qs) (fit-pairs s qs h) ls are-free are-held (falls ls el.falls) none_left vs cs t at

    store-at : AreThere t.triples vs → length vs ≡ length s.slots → Each (λ c. c.slot < length s.slots) cs → Each (λ c. IsNode t.triples c.value.0) cs → IsStore (record s { slots = vs; trail = cs; nodes = t })
    store-at = store-solved s st (some_differ s.nodes.triples qs) (fit-pairs s qs h) ls are-free are-held (falls ls el.falls) none_left vs cs t at

-- ---- as the code leaves the store

module _ (now s : Seen) (is : s ≡ now) (st : IsStore now) (qs : List (Node × Node)) (h : AreArguments now qs) where
  inside : IsStore s
  inside = subst IsStore (sym is) st

  arguments : AreArguments s qs
  arguments = subst (λ (o : Seen). AreArguments o qs) (sym is) h

  pub pairs-none : HavePairsNoSolution s.nodes.triples s.constants qs → HaveNone (view_of now) now.nodes.triples qs
  pairs-none r = subst (λ (o : Seen). HaveNone (view_of o) o.nodes.triples qs) is (none-at s inside qs arguments r.levels r.elimination r.at r.left)

  module _ (t : Store) (g : Grows s.nodes t) (images : Images) (gen : ArePairsGeneral s.nodes.triples t.triples s.constants qs images)
      (new : Seen) (moved : AreMoved t.triples new.nodes.triples images s.slots new.slots) (v : OnlyValues (record s { nodes = t }) new) where
    at : (x : ℕ) (p : Bits) → value_in new.nodes.triples new.slots x p ≡ value_in s.nodes.triples s.slots x (solved gen.levels (some_differ s.nodes.triples qs) p)
    at x p =
        moved.at x p
        ∙ ap (value_in t.triples s.slots x) (gen.at p)
        ∙ ap (λ (k : Function). k (solved gen.levels (some_differ s.nodes.triples qs) p)) (value-still s.nodes t g s.slots inside.nodes x)

    new-is : record s { slots = new.slots; trail = new.trail; nodes = new.nodes } ≡ new
    new-is = λ i. record {
      constants = sym v.constants i;
      drawn = sym v.drawn i;
      free = sym v.free i;
      slots = new.slots;
      trail = new.trail;
      nodes = new.nodes;
    }

    trail-is : new.trail ≡ s.trail ++ changes_from 0 s.slots new.slots
    trail-is = v.trail ∙ ap (λ cs. s.trail ++ cs) v.listed

    values-only : OnlyValues s new
    values-only = record {
      constants = v.constants;
      drawn = v.drawn;
      free = v.free;
      number = v.number;
      changes = v.changes;
      trail = v.trail;
      listed = v.listed;
      slots = v.slots;
      nodes = Grows-then s.nodes t new.nodes g v.nodes;
    }

    pub pairs-unified : AreUnified now new qs
    pairs-unified = subst (λ (o : Seen). AreUnified o new qs) is (record {
      solved = subst (λ (o : Seen). AreSolved (view_of s) (view_of o) s.nodes.triples qs) new-is (solved-at s inside qs arguments gen.levels gen.elimination gen.none_left new.slots new.trail new.nodes at);
      solution = subst (λ (o : Seen). AreSolutionOf s o qs) new-is (solution-at s inside qs arguments gen.levels gen.elimination gen.none_left new.slots new.trail new.nodes at);
      values = values-only;
      slots = subst (λ (o : Seen). HasSameValues (view_of s) (view_of o)) new-is (same-at s inside qs arguments gen.levels gen.elimination gen.none_left new.slots new.trail new.nodes at);
    })

    pub pairs-store : Each (λ c. IsNode new.nodes.triples c.value.0) new.trail → IsStore new
    pairs-store changed = subst IsStore new-is (store-at s inside qs arguments gen.levels gen.elimination gen.none_left new.slots new.trail new.nodes at moved.there moved.number
        (subst (λ (xs : List Change). Each (λ c. c.slot < length s.slots) xs) (sym trail-is)
        (each-append (length s.slots) s.trail (changes_from 0 s.slots new.slots) inside.trail (changes-within 0 s.slots new.slots (length s.slots) (omega arith)))) changed)

-- ---- pairs of one node

same-agree : (ts : List Triple) (qs : List (Node × Node)) → AreSame qs → (p : Bits) → AgreeAt ts qs p
same-agree ts [] h p = tt
same-agree ts (q ∷ qs) h p = (ap (λ (n : Node). function_of ts n.0 p) h.0, same-agree ts qs h.1 p)

pub same-unified : (s : Seen) (qs : List (Node × Node)) → AreSame qs → AreUnified s s qs
unfolding rest solved
same-unified s qs h = record {
  solved = record {
    left = λ a b. ((λ r. (r, same-agree s.nodes.triples qs h (point (view_of s).stands a b))), (λ w. w.0));
    some = λ a. ((λ x. (view_of s).values x a), record { at = a; agrees = λ k e. refl; gives = λ x v. refl });
  };
  solution = record {
    levels = [];
    elimination = record {
      falls = tt;
      free = λ l e. absurd (true≢false (sym e));
      needed = λ l e. absurd (true≢false (sym e));
      whole = λ p q e. none p ∙ sym (none q);
    };
    none_left = none;
    values = λ x p. refl;
  };
  values = same-values s;
  slots = same-slots s;
}
  where
    none : (p : Bits) → some_differ s.nodes.triples qs p ≡ false
    none p = all-agree s.nodes.triples qs p (same-agree s.nodes.triples qs h p)

-- ---- how many nodes

some-depends : (ts : List Triple) (qs : List (Node × Node)) (ls : List ℕ) → DependPairs ts qs ls → (p q : Bits) → Agree ls p q → some_differ ts qs p ≡ some_differ ts qs q
some-depends ts [] ls d p q h = refl
some-depends ts (x ∷ xs) ls d p q h = ap₂ ◌||◌ (ap₂ xor (d.0.0.agrees p q h) (d.0.1.agrees p q h)) (some-depends ts xs ls d.1 p q h)

positive : (n w : ℕ) → 1 ≤ 64 * (n + w + 1) * 4 ^ (w + 1)
positive n w =
    let x : 0 < 2 ^ w = pow_pos w in
    let y : 2 ^ w * 1 ≤ 2 ^ w * 2 ^ w = mul-le-mul_left (2 ^ w) x in
    let a : 1 ≤ 4 ^ (w + 1) = subst (λ z. 1 ≤ z) (sym (four_next w)) (omega arith) in
    let b : (n + w + 1) * 1 ≤ (n + w + 1) * 4 ^ (w + 1) = mul-le-mul_left (n + w + 1) a in
    let c : 64 * (n + w + 1) * 4 ^ (w + 1) ≡ 64 * ((n + w + 1) * 4 ^ (w + 1)) = grind arith in
    omega (arith, b, c)

pub pairs-room-none : (ns : List Node) (qs : List (Node × Node)) (old new : Store) → length new.triples ≤ length old.triples → PairsRoom ns qs old new
pairs-room-none ns qs old new h = record { most = λ ls d e. let b = positive (length ns) (length ls) in omega (arith, h, b) }

pub pairs-room-before : (old new : Seen) (qs : List (Node × Node)) → IsAsBefore old new → PairsRoom old.slots qs old.nodes new.nodes
pairs-room-before old new qs b = pairs-room-none old.slots qs old.nodes new.nodes (let e = ap (λ (s : Seen). length s.nodes.triples) b.same in omega arith)

pairs-sum : (x w n : ℕ) → w < x → w * (6 * x + x * x) + n * (w * (3 * x)) + 1 ≤ 64 * (n + w + 1) * (4 * (x * x))
pairs-sum x w n short =
    let pos : 0 < x = omega (arith, short) in
    let c : w * (3 * x) ≤ x * (3 * x) = mul-le-mul_right (3 * x) (omega (arith, short)) in
    let d : n * (w * (3 * x)) ≤ n * (x * (3 * x)) = mul-le-mul_left n c in
    let p : x * 1 ≤ x * x = mul-le-mul_left x pos in
    let b : w * x ≤ w * (x * x) = mul-le-mul_left w (omega (arith, p)) in
    omega (arith, pos, c, d, p, b)

pairs-enough : (w n : ℕ) → w * (6 * 2 ^ w + 2 ^ w * 2 ^ w) + n * (w * (3 * 2 ^ w)) + 1 ≤ 64 * (n + w + 1) * 4 ^ (w + 1)
pairs-enough w n = subst (λ z. w * (6 * 2 ^ w + 2 ^ w * 2 ^ w) + n * (w * (3 * 2 ^ w)) + 1 ≤ 64 * (n + w + 1) * z) (sym (four_next w)) (pairs-sum (2 ^ w) w n (below_pow w))

module _ (now s : Seen) (is : s ≡ now) (st : IsStore now) (qs : List (Node × Node)) (t : Store) (g : Grows s.nodes t) (first : PairsSidesRoom qs s.nodes t) where
  pub pairs-room-first : PairsRoom now.slots qs now.nodes t
  pairs-room-first = subst (λ (o : Seen). PairsRoom o.slots qs o.nodes t) is (record { most = λ ls d e. let a = first.most ls d in let b = pairs-enough (length ls) (length s.slots) in omega (arith, a, b) })

  module _ (images : Images) (constants : ℕ) (gen : ArePairsGeneral s.nodes.triples t.triples constants qs images) where
    only : (ls : List ℕ) → DependPairs s.nodes.triples qs ls → DependsOnly (IsListed ls) (some_differ s.nodes.triples qs)
    only ls d p q h = some-depends s.nodes.triples qs ls d p q (agree-from ls p q h)

    within : (ls : List ℕ) → DependPairs s.nodes.triples qs ls → (l : ℕ) → IsListed gen.levels l → IsListed ls l
    within ls d l there = elim (cases_Bool (list_any (nat_eq l) ls)) [
      | inl listed ↦ listed
      | inr away ↦ absurd (gen.elimination.needed l there (each-free qs d away))
    ]
      where
        each-free : (rs : List (Node × Node)) → DependPairs s.nodes.triples rs ls → list_any (nat_eq l) ls ≡ false →
            Each (λ q. (p : Bits) (b : Bool) → differ s.nodes.triples q.0.0 q.1.0 (put l b p) ≡ differ s.nodes.triples q.0.0 q.1.0 p) rs
        each-free [] e away = tt
        each-free (r ∷ rs) e away = (
          (λ p b. ap₂ xor (e.0.0.agrees (put l b p) p (agree-absent l ls p b away)) (e.0.1.agrees (put l b p) p (agree-absent l ls p b away))),
          each-free rs e.1 away,
        )

    images-within : (ls : List ℕ) → DependPairs s.nodes.triples qs ls → ImagesWithin t.triples images ls
    images-within ls d = record {
      each = λ l m e. only-into t.triples m.0 ls (λ p. solved gen.levels (some_differ s.nodes.triples qs) p l)
          (record { at = λ p. sym (at-some t.triples images p l m e) ∙ ap (λ (q : Bits). q l) (gen.at p) })
          (λ p q h. solved_alike (IsListed ls) gen.levels (some_differ s.nodes.triples qs) (only ls d) p q h l (within ls d l (gen.within l (image-listed images l m e))));
    }

    pub pairs-room-second : (u : Store) → MovedRoom s.slots images t u → PairsRoom now.slots qs now.nodes u
    pairs-room-second u second = subst (λ (o : Seen). PairsRoom o.slots qs o.nodes u) is (record {
      most = λ ls d e.
          let a = first.most ls d in
          let b = second.most ls (depend-still s.nodes t g s.slots (subst IsStore (sym is) st).nodes ls e) (images-within ls d) in
          let c = pairs-enough (length ls) (length s.slots) in
          omega (arith, a, b, c);
    })

pub pairs-cause : (old mid new : Seen) (qs : List (Node × Node)) → OnlyNodes old mid → PairsRoom old.slots qs old.nodes mid.nodes → length mid.nodes.triples ≡ mid.nodes.budget → mid.nodes.fulls ≡ min (old.nodes.fulls + 1) (2 ^ 64 - 1) →
    new.nodes.fulls ≡ mid.nodes.fulls → PairsCause old new qs
pairs-cause old mid new qs only room full rose same = record {
  rose = omega (arith, rose, same);
  below = λ ls d e. let m = room.most ls d e in let b = only.grows.budget in omega (arith, m, b, full);
}

-- ---- pairs of slots

-- the nodes of the slots of a pair
abbrev pub nodes_of : List Node → ℕ × ℕ → Node × Node
nodes_of ns x = (get_or ns x.0 (record { 0 = 0 }), get_or ns x.1 (record { 0 = 0 }))

value-at : (ts : List Triple) (ns : List Node) (x : ℕ) (d : Node) → x < length ns → value_in ts ns x ≡ function_of ts (get_or ns x d).0
value-at ts [] x d h = absurd (omega arith)
value-at ts (n ∷ ns) zero d h = refl
value-at ts (n ∷ ns) (suc x) d h = value-at ts ns x d (omega arith)

-- that the nodes agree is that the slots have the same bits
pub slots-agree : (s : Seen) (xs : List (ℕ × ℕ)) → AreSlots s xs → (a w : Bits) →
    AgreeAt s.nodes.triples (map (nodes_of s.slots) xs) (point (view_of s).stands a w) ↔ Each (λ x. slot_bits (view_of s) a w x.0 ≡ slot_bits (view_of s) a w x.1) xs
unfolding view_of
slots-agree s [] h a w = ((λ e. tt), (λ e. tt))
slots-agree s (x ∷ xs) h a w =
    let left = ap (λ (f : Function). f (point (view_of s).stands a w)) (value-at s.nodes.triples s.slots x.0 (record { 0 = 0 }) h.0.0) in
    let right = ap (λ (f : Function). f (point (view_of s).stands a w)) (value-at s.nodes.triples s.slots x.1 (record { 0 = 0 }) h.0.1) in
    let more = slots-agree s xs h.1 a w in
    ((λ e. (left ∙ e.0 ∙ sym right, more.0 e.1)), (λ e. (sym left ∙ e.0 ∙ right, more.1 e.1)))

node-at : (ts : List Triple) (ns : List Node) (x : ℕ) (d : Node) → AreThere ts ns → x < length ns → IsNode ts (get_or ns x d).0
node-at ts [] x d w h = absurd (omega arith)
node-at ts (n ∷ ns) zero d w h = w.0
node-at ts (n ∷ ns) (suc x) d w h = node-at ts ns x d w.1 (omega arith)

slot-argument : (s : Seen) → IsStore s → (x : ℕ) (d : Node) → x < length s.slots → IsArgument s (get_or s.slots x d).0
unfolding view_of
slot-argument s st x d h = record {
  node = node-at s.nodes.triples s.slots x d st.nodes h;
  fit = subst (λ (f : Function). IsFit (view_of s) f) (value-at s.nodes.triples s.slots x d h) (st.good.fit x);
}

-- the values of slots may be handed to the store
pub slots-arguments : (s : Seen) → IsStore s → (xs : List (ℕ × ℕ)) → AreSlots s xs → AreArguments s (map (nodes_of s.slots) xs)
slots-arguments s st [] h = tt
slots-arguments s st (x ∷ xs) h = ((slot-argument s st x.0 (record { 0 = 0 }) h.0.0, slot-argument s st x.1 (record { 0 = 0 }) h.0.1), slots-arguments s st xs h.1)

depend-at : (ts : List Triple) (ns : List Node) (x : ℕ) (d : Node) (ls : List ℕ) → DependEach ts ns ls → x < length ns → DependsOn ts (get_or ns x d).0 ls
depend-at ts [] x d ls t h = absurd (omega arith)
depend-at ts (n ∷ ns) zero d ls t h = t.0
depend-at ts (n ∷ ns) (suc x) d ls t h = depend-at ts ns x d ls t.1 (omega arith)

-- they depend on no levels but those of the slots
pub slots-depend : (s : Seen) (xs : List (ℕ × ℕ)) (ls : List ℕ) → AreSlots s xs → DependEach s.nodes.triples s.slots ls → DependPairs s.nodes.triples (map (nodes_of s.slots) xs) ls
slots-depend s [] ls h d = tt
slots-depend s (x ∷ xs) ls h d = ((depend-at s.nodes.triples s.slots x.0 (record { 0 = 0 }) ls d h.0.0, depend-at s.nodes.triples s.slots x.1 (record { 0 = 0 }) ls d h.0.1), slots-depend s xs ls h.1 d)
