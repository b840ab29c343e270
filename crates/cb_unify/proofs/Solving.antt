-- From cells that were made one, and slots that were made equal, to a state that was solved.
use Rattle.std.proofs.Common.{◌≡◌, ℕ, zero, suc, ◌+◌, ◌*◌, ◌^◌, ◌<◌, ◌≤◌, Bool, false, Result, Ok, Err, List, [], ◌∷◌, ◌++◌, length, map, Some, refl, sym, ap, subst, ◌∙◌, arith, length-append, pow-suc}
use Rattle.std.specs.Prelude.{slice_get, get_or, pos}
use Rattle.std.proofs.Math.Path.{fun_ext}
use Rattle.std.proofs.Math.Nat.{mul-le-mul_left, mul-le-mul_right}
use Rattle.std.proofs.lemmas.Option.{get_or_from_slice_get, slice_get_within}
use Rattle.cb_laws.proofs.Tables.{zero_fits}
use Rattle.cb_model.specs.declared.Sort.{Sort}
use Rattle.cb_model.specs.declared.Sort.TheVariants as sort
use Rattle.cb_model.specs.Bits.{Bits, Each}
use Rattle.cb_model.specs.Values.{Ground, Bit, Word, Int, Sorts, Fits}
use Rattle.cb_dd.specs.declared.Node.{Node}
use Rattle.cb_dd.specs.Diagram.{Store as Nodes}
use Rattle.cb_boole.specs.View.{InRange}
use Rattle.cb_elim.specs.Expression.{AreLevels}
use Rattle.cb_elim.specs.Laws.{levels_below, live_levels}
use Rattle.cb_elim.specs.Pairs.{AreSlots, AreUnified, HaveNone, PairsCause, PairsRoom, pairs_bound}
use Rattle.cb_elim.specs.Store.{Seen as Booleans, IsAsBefore as IsStoreBefore, IsStore, slot_bits, view_of}
use Rattle.cb_elim.specs.Unified.{HasCause, OnlyValues}
use Rattle.cb_elim.proofs.Together.{nodes_of, slots-agree, slots-depend}
use Rattle.cb_heap.specs.declared.Ref.{Ref}
use Rattle.cb_heap.specs.declared.Stored.{Stored}
use Rattle.cb_heap.specs.declared.Stored.TheVariants as cell
use Rattle.cb_heap.specs.Finite.{AllFinite, IsSorted}
use Rattle.cb_heap.specs.Heap.{Terms, IsHeap}
use Rattle.cb_heap.specs.Moments.{Moment, IsMoment, moment_of, reverted, KeepsMoments}
use Rattle.cb_heap.specs.Reading.{Reading, IsReading, Agree, AgreeBits}
use Rattle.cb_heap.proofs.Back.{moment-now}
use Rattle.cb_heap.proofs.Values.{has-reading}
use Rattle.cb_join.specs.Cycle.{HasNoReading, IsClosed}
use Rattle.cb_join.specs.Joins.{IsWithin, Joined, KeepsEnds, KeepsLeaves, LeavesBelow, NoneAgree, Rising, SlotsBelow}
use Rattle.cb_join.proofs.Joins.{rising-count}
use Rattle.cb_unify.specs.Moments.{KeepsMoments as StateKeeps}
use Rattle.cb_unify.specs.Solve.{AreCells, IsSettled, NoBits, OnlyRewritten, SolvesPairs, cells_of, seen_of, solve_most, width}
use Rattle.cb_unify.specs.State.{Seen, HasNone, IsAsBefore as IsStateBefore, IsSolved, IsState, Reads, with_fulls}
use Rattle.cb_unify.proofs.Back.{keeps-fulls, state-fulls}

-- ---- pairs of slots

pub pairs-solved : (s u : Booleans) (xs : List (ℕ × ℕ)) → AreSlots s xs → AreUnified s u (map (nodes_of s.slots) xs) → SolvesPairs (view_of s) (view_of u) xs
pairs-solved s u xs h q = record {
  left = λ a w. (
    (λ r. let x = (q.solved.left a w).0 r in (x.0, (slots-agree s xs h a w).0 x.1)),
    (λ r. (q.solved.left a w).1 (r.0, (slots-agree s xs h a w).1 r.1)),
  );
  some = q.solved.some;
  same = q.slots;
}

pub pairs-none : (s : Booleans) (xs : List (ℕ × ℕ)) → AreSlots s xs → HaveNone (view_of s) s.nodes.triples (map (nodes_of s.slots) xs) → NoBits (view_of s) xs
pairs-none s xs h n = record { at = n.at; none = λ w r e. n.none w r ((slots-agree s xs h n.at w).1 e) }

-- ---- the bound

count-below : (n : ℕ) → length (levels_below n) ≡ n
count-below zero = refl
count-below (suc n) = ap suc (count-below n)

count-map : {A B : Type 0} (f : A → B) (xs : List A) → length (map f xs) ≡ length xs
count-map f [] = refl
count-map f (x ∷ xs) = ap suc (count-map f xs)

pub live-count : (s : Booleans) → length (live_levels s) ≡ width s
live-count s =
    length-append (levels_below s.constants) (map (λ f. f.level) s.free)
    ∙ (let a = count-below s.constants in let b = count-map (λ f. f.level) s.free in omega (arith, a, b))

pairs-count : (ns : List Node) (xs : List (ℕ × ℕ)) → length (map (nodes_of ns) xs) ≡ length xs
pairs-count ns xs = count-map (nodes_of ns) xs

bound-is : (s : Booleans) (xs : List (ℕ × ℕ)) → pairs_bound (length (map (nodes_of s.slots) xs)) (length s.slots) (length (live_levels s)) ≡ pairs_bound (length xs) (length s.slots) (width s)
bound-is s xs = ap (λ p. pairs_bound p (length s.slots) (length (live_levels s))) (pairs-count s.slots xs) ∙ ap (λ w. pairs_bound (length xs) (length s.slots) w) (live-count s)

pub pairs-room : (s : Booleans) (xs : List (ℕ × ℕ)) (u : Nodes) → AreSlots s xs → AreLevels s.nodes.triples s.constants s.slots (live_levels s) → PairsRoom s.slots (map (nodes_of s.slots) xs) s.nodes u →
    length u.triples ≤ length s.nodes.triples + pairs_bound (length xs) (length s.slots) (width s)
pairs-room s xs u h l r =
    let a = r.most (live_levels s) (slots-depend s xs (live_levels s) h l.slots) l.slots in
    let b = bound-is s xs in
    omega (arith, a, b)

pub pairs-cause : (s u : Booleans) (xs : List (ℕ × ℕ)) → AreSlots s xs → AreLevels s.nodes.triples s.constants s.slots (live_levels s) → PairsCause s u (map (nodes_of s.slots) xs) →
    HasCause s u (pairs_bound (length xs) (length s.slots) (width s))
pairs-cause s u xs h l c = record {
  rose = c.rose;
  below = let a = c.below (live_levels s) (slots-depend s xs (live_levels s) h l.slots) l.slots in let b = bound-is s xs in omega (arith, a, b);
}

two-four : (w : ℕ) → 2 ^ w ≤ 4 ^ (w + 1)
two-four zero = omega arith
two-four (suc w) =
    let a = two-four w in
    let b : 2 ^ (suc w) ≡ 2 ^ w * 2 = pow-suc 2 w in
    let c : 4 ^ (suc w + 1) ≡ 4 ^ (w + 1) * 4 = ap (λ k. 4 ^ k) (let q : suc w + 1 ≡ suc (w + 1) = omega arith in q) ∙ pow-suc 4 (w + 1) in
    omega (arith, a, b, c)

pub solve-bound : (p n w : ℕ) → p ≤ n → pairs_bound p n w ≤ 80 * (n + w + 1) * 4 ^ (w + 1)
solve-bound p n w h =
    let a : p * (3 * 2 ^ w) ≤ p * (3 * 4 ^ (w + 1)) = mul-le-mul_left {m = 3 * 2 ^ w} {n = 3 * 4 ^ (w + 1)} p (let q = two-four w in omega (arith, q)) in
    let b : p * 3 * 4 ^ (w + 1) ≤ 16 * (n + w + 1) * 4 ^ (w + 1) = mul-le-mul_right {m = p * 3} {n = 16 * (n + w + 1)} (4 ^ (w + 1)) (omega arith) in
    let c : p * (3 * 4 ^ (w + 1)) ≡ p * 3 * 4 ^ (w + 1) = grind arith in
    let d : 16 * (n + w + 1) * 4 ^ (w + 1) + 64 * (n + w + 1) * 4 ^ (w + 1) ≡ 80 * (n + w + 1) * 4 ^ (w + 1) = grind arith in
    omega (arith, a, b, c, d)

pub room-from : (s : Booleans) (u n : ℕ) (ls' ls : List (ℕ × ℕ)) → ls' ≡ ls → pairs_bound (length ls) (length s.slots) (width s) ≤ solve_most s → u ≤ n + pairs_bound (length ls') (length s.slots) (width s) → u ≤ n + solve_most s
room-from s u n ls' ls e b r = let k = ap (λ (x : List (ℕ × ℕ)). pairs_bound (length x) (length s.slots) (width s)) e in omega (arith, b, r, k)

pub cause-from : (s u : Booleans) (ls' ls : List (ℕ × ℕ)) → ls' ≡ ls → pairs_bound (length ls) (length s.slots) (width s) ≤ solve_most s → HasCause s u (pairs_bound (length ls') (length s.slots) (width s)) → HasCause s u (solve_most s)
cause-from s u ls' ls e b c = record { rose = c.rose; below = let r = c.below in let k = ap (λ (x : List (ℕ × ℕ)). pairs_bound (length x) (length s.slots) (width s)) e in omega (arith, b, r, k) }

-- ---- values

-- a value of each sort
pub any-value : Sort → Ground
any-value sort.Bool = Bit false
any-value sort.Bus = Word []
any-value sort.Term = Int (pos 0)

pub any-fits : (t : Sorts) (z : Sort) → Fits t z (any-value z)
unfolding any-value
any-fits t sort.Bool = tt
any-fits t sort.Bus = tt
any-fits t sort.Term = zero_fits

-- ---- cells that were made one

module _ (h : Terms) (s : Booleans) (ps : List (Ref × Ref)) (pending : List (ℕ × ℕ)) (pe : pending ≡ cells_of ps) (none : List (ℕ × ℕ)) (ne : none ≡ []) where
  cells-within : (n : ℕ) (qs : List (Ref × Ref)) → Each (λ p. (p.0.0 < n) × (p.1.0 < n)) qs → Each (λ p. (p.0 < n) × (p.1 < n)) (cells_of qs)
  cells-within n [] w = tt
  cells-within n (q ∷ qs) w = (w.0, cells-within n qs w.1)

  pub pending-within : AreCells h ps → IsWithin h.cells pending
  pending-within w = subst (λ (x : List (ℕ × ℕ)). IsWithin h.cells x) (sym pe) (cells-within (length h.cells) ps w)

  -- some pair clashes
  pub clash-none : NoneAgree h.sorts h.cells pending none → (xs : List ℕ) → HasNone (seen_of h s xs) (cells_of ps)
  clash-none n xs = record {
    at = λ k. false;
    none = λ t w g q e. n t (slot_bits (view_of s) (λ k. false) w) g q.reading (subst (λ (x : List (ℕ × ℕ)). Agree g x) (sym pe) e) (subst (λ (x : List (ℕ × ℕ)). AgreeBits (slot_bits (view_of s) (λ k. false) w) x) (sym ne) tt);
  }

  module _ (h' : Terms) (sorts : h'.sorts ≡ h.sorts) (ls : List (ℕ × ℕ)) (joined : Joined h.sorts h.cells pending none h'.cells [] ls) where
    into : (t : Sorts) (w : Bits) (g : Reading) → IsReading t w h.sorts h.cells g → Agree g (cells_of ps) → IsReading t w h.sorts h'.cells g × AgreeBits w ls
    into t w g r e =
        let j = (joined t w g).0 (r, subst (λ (x : List (ℕ × ℕ)). Agree g x) (sym pe) e, subst (λ (x : List (ℕ × ℕ)). AgreeBits w x) (sym ne) tt) in
        (j.0, j.2)

    back : (t : Sorts) (w : Bits) (g : Reading) → IsReading t w h.sorts h'.cells g → AgreeBits w ls → IsReading t w h.sorts h.cells g × Agree g (cells_of ps)
    back t w g r e =
        let j = (joined t w g).1 (r, tt, e) in
        (j.0, subst (λ (x : List (ℕ × ℕ)). Agree g x) pe j.1)

    -- cells lead back to themselves
    pub cycle-none : HasNoReading h'.cells → (xs : List ℕ) → HasNone (seen_of h s xs) (cells_of ps)
    cycle-none n xs = record {
      at = λ k. false;
      none = λ t w g q e. n (slot_bits (view_of s) (λ k. false) w) g (into t (slot_bits (view_of s) (λ k. false) w) g q.reading e).0.holds;
    }

    -- the slots have no bits
    pub bits-none : NoBits (view_of s) ls → (xs : List ℕ) → HasNone (seen_of h s xs) (cells_of ps)
    bits-none n xs = record {
      at = n.at;
      none = λ t w g q e. n.none w q.range (into t (slot_bits (view_of s) n.at w) g q.reading e).1;
    }

    module _ (s' : Booleans) (solves : SolvesPairs (view_of s) (view_of s') ls) where
      same-bits : (a w : Bits) → InRange (view_of s') a w → slot_bits (view_of s') a w ≡ slot_bits (view_of s) a w
      same-bits a w r = fun_ext (λ x. solves.same a w r x)

      old-reads : (xs : List ℕ) (t : Sorts) (a w : Bits) (g : Reading) → Reads t (seen_of h' s' xs) a w g → Reads t (seen_of h s xs) a w g × Agree g (cells_of ps)
      old-reads xs t a w g q =
          let x = (solves.left a w).0 q.range in
          let r : IsReading t (slot_bits (view_of s) a w) h.sorts h'.cells g =
          subst (λ (z : List Sort). IsReading t (slot_bits (view_of s) a w) z h'.cells g) sorts (subst (λ (v : Bits). IsReading t v h'.sorts h'.cells g) (same-bits a w q.range) q.reading) in
          let y = back t (slot_bits (view_of s) a w) g r x.1 in
          (record { range = x.0; reading = y.0 }, y.1)

      new-reads : (xs : List ℕ) (t : Sorts) (a w : Bits) (g : Reading) → Reads t (seen_of h s xs) a w g → Agree g (cells_of ps) → Reads t (seen_of h' s' xs) a w g
      new-reads xs t a w g q e =
          let y = into t (slot_bits (view_of s) a w) g q.reading e in
          let r = (solves.left a w).1 (q.range, y.1) in
          record {
            range = r;
            reading = subst (λ (v : Bits). IsReading t v h'.sorts h'.cells g) (sym (same-bits a w r)) (subst (λ (z : List Sort). IsReading t (slot_bits (view_of s) a w) z h'.cells g) (sym sorts) y.0);
          }

      -- something is left
      some-reading : AllFinite h'.cells → (xs : List ℕ) (t : Sorts) → IsSorted t h'.sorts h'.cells → (a : Bits) → (w : Bits) × (g : Reading) × Reads t (seen_of h' s' xs) a w g
      some-reading all xs t o a =
          let w = solves.some a in
          let r = has-reading t (slot_bits (view_of s') a w.0) (λ r. any-value (get_or h'.sorts r sort.Bool)) h'.sorts h'.cells all o
          (λ r z e. subst (λ x. Fits t z (any-value x)) (sym (get_or_from_slice_get h'.sorts r z sort.Bool e)) (any-fits t z)) in
          (w.0, r.0, record { range = w.1; reading = r.1 })

      pub all-solved : AllFinite h'.cells → ((t : Sorts) → IsSorted t h.sorts h.cells → IsSorted t h.sorts h'.cells) → (xs : List ℕ) → IsSolved (seen_of h s xs) (seen_of h' s' xs) (cells_of ps)
      all-solved all sorted xs = record {
        left = λ t a w g. (old-reads xs t a w g, λ q. new-reads xs t a w g q.0 q.1);
        some = λ t fits a. some-reading all xs t (subst (λ (z : List Sort). IsSorted t z h'.cells) (sym sorts) (sorted t fits)) a;
      }

-- ---- leaves and their slots

rising-below : (n k : ℕ) (cs : List Stored) → Rising n k cs → SlotsBelow n cs
rising-below n k [] h r x at = absurd (let e = slice_get_within [] r (cell.Leaf x) at in omega (arith, e))
rising-below n k (c ∷ cs) h zero x at = absurd-or c h at
  where
    absurd-or : (c : Stored) → Rising n k (c ∷ cs) → slice_get (c ∷ cs) zero ≡ Some (cell.Leaf x) → x < n
    absurd-or (cell.Leaf s) q e = let m = rising-count n (suc s) cs q.1 in let same : s ≡ x = leaf-is s x e in omega (arith, m, same)
      where
        leaf-is : (s x : ℕ) → Some (cell.Leaf s) ≡ Some (cell.Leaf x) → s ≡ x
        leaf-is s x e = cc
    absurd-or cell.BusVar q e = absurd (cc)
    absurd-or cell.BusNil q e = absurd (cc)
    absurd-or (cell.BusCons a b) q e = absurd (cc)
    absurd-or cell.TermVar q e = absurd (cc)
    absurd-or (cell.Int z) q e = absurd (cc)
    absurd-or (cell.Node m i) q e = absurd (cc)
    absurd-or (cell.Bound to) q e = absurd (cc)
    absurd-or (cell.Same to) q e = absurd (cc)
rising-below n k (cell.Leaf s ∷ cs) h (suc r) x at = rising-below n (suc s) cs h.1 r x at
rising-below n k (cell.BusVar ∷ cs) h (suc r) x at = rising-below n k cs h r x at
rising-below n k (cell.BusNil ∷ cs) h (suc r) x at = rising-below n k cs h r x at
rising-below n k (cell.BusCons a b ∷ cs) h (suc r) x at = rising-below n k cs h r x at
rising-below n k (cell.TermVar ∷ cs) h (suc r) x at = rising-below n k cs h r x at
rising-below n k (cell.Int z ∷ cs) h (suc r) x at = rising-below n k cs h r x at
rising-below n k (cell.Node m i ∷ cs) h (suc r) x at = rising-below n k cs h r x at
rising-below n k (cell.Bound to ∷ cs) h (suc r) x at = rising-below n k cs h r x at
rising-below n k (cell.Same to ∷ cs) h (suc r) x at = rising-below n k cs h r x at

module _ (s : Booleans) (ss : List Sort) (cs cs' : List Stored) (none ls : List (ℕ × ℕ)) (ne : none ≡ []) (rise : Rising (length s.slots) 0 cs) (keeps : KeepsLeaves ss cs none cs' ls) where
  pub owed-slots : AreSlots s ls
  owed-slots = (keeps.slots (length s.slots) (rising-below (length s.slots) 0 cs rise) (subst (λ (x : List (ℕ × ℕ)). LeavesBelow (length s.slots) x) (sym ne) tt)).1

  pub few-owed : length ls ≤ length s.slots
  few-owed = let a = rising-count (length s.slots) 0 cs rise in let b : length none ≡ 0 = ap length ne in let f = keeps.fewer in omega (arith, a, b, f)

  pub owed-bound : pairs_bound (length ls) (length s.slots) (width s) ≤ solve_most s
  owed-bound = solve-bound (length ls) (length s.slots) (width s) few-owed

  pub none-owed : KeepsLeaves ss cs [] cs' ls
  none-owed = subst (λ (x : List (ℕ × ℕ)). KeepsLeaves ss cs x cs' ls) ne keeps

-- ---- the heap at the moment

module _ (old new : Terms) (is : IsHeap old) (k : KeepsMoments old new) (m : Moment) (now : m ≡ moment_of old) (same : reverted m old ≡ old) where
  then-old : reverted m new ≡ old
  then-old = k.same m (subst (λ (x : Moment). IsMoment x old) (sym now) (moment-now old is)) ∙ same

  pub then-moment : IsMoment m new
  then-moment = k.moments m (subst (λ (x : Moment). IsMoment x old) (sym now) (moment-now old is))

  pub then-finite : AllFinite old.cells → AllFinite (reverted m new).cells
  then-finite all = subst (λ (x : Terms). AllFinite x.cells) (sym then-old) all

  pub then-closed : (n : ℕ) → IsClosed n old.cells → IsClosed n (reverted m new).cells
  then-closed n c = subst (λ (x : Terms). IsClosed n x.cells) (sym then-old) c

  pub then-ends : KeepsEnds old.cells new.cells → KeepsEnds (reverted m new).cells new.cells
  then-ends e = subst (λ (x : Terms). KeepsEnds x.cells new.cells) (sym then-old) e

  pub then-number : IsHeap new → new.sorts ≡ old.sorts → m.cells ≡ length new.cells
  then-number is' e =
      let a : m.cells ≡ length old.cells = ap (λ (x : Moment). x.cells) now in
      let b : length new.sorts ≡ length old.sorts = ap length e in
      let c = is.number in let d = is'.number in omega (arith, a, b, c, d)

-- ---- the state after the step

pub settled-now : (n : ℕ) (h : Terms) → IsHeap h → n ≡ length h.cells → IsSettled n h.cells
settled-now n h is e = record {
  within = omega (arith, e);
  closed = λ r j less child. let a = is.linked.within r j child in omega (arith, a, e);
}

-- cells behind them may be added
pub settled-more : (n : ℕ) (cs more : List Stored) → IsSettled n cs → IsSettled n (cs ++ more)
settled-more n cs more h = record {
  within = let a = h.within in omega (arith, a, length-append cs more);
  closed = λ r j less child. h.closed r j less (child.0, get-front cs more r (let a = h.within in omega (arith, a, less)) ∙ child.1, child.2);
}
  where
    get-front : (cs more : List Stored) (r : ℕ) → r < length cs → slice_get cs r ≡ slice_get (cs ++ more) r
    get-front [] more r less = absurd (omega arith)
    get-front (c ∷ cs) more zero less = refl
    get-front (c ∷ cs) more (suc r) less = get-front cs more r (omega arith)

pub settled-cells : (n : ℕ) (cs cs' more : List Stored) → cs' ≡ cs ++ more → IsSettled n cs → IsSettled n cs'
settled-cells n cs cs' more e h = subst (IsSettled n) (sym e) (settled-more n cs more h)

cells-same : (h h' : Terms) → IsHeap h → IsHeap h' → h'.sorts ≡ h.sorts → length h'.cells ≡ length h.cells
cells-same h h' is is' e =
    let a = is.number in
    let b = is'.number in
    let c : length h'.sorts ≡ length h.sorts = ap length e in
    omega (arith, a, b, c)

module _ (now s : Seen) (is : s ≡ now) (st : IsState now) (h' : Terms) (b' : Booleans) where
  module _ (sorts : h'.sorts ≡ s.heap.sorts) (heap : IsHeap h') (ls : List (ℕ × ℕ)) (keeps : KeepsLeaves s.heap.sorts s.heap.cells [] h'.cells ls) (values : OnlyValues s.store b') where
    inside : IsState s
    inside = subst IsState (sym is) st

    number : length h'.cells ≡ length s.heap.cells
    unfolding inside
    number = cells-same s.heap h' inside.heap heap sorts

    pub solved-rewritten : OnlyRewritten now (seen_of h' b' s.made)
    unfolding inside number
    solved-rewritten = subst (λ (o : Seen). OnlyRewritten o (seen_of h' b' s.made)) is (record {
      made = refl;
      sorts = sorts;
      cells = number;
      slots = values.number;
      constants = values.constants;
      drawn = values.drawn;
      free = values.free;
      fits = λ t o. subst (λ (z : List Sort). IsSorted t z h'.cells) (sym sorts) (keeps.sorted t o);
    })

    pub solved-state : IsStore b' → AllFinite h'.cells → IsState (seen_of h' b' s.made)
    unfolding inside number
    solved-state store finite = record {
      store = store;
      heap = heap;
      finite = finite;
      rise = subst (λ n. Rising n 0 h'.cells) (sym values.number) (keeps.rises (length s.store.slots) 0 inside.rise);
      made = subst (λ n. Each (λ r. r < n) s.made) (sym number) inside.made;
    }

  module _ (same : h' ≡ s.heap) (before : IsStoreBefore s.store b') where
    back-is : seen_of h' b' s.made ≡ with_fulls b'.nodes.fulls now
    back-is = (λ i. record { heap = same i; store = before.same i; made = s.made }) ∙ ap (λ (o : Seen). with_fulls b'.nodes.fulls o) is

    pub back-state : IsState (seen_of h' b' s.made)
    unfolding back-is
    back-state = subst IsState (sym back-is) (state-fulls b'.nodes.fulls now st)

    pub back-moments : StateKeeps now (seen_of h' b' s.made)
    unfolding back-is
    back-moments = subst (λ (o : Seen). StateKeeps now o) (sym back-is) (keeps-fulls now b'.nodes.fulls)

    pub back-before : IsStateBefore now (seen_of h' b' s.made)
    unfolding back-is
    back-before = record { same = back-is; fulls = subst (λ (o : Seen). o.store.nodes.fulls ≤ b'.nodes.fulls) is before.fulls }

-- going back gives the terms of before
pub heap-back : (now s : Seen) → s ≡ now → IsState now → IsHeap s.heap
heap-back now s is st = (subst IsState (sym is) st).heap

-- without the variables that were made
pub state-alone : (s now : Seen) → s ≡ now → IsState now → IsState (seen_of s.heap s.store [])
state-alone s now is st = let q = subst IsState (sym is) st in record { store = q.store; heap = q.heap; finite = q.finite; rise = q.rise; made = tt }

is-yes : {E : Type 0} → Result Bool E → Bool
is-yes (Ok b) = b
is-yes (Err e) = false

pub no-ok-false : {E : Type 0} (r : Result Bool E) → r ≡ Ok false → r ≡ Ok Bool.true → ⊥
unfolding is-yes
no-ok-false r e h = let x : false ≡ Bool.true = ap is-yes (sym e ∙ h) in cc

pub no-err : {E : Type 0} (r : Result Bool E) (x : E) → r ≡ Err x → r ≡ Ok Bool.true → ⊥
unfolding is-yes
no-err r x e h = let y : false ≡ Bool.true = ap is-yes (sym e ∙ h) in cc
