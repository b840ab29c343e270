-- The parts at their places, and the levels eliminated one after another.
use Rattle.std.proofs.Common.{◌≡◌, ◌⊎◌, inl, inr, ℕ, zero, suc, ◌+◌, ◌*◌, ◌<◌, ◌≤◌, ◌^◌, Bool, true, false, ◌&&◌, ◌||◌, List, [], ◌∷◌, length, take, drop, get_or, replicate, refl, sym, ap, ap₂, subst, ◌∙◌, arith}
use Rattle.std.proofs.lemmas.Bool.{cases_eq, true≢false}
use Rattle.std.proofs.lemmas.List.{drop_more}
use Rattle.std.proofs.Math.Nat.{mul-le-mul_right}
use Rattle.std.proofs.Math.Path.{fun_ext}
use Rattle.cb_model.specs.Bits.{Bits, Each, put}
use Rattle.cb_dd.specs.declared.Node.{Node}
use Rattle.cb_dd.specs.declared.Triple.{Triple}
use Rattle.cb_dd.specs.Diagram.{Store, IsNode, function_of}
use Rattle.cb_dd.proofs.Diagrams.{function_of-zero}
use Rattle.cb_ops.specs.Ops.{Grows, StandsFor, Room, DependsOn, IsFree}
use Rattle.cb_ops.specs.Support.{IsListed}
use Rattle.cb_ops.proofs.Ite.{grown-function, grown-node, grown-depends, Grows-same, Grows-then, put-other, put-same}
use Rattle.cb_boole.specs.Elimination.{Function, DependsOnly, both, rest}
use Rattle.cb_boole.proofs.Only.{both_drops, both_only}
use Rattle.cb_solution.specs.Parts.{AreEliminated, AreParts, ArePlaces, AreSpread, AreStages, HasLeft, IsFreeOf, IsOut, IsPlaced, PartsDepend, PartsRoom, PlacedRoom, Solves, StagesRoom, StepsRoom, some_one}
use Rattle.cb_solution.proofs.Solved.{listed-here, listed-there, only-from, only-into}
use Rattle.cb_solution.proofs.Loops.{drop-listed, drop-none, rest-next, rest-split}
use Rattle.cb_solution.proofs.Places.{depend-at, depend-grown, free-grown, listed-index, part-at, parts-grown, some-grown}

-- ---- what is left holds where a part holds that depends on none of the levels

rest-one : (ls : List ℕ) (f g : Function) → ((l : ℕ) → IsListed ls l → (p : Bits) (b : Bool) → g (put l b p) ≡ g p) → ((p : Bits) → g p ≡ true → f p ≡ true) → (p : Bits) → g p ≡ true → rest ls f p ≡ true
unfolding rest both
rest-one [] f g free le p h = le p h
rest-one (l ∷ ls) f g free le p h =
    rest-one ls (both l f) g (λ k there. free k (listed-there l k ls there))
    (λ q w. ap₂ ◌&&◌ (le (put l false q) (free l (listed-here l ls) q false ∙ w)) (le (put l true q) (free l (listed-here l ls) q true ∙ w))) p h

free-listed : (ts : List Triple) (n : ℕ) (levels : List ℕ) → IsFreeOf ts n levels (length levels) → (l : ℕ) → IsListed levels l → (p : Bits) (b : Bool) → function_of ts n (put l b p) ≡ function_of ts n p
free-listed ts n levels free l there p b =
    let i = listed-index levels l there in
    subst (λ k. function_of ts n (put k b p) ≡ function_of ts n p) i.1.1 (free i.0 i.1.0 p b)

-- ---- the first loop

some-at : (ts : List Triple) (ns : List Node) (k : ℕ) (d : Node) (p : Bits) → k < length ns → function_of ts (get_or ns k d).0 p ≡ true → some_one ts ns p ≡ true
some-at ts [] k d p h e = absurd (omega (arith, h))
some-at ts (n ∷ ns) zero d p h e = ap (λ b. b || some_one ts ns p) e
some-at ts (n ∷ ns) (suc k) d p h e = ap (λ b. function_of ts n.0 p || b) (some-at ts ns k d p (omega (arith, h)) e) ∙ or-one (function_of ts n.0 p)
  where
    or-one : (b : Bool) → (b || true) ≡ true
    or-one true = refl
    or-one false = refl

-- so many parts are at their places
pub record SpreadSo (i : ℕ) (levels : List ℕ) (ps : List Node) (s t : Store) (ns : List Node) : Type 0 where
  pub grows : Grows s t
  pub places : ArePlaces t.triples levels ns
  pub one : (p : Bits) → (some_one t.triples ns p || some_one s.triples (drop i ps) p) ≡ some_one s.triples ps p
  pub depend : (ls : List ℕ) → PartsDepend s.triples ps ls → PartsDepend t.triples ns ls
  pub most : (ls : List ℕ) → PartsDepend s.triples ps ls → length t.triples ≤ length s.triples + i * (1 * 2 ^ length ls)
  pub fulls : t.fulls ≡ s.fulls

-- so many nodes that are 0
abbrev zeros : ℕ → List Node
zeros n = replicate n (record { 0 = 0 })

module _ (ts : List Triple) where
  zeros-none : (n : ℕ) (p : Bits) → some_one ts (zeros n) p ≡ false
  zeros-none zero p = refl
  zeros-none (suc n) p = ap (λ b. b || some_one ts (zeros n) p) (function_of-zero ts p) ∙ zeros-none n p

  zeros-there : (n : ℕ) → AreParts ts (zeros n)
  zeros-there zero = tt
  zeros-there (suc n) = (omega arith, zeros-there n)

  zeros-length : (n : ℕ) → length {A = Node} (zeros n) ≡ n
  zeros-length zero = refl
  zeros-length (suc n) = ap suc (zeros-length n)

  zeros-depend : (n : ℕ) (ls : List ℕ) → PartsDepend ts (zeros n) ls
  zeros-depend zero ls = tt
  zeros-depend (suc n) ls = (record { agrees = λ p q h. function_of-zero ts p ∙ sym (function_of-zero ts q) }, zeros-depend n ls)

  zeros-at : (n k : ℕ) (d : Node) → k < n → (get_or {A = Node} (zeros n) k d).0 ≡ 0
  zeros-at zero k d h = absurd (omega (arith, h))
  zeros-at (suc n) zero d h = refl
  zeros-at (suc n) (suc k) d h = zeros-at n k d (omega (arith, h))

  zeros-free : (n : ℕ) (levels : List ℕ) (k : ℕ) (d : Node) → k < length {A = Node} (zeros n) → IsFreeOf ts (get_or {A = Node} (zeros n) k d).0 levels k
  zeros-free n levels k d h j less a b =
      let e = zeros-at n k d (let l = zeros-length n in omega (arith, h, l)) in
      ap (λ m. function_of ts m (put (get_or levels j 0) b a)) e ∙ function_of-zero ts (put (get_or levels j 0) b a) ∙ sym (ap (λ m. function_of ts m a) e ∙ function_of-zero ts a)

pub spread-first : (levels : List ℕ) (ps : List Node) (s : Store) (ns : List Node) → ns ≡ zeros (length levels) → SpreadSo 0 levels ps s s ns
spread-first levels ps s ns e = subst (λ (xs : List Node). SpreadSo 0 levels ps s s xs) (sym e) (record {
  grows = Grows-same s;
  places = record {
    number = zeros-length s.triples (length levels);
    there = zeros-there s.triples (length levels);
    ordered = λ k d h. zeros-free s.triples (length levels) levels k d h;
  };
  one = λ p. ap (λ b. b || some_one s.triples (drop 0 ps) p) (zeros-none s.triples (length levels) p) ∙ ap (λ xs. some_one s.triples xs p) (drop-none ps);
  depend = λ ls d. zeros-depend s.triples (length levels) ls;
  most = λ ls d. omega arith;
  fulls = refl;
})

or-turn : (f a b : Bool) → ((f || a) || b) ≡ (a || (f || b))
or-turn true true b = refl
or-turn true false b = refl
or-turn false a b = refl

module _ (i : ℕ) (levels : List ℕ) (ps : List Node) (s t u : Store) (ns : List Node) (so : SpreadSo i levels ps s t ns) (ws : AreParts s.triples ps) (less : i < length ps) (d : Node) where
  pub part-there : IsNode t.triples (get_or ps i d).0
  part-there = grown-node s t so.grows (get_or ps i d).0 (part-at s.triples ps i d ws less)

  pub spread-none : IsOut t.triples (get_or ps i d).0 levels → HasLeft (some_one s.triples ps) levels
  spread-none o = record {
    at = o.at;
    left = rest-one levels (some_one s.triples ps) (function_of t.triples (get_or ps i d).0) (free-listed t.triples (get_or ps i d).0 levels o.free)
        (λ p h. some-at s.triples ps i d p less (sym (grown-function s t so.grows (get_or ps i d).0 (part-at s.triples ps i d ws less) p) ∙ h)) o.at o.one;
  }

  module _ (tu : Grows t u) (room : PlacedRoom (get_or ps i d).0 ns t u) where
    most-spread : (ls : List ℕ) → PartsDepend s.triples ps ls → length u.triples ≤ length s.triples + (i + 1) * (1 * 2 ^ length ls)
    most-spread ls e =
        let m = so.most ls e in
        let r = room.most ls (grown-depends s t so.grows (get_or ps i d).0 ls (part-at s.triples ps i d ws less) (depend-at s.triples ps ls i d e less)) (so.depend ls e) in
        more (length s.triples) (length t.triples) (length u.triples) i (2 ^ length ls) m r
      where
        more : (s t u i x : ℕ) → t ≤ s + i * (1 * x) → u ≤ t + x → u ≤ s + (i + 1) * (1 * x)
        more s t u i x a b = let e : (i + 1) * (1 * x) ≡ i * (1 * x) + x = grind arith in omega (arith, a, b, e)

    pub spread-stop : StepsRoom ps (length ps) 1 s u
    spread-stop = record { most = λ ls e. let m = most-spread ls e in let p = mul-le-mul_right {m = i + 1} {n = length ps} (1 * 2 ^ length ls) (omega (arith, less)) in omega (arith, m, p) }

    pub spread-next : (ms : List Node) → IsPlaced t u levels (get_or ps i d).0 ns ms → u.fulls ≡ t.fulls → SpreadSo (i + 1) levels ps s u ms
    spread-next ms placed fulls = record {
      grows = Grows-then s t u so.grows tu;
      places = placed.places;
      one = λ p.
          ap (λ b. b || some_one s.triples (drop (i + 1) ps) p)
          (sym (ap (λ xs. some_one u.triples xs p) (drop-none ms)) ∙ placed.one 0 (omega arith) (λ j none a b. absurd (omega (arith, none))) p ∙ ap₂ ◌||◌ (grown-function s t so.grows (get_or ps i d).0 (part-at s.triples ps i d ws less) p) (ap (λ xs. some_one t.triples xs p) (drop-none ns)))
          ∙ or-turn (function_of s.triples (get_or ps i d).0 p) (some_one t.triples ns p) (some_one s.triples (drop (i + 1) ps) p)
          ∙ ap (λ b. some_one t.triples ns p || b) (sym (ap (λ xs. some_one s.triples xs p) (drop_more ps i d less)))
          ∙ so.one p;
      depend = λ ls e. placed.depend ls (grown-depends s t so.grows (get_or ps i d).0 ls (part-at s.triples ps i d ws less) (depend-at s.triples ps ls i d e less)) (so.depend ls e);
      most = most-spread;
      fulls = fulls ∙ so.fulls;
    }

drop-past : (xs : List Node) (i : ℕ) → length xs ≤ i → drop i xs ≡ []
drop-past [] zero m = refl
drop-past [] (suc i) m = refl
drop-past (x ∷ xs) zero m = absurd (omega (arith, m))
drop-past (x ∷ xs) (suc i) m = drop-past xs i (omega (arith, m))

or-none : (b : Bool) → (b || false) ≡ b
or-none true = refl
or-none false = refl

pub spread-end : (i : ℕ) (levels : List ℕ) (ps : List Node) (s t : Store) (ns : List Node) → SpreadSo i levels ps s t ns → length ps ≤ i → AreSpread s t levels ps ns
spread-end i levels ps s t ns so past = record {
  places = so.places;
  one = λ p. sym (or-none (some_one t.triples ns p)) ∙ ap (λ b. some_one t.triples ns p || b) (sym (ap (λ xs. some_one s.triples xs p) (drop-past ps i past))) ∙ so.one p;
  depend = so.depend;
}

pub spread-room : (i : ℕ) (levels : List ℕ) (ps : List Node) (s t : Store) (ns : List Node) → SpreadSo i levels ps s t ns → i ≤ length ps → StepsRoom ps (length ps) 1 s t
spread-room i levels ps s t ns so le = record { most = λ ls e. let m = so.most ls e in let p = mul-le-mul_right {m = i} {n = length ps} (1 * 2 ^ length ls) le in omega (arith, m, p) }

-- ---- elimination of a level from one part

free-only : (f : Function) (k : ℕ) → ((p : Bits) (b : Bool) → f (put k b p) ≡ f p) → DependsOnly (λ m. m ≡ k → ⊥) f
free-only f k free p q h = sym (free p (q k)) ∙ ap f (fun_ext (λ m. at m (cases_eq m k)))
  where
    at : (m : ℕ) → (m ≡ k) ⊎ (m ≡ k → ⊥) → put k (q k) p m ≡ q m
    at m (inl same) = put-same p k m (q k) same ∙ ap q (sym same)
    at m (inr other) = put-other p k (q k) m other ∙ h m other

only-free : (f : Function) (k : ℕ) → DependsOnly (λ m. m ≡ k → ⊥) f → (p : Bits) (b : Bool) → f (put k b p) ≡ f p
only-free f k only p b = only (put k b p) p (λ m other. put-other p k b m other)

both-own : (l : ℕ) (f : Function) → (p : Bits) (b : Bool) → both l f (put l b p) ≡ both l f p
both-own l f = only-free (both l f) l (both_drops (λ m. m ≡ l → ⊥) l f (λ p q h. ap f (fun_ext (λ m. h m (cases_eq m l)))))

both-other : (l k : ℕ) (f : Function) → ((p : Bits) (b : Bool) → f (put k b p) ≡ f p) → (p : Bits) (b : Bool) → both l f (put k b p) ≡ both l f p
both-other l k f free = only-free (both l f) k (both_only (λ m. m ≡ k → ⊥) l f (free-only f k free))

and-or : (a b r : Bool) → ((a || r) && (b || r)) ≡ ((a && b) || r)
and-or true true r = refl
and-or true false true = refl
and-or true false false = refl
and-or false true true = refl
and-or false true false = refl
and-or false false true = refl
and-or false false false = refl

both-or : (l : ℕ) (f r : Function) → ((p : Bits) (b : Bool) → r (put l b p) ≡ r p) → (p : Bits) → both l (λ q. f q || r q) p ≡ (both l f p || r p)
unfolding both
both-or l f r free p =
    ap₂ (λ x y. (f (put l false p) || x) && (f (put l true p) || y)) (free p false) (free p true)
    ∙ and-or (f (put l false p)) (f (put l true p)) (r p)

some-free : (ts : List Triple) (ns : List Node) (l : ℕ) → Each (λ n. IsFree ts n.0 l) ns → (p : Bits) (b : Bool) → some_one ts ns (put l b p) ≡ some_one ts ns p
some-free ts [] l free p b = refl
some-free ts (n ∷ ns) l free p b = ap₂ ◌||◌ (free.0 p b) (some-free ts ns l free.1 p b)

drop-each : (P : Node → Type 0) (ns : List Node) (i : ℕ) → ((j : ℕ) (d : Node) → i ≤ j → j < length ns → P (get_or ns j d)) → Each P (drop i ns)
drop-each P [] zero h = tt
drop-each P [] (suc i) h = tt
drop-each P (n ∷ ns) zero h = (h 0 n (omega arith) (omega arith), each ns (λ j d less. h (suc j) d (omega arith) (omega (arith, less))))
  where
    each : (ms : List Node) → ((j : ℕ) (d : Node) → j < length ms → P (get_or ms j d)) → Each P ms
    each [] g = tt
    each (m ∷ ms) g = (g 0 m (omega arith), each ms (λ j d less. g (suc j) d (omega (arith, less))))
drop-each P (n ∷ ns) (suc i) h = drop-each P ns i (λ j d le less. h (suc j) d (omega (arith, le)) (omega (arith, less)))

or-second : (x y : Bool) → (x || y) ≡ false → y ≡ false
or-second true y h = absurd (true≢false h)
or-second false y h = h

-- ---- the second loop

-- so many levels are eliminated, each from its own node
pub record ElimSo (i : ℕ) (levels : List ℕ) (ps : List Node) (s t : Store) (ns : List Node) : Type 0 where
  pub grows : Grows s t
  pub places : ArePlaces t.triples levels ns
  pub now : (p : Bits) → some_one t.triples (drop i ns) p ≡ rest (take i levels) (some_one s.triples ps) p
  pub at : (k : ℕ) (d : Node) → k < i → (p : Bits) → rest (take (k + 1) levels) (some_one s.triples ps) p ≡ false → function_of t.triples (get_or ns k d).0 p ≡ rest (take k levels) (some_one s.triples ps) p
  pub depend : (ls : List ℕ) → PartsDepend s.triples ps ls → PartsDepend t.triples ns ls
  pub most : (ls : List ℕ) → PartsDepend s.triples ps ls → length t.triples ≤ length s.triples + i * (4 * 2 ^ length ls)
  pub fulls : t.fulls ≡ s.fulls

pub elim-first : (levels : List ℕ) (ps : List Node) (s : Store) → ArePlaces s.triples levels ps → ElimSo 0 levels ps s s ps
unfolding rest
elim-first levels ps s places = record {
  grows = Grows-same s;
  places = places;
  now = λ p. ap (λ xs. some_one s.triples xs p) (drop-none ps) ∙ sym (ap (λ xs. rest xs (some_one s.triples ps) p) (take-none levels));
  at = λ k d less. absurd (omega (arith, less));
  depend = λ ls d. d;
  most = λ ls d. omega arith;
  fulls = refl;
}
  where
    take-none : (ls : List ℕ) → take 0 ls ≡ []
    take-none [] = refl
    take-none (l ∷ ls) = refl

pub places-grown : (t u : Store) → Grows t u → (levels : List ℕ) (ns : List Node) → ArePlaces t.triples levels ns → ArePlaces u.triples levels ns
places-grown t u tu levels ns w = record {
  number = w.number;
  there = parts-grown t u tu ns w.there;
  ordered = λ k d h j less. free-grown t u tu (get_or ns k d).0 (part-at t.triples ns k d w.there h) (get_or levels j 0) (w.ordered k d h j less);
}

module _ (i : ℕ) (levels : List ℕ) (ps : List Node) (s t u : Store) (ns : List Node) (so : ElimSo i levels ps s t ns) (less : i < length ns) (d : Node) (tu : Grows t u) (room : Room ((get_or ns i d).0 ∷ []) 3 t u) where
  node-at : IsNode t.triples (get_or ns i d).0
  node-at = part-at t.triples ns i d so.places.there less

  most-half : (ls : List ℕ) → PartsDepend s.triples ps ls → length u.triples ≤ length s.triples + i * (4 * 2 ^ length ls) + 3 * 2 ^ length ls
  most-half ls e = let m = so.most ls e in let r = room.most ls (depend-at t.triples ns ls i d (so.depend ls e) less, tt) in omega (arith, m, r)

  pub elim-half : StepsRoom ps (length levels) 4 s u
  elim-half = record {
    most = λ ls e.
        let m = most-half ls e in
        let n = so.places.number in
        let p = mul-le-mul_right {m = i + 1} {n = length levels} (4 * 2 ^ length ls) (omega (arith, less, n)) in
        let g : (i + 1) * (4 * 2 ^ length ls) ≡ i * (4 * 2 ^ length ls) + 4 * 2 ^ length ls = grind arith in
        omega (arith, m, p, g);
  }

  module _ (left : ℕ) (wl : IsNode u.triples left) (is : StandsFor u.triples left (both (get_or levels i 0) (function_of t.triples (get_or ns i d).0))) where
    left-free : (j : ℕ) → (j ≡ i) ⊎ (j ≡ i → ⊥) → j < i + 1 → IsFree u.triples left (get_or levels j 0)
    left-free j (inl same) below a b =
        is.at (put (get_or levels j 0) b a)
        ∙ ap (λ k. both (get_or levels i 0) (function_of t.triples (get_or ns i d).0) (put k b a)) (ap (λ k. get_or levels k 0) same)
        ∙ both-own (get_or levels i 0) (function_of t.triples (get_or ns i d).0) a b
        ∙ sym (is.at a)
    left-free j (inr other) below a b =
        is.at (put (get_or levels j 0) b a)
        ∙ both-other (get_or levels i 0) (get_or levels j 0) (function_of t.triples (get_or ns i d).0) (so.places.ordered i d less j (omega (arith, below, other))) a b
        ∙ sym (is.at a)

    rest-of : Function
    rest-of = some_one t.triples (drop (i + 1) ns)

    next-is : (p : Bits) → rest (take (i + 1) levels) (some_one s.triples ps) p ≡ (function_of u.triples left p || some_one t.triples (drop (i + 1) ns) p)
    next-is p =
        ap (λ (g : Function). g p) (rest-next levels i (some_one s.triples ps) (let n = so.places.number in omega (arith, less, n)))
        ∙ ap (λ (g : Function). both (get_or levels i 0) g p)
        (fun_ext (λ q. sym (so.now q) ∙ ap (λ xs. some_one t.triples xs q) (drop_more ns i d less)))
        ∙ both-or (get_or levels i 0) (function_of t.triples (get_or ns i d).0) (some_one t.triples (drop (i + 1) ns))
        (some-free t.triples (drop (i + 1) ns) (get_or levels i 0) (drop-each (λ n. IsFree t.triples n.0 (get_or levels i 0)) ns (i + 1) (λ j o le room. so.places.ordered j o room i (omega (arith, le))))) p
        ∙ ap (λ b. b || some_one t.triples (drop (i + 1) ns) p) (sym (is.at p))

    pub elim-none : IsOut u.triples left levels → HasLeft (some_one s.triples ps) levels
    elim-none o = record {
      at = o.at;
      left =
          sym (ap (λ (g : Function). g o.at) (rest-split levels (i + 1) (some_one s.triples ps)))
          ∙ rest-one (drop (i + 1) levels) (rest (take (i + 1) levels) (some_one s.triples ps)) (function_of u.triples left)
          (λ l there. free-listed u.triples left levels o.free l (drop-listed (i + 1) levels l there))
          (λ p h. next-is p ∙ ap (λ b. b || some_one t.triples (drop (i + 1) ns) p) h) o.at o.one;
    }

    module _ (v : Store) (uv : Grows u v) (more : PlacedRoom left ns u v) where
      left-depends : (ls : List ℕ) → PartsDepend s.triples ps ls → DependsOn u.triples left ls
      left-depends ls e =
          only-into u.triples left ls (both (get_or levels i 0) (function_of t.triples (get_or ns i d).0)) is
          (both_only (IsListed ls) (get_or levels i 0) (function_of t.triples (get_or ns i d).0) (only-from t.triples (get_or ns i d).0 ls (depend-at t.triples ns ls i d (so.depend ls e) less)))

      slots-depend : (ls : List ℕ) → PartsDepend s.triples ps ls → PartsDepend u.triples ns ls
      slots-depend ls e = depend-grown t u tu ns so.places.there ls (so.depend ls e)

      most-whole : (ls : List ℕ) → PartsDepend s.triples ps ls → length v.triples ≤ length s.triples + (i + 1) * (4 * 2 ^ length ls)
      most-whole ls e =
          let m = most-half ls e in
          let r = more.most ls (left-depends ls e) (slots-depend ls e) in
          let g : (i + 1) * (4 * 2 ^ length ls) ≡ i * (4 * 2 ^ length ls) + 4 * 2 ^ length ls = grind arith in
          omega (arith, m, r, g)

      pub elim-stop : StepsRoom ps (length levels) 4 s v
      elim-stop = record {
        most = λ ls e.
            let m = most-whole ls e in
            let n = so.places.number in
            let p = mul-le-mul_right {m = i + 1} {n = length levels} (4 * 2 ^ length ls) (omega (arith, less, n)) in
            omega (arith, m, p);
      }

      module _ (ms : List Node) (placed : IsPlaced u v levels left ns ms) where
        from-here : IsFreeOf u.triples left levels (i + 1)
        from-here j below = left-free j (cases_eq j i) below

        room-here : i + 1 ≤ length levels
        room-here = let n = so.places.number in omega (arith, less, n)

        now-next : (p : Bits) → some_one v.triples (drop (i + 1) ms) p ≡ rest (take (i + 1) levels) (some_one s.triples ps) p
        now-next p =
            placed.one (i + 1) room-here from-here p
            ∙ ap (λ b. function_of u.triples left p || b) (some-grown t u tu (drop (i + 1) ns) (drop-each (λ n. IsNode t.triples n.0) ns (i + 1) (λ j o le room. part-at t.triples ns j o so.places.there room)) p)
            ∙ sym (next-is p)

        kept-at : (k : ℕ) (o : Node) → k < i + 1 → (p : Bits) → function_of v.triples (get_or ms k o).0 p ≡ function_of t.triples (get_or ns k o).0 p
        kept-at k o below p =
            ap (λ (n : Node). function_of v.triples n.0 p) (placed.before (i + 1) room-here from-here k o below)
            ∙ grown-function t v (Grows-then t u v tu uv) (get_or ns k o).0 (part-at t.triples ns k o so.places.there (omega (arith, below, less))) p

        at-next : (k : ℕ) (o : Node) → (k ≡ i) ⊎ (k ≡ i → ⊥) → k < i + 1 → (p : Bits) → rest (take (k + 1) levels) (some_one s.triples ps) p ≡ false →
            function_of v.triples (get_or ms k o).0 p ≡ rest (take k levels) (some_one s.triples ps) p
        at-next k o (inr other) below p none = kept-at k o below p ∙ so.at k o (omega (arith, below, other)) p none
        at-next k o (inl same) below p none = subst (λ j. function_of v.triples (get_or ms j o).0 p ≡ rest (take j levels) (some_one s.triples ps) p) (sym same) (
            let nothing : some_one t.triples (drop (i + 1) ns) p ≡ false = or-second (function_of u.triples left p) (some_one t.triples (drop (i + 1) ns) p)
            (sym (next-is p) ∙ subst (λ j. rest (take (j + 1) levels) (some_one s.triples ps) p ≡ false) same none) in
            kept-at i o (omega arith) p
            ∙ sym (or-none (function_of t.triples (get_or ns i o).0 p))
            ∙ ap (λ b. function_of t.triples (get_or ns i o).0 p || b) (sym nothing)
            ∙ sym (ap (λ xs. some_one t.triples xs p) (drop_more ns i o less))
            ∙ so.now p)

        pub elim-next : v.fulls ≡ t.fulls → ElimSo (i + 1) levels ps s v ms
        elim-next fulls = record {
          grows = Grows-then s t v so.grows (Grows-then t u v tu uv);
          places = placed.places;
          now = now-next;
          at = λ k o below p none. at-next k o (cases_eq k i) below p none;
          depend = λ ls e. placed.depend ls (left-depends ls e) (slots-depend ls e);
          most = most-whole;
          fulls = fulls ∙ so.fulls;
        }

pub elim-end : (i : ℕ) (levels : List ℕ) (ps : List Node) (s t : Store) (ns : List Node) → ElimSo i levels ps s t ns → i ≡ length ns → AreEliminated s t levels ps ns
elim-end i levels ps s t ns so e = record {
  there = so.places.there;
  stages = record {
    few = let n = so.places.number in omega (arith, n);
    at = λ k d less p none. so.at k d (omega (arith, less, e)) p none;
    end = λ p. subst (λ j. rest (take j levels) (some_one s.triples ps) p ≡ false) e (sym (so.now p) ∙ ap (λ xs. some_one t.triples xs p) (drop-past ns i (omega (arith, e))));
  };
  number = so.places.number;
  depend = so.depend;
}

pub elim-room : (i : ℕ) (levels : List ℕ) (ps : List Node) (s t : Store) (ns : List Node) → ElimSo i levels ps s t ns → i ≤ length ns → StepsRoom ps (length levels) 4 s t
elim-room i levels ps s t ns so le = record {
  most = λ ls e. let m = so.most ls e in let n = so.places.number in let p = mul-le-mul_right {m = i} {n = length levels} (4 * 2 ^ length ls) (omega (arith, le, n)) in omega (arith, m, p);
}

-- ---- both loops, and the images

module _ (s t u v : Store) (st : Grows s t) (tu : Grows t u) (uv : Grows u v) (levels : List ℕ) (ps ns ms : List Node) (spread : AreSpread s t levels ps ns) where
  pub parts-none : HasLeft (some_one t.triples ns) levels → HasLeft (some_one s.triples ps) levels
  parts-none h = record { at = h.at; left = ap (λ (g : Function). rest levels g h.at) (fun_ext (λ p. sym (spread.one p))) ∙ h.left }

  module _ (done : AreEliminated t u levels ns ms) where
    pub parts-solved : (images : List (ℕ × Node)) → ((f : Function) → AreStages u.triples f levels ms → Solves v.triples f levels images) → Solves v.triples (some_one s.triples ps) levels images
    parts-solved images sol = subst (λ (g : Function). Solves v.triples g levels images) (fun_ext (λ p. spread.one p)) (sol (some_one t.triples ns) done.stages)

    pub parts-room : StepsRoom ps (length ps) 1 s t → StepsRoom ns (length levels) 4 t u → StagesRoom ms levels u v → PartsRoom ps levels s v
    parts-room first second third = record {
      most = λ ls e all.
          let a = first.most ls e in
          let b = second.most ls (spread.depend ls e) in
          let c = third.most ls (done.depend ls (spread.depend ls e)) all in
          total (length s.triples) (length t.triples) (length u.triples) (length v.triples) (length ps) (length levels) (length ms) (2 ^ length ls) (2 ^ length ls * 2 ^ length ls) a b c done.number;
    }
      where
        total : (s t u v n l m x y : ℕ) → t ≤ s + n * (1 * x) → u ≤ t + l * (4 * x) → v ≤ u + m * (2 * x + y) → m ≡ l → v ≤ s + n * x + l * (6 * x + y)
        total s t u v n l m x y a b c e =
            let f : m * (2 * x + y) ≡ l * (2 * x + y) = ap (λ k. k * (2 * x + y)) e in
            let g : l * (6 * x + y) ≡ l * (4 * x) + l * (2 * x + y) = grind arith in
            let h : n * (1 * x) ≡ n * x = grind arith in
            omega (arith, a, b, c, f, g, h)

  pub parts-room-second : StepsRoom ps (length ps) 1 s t → StepsRoom ns (length levels) 4 t u → PartsRoom ps levels s u
  parts-room-second first second = record {
    most = λ ls e all.
        let a = first.most ls e in
        let b = second.most ls (spread.depend ls e) in
        total (length s.triples) (length t.triples) (length u.triples) (length ps) (length levels) (2 ^ length ls) (2 ^ length ls * 2 ^ length ls) a b;
  }
    where
      total : (s t u n l x y : ℕ) → t ≤ s + n * (1 * x) → u ≤ t + l * (4 * x) → u ≤ s + n * x + l * (6 * x + y)
      total s t u n l x y a b =
          let g : l * (6 * x + y) ≡ l * (4 * x) + l * (2 * x + y) = grind arith in
          let h : n * (1 * x) ≡ n * x = grind arith in
          omega (arith, a, b, g, h)

pub parts-room-first : (s t : Store) (levels : List ℕ) (ps : List Node) → StepsRoom ps (length ps) 1 s t → PartsRoom ps levels s t
parts-room-first s t levels ps first = record { most = λ ls e all. let a = first.most ls e in let h : length ps * (1 * 2 ^ length ls) ≡ length ps * 2 ^ length ls = grind arith in omega (arith, a, h) }
