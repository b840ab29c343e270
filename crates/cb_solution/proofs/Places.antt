-- Parts at their places, one for each level, and what is left when the levels are eliminated one after another.
use Rattle.std.proofs.Common.{◌≡◌, inl, inr, ℕ, zero, suc, ◌+◌, ◌-◌, ◌<◌, ◌≤◌, Bool, true, false, ◌||◌, List, [], ◌∷◌, ◌++◌, length, take, drop, get_or, set, nat_eq, Option, Some, None, Result, Ok, refl, sym, ap, ap₂, subst, ◌∙◌, arith}
use Rattle.std.specs.Prelude.{Contains, IfSome, IfNone}
use Rattle.std.proofs.lemmas.Bool.{cases_Bool, cases_eq, cases_lt, eqb-true, true≢false}
use Rattle.std.proofs.lemmas.List.{get_or-set_same, get_or-set_other, length-set, take-append-le}
use Rattle.std.proofs.lemmas.List.Quantifiers.{position-Some}
use Rattle.std.proofs.lemmas.Map.Views.{Contains-from_any}
use Rattle.std.proofs.Math.Seq.{take-length}
use Rattle.std.specs.List.{list_any}
use Rattle.std.specs.List.Sorted.{IsStrictlyIncreasing}
use Rattle.cb_model.specs.Bits.{Bits, put}
use Rattle.cb_dd.specs.declared.Node.{Node}
use Rattle.cb_dd.specs.declared.Stop.{Stop}
use Rattle.cb_dd.specs.declared.Triple.{Triple}
use Rattle.cb_dd.specs.Diagram.{Store, IsDiagram, IsNode, function_of}
use Rattle.cb_dd.proofs.Diagrams.{function_of-zero}
use Rattle.cb_ops.specs.Ops.{Grows, StandsFor, Room, DependsOn, IsFree}
use Rattle.cb_ops.specs.Support.{IsListed}
use Rattle.cb_ops.proofs.Ite.{agree-absent, grown-function, grown-node, grown-depends}
use Rattle.cb_solution.specs.Solution.{IsFalling}
use Rattle.cb_solution.specs.Parts.{AreAbsent, ArePlaces, AreOrdered, AreParts, IsFreeOf, IsLastOf, IsOut, IsPlace, IsPlaced, PartsDepend, PlacedRoom, some_one}
use Rattle.cb_solution.proofs.Solved.{listed-at, listed-cases, somewhere-one}
use Rattle.cb_solution.proofs.Loops.{drop-none}

-- ---- the place of a node

free-absent : (ts : List Triple) (n : ℕ) (ls : List ℕ) → DependsOn ts n ls → (l : ℕ) → (IsListed ls l → ⊥) → IsFree ts n l
free-absent ts n ls d l absent a b = elim (cases_Bool (list_any (nat_eq l) ls)) [
  | inl there ↦ absurd (absent there)
  | inr none ↦ d.agrees (put l b a) a (agree-absent l ls a b none)
]

pub listed-index : (xs : List ℕ) (l : ℕ) → IsListed xs l → (i : ℕ) × ((i < length xs) × (get_or xs i 0 ≡ l))
listed-index [] l h = absurd (true≢false (sym h))
listed-index (x ∷ xs) l h = elim (listed-cases x l xs h) [
  | inl same ↦ (0, (omega arith, sym same))
  | inr there ↦ let r = listed-index xs l there in (suc r.0, ((let w = r.1.0 in omega (arith, w)), r.1.1))
]

rising-at : (xs : List ℕ) → IsStrictlyIncreasing xs → (i n : ℕ) → i + n < length xs → get_or xs i 0 ≤ get_or xs (i + n) 0
rising-at xs rise i zero h = let e : i + 0 ≡ i = omega arith in subst (λ j. get_or xs i 0 ≤ get_or xs j 0) (sym e) (omega arith)
rising-at xs rise i (suc n) h =
    let e : i + suc n ≡ i + n + 1 = omega arith in
    let m = rising-at xs rise i n (omega (arith, h)) in
    let r : get_or xs (i + n) 0 < get_or xs (i + n + 1) 0 = rise (i + n) (omega (arith, h)) in
    subst (λ j. get_or xs i 0 ≤ get_or xs j 0) (sym e) (omega (arith, m, r))

rising-le : (xs : List ℕ) → IsStrictlyIncreasing xs → (i j : ℕ) → i ≤ j → j < length xs → get_or xs i 0 ≤ get_or xs j 0
rising-le xs rise i j le h =
    let e : i + (j - i) ≡ j = omega (arith, le) in
    subst (λ k. get_or xs i 0 ≤ get_or xs k 0) e (rising-at xs rise i (j - i) (omega (arith, e, h)))

falling-at : (ls : List ℕ) → IsFalling ls → (j k : ℕ) → j < k → k < length ls → get_or ls k 0 < get_or ls j 0
falling-at [] f j k less h = absurd (omega (arith, h))
falling-at (l ∷ ls) f zero zero less h = absurd (omega (arith, less))
falling-at (l ∷ ls) f zero (suc k) less h = f.0 (get_or ls k 0) (listed-at ls k (omega (arith, h)))
falling-at (l ∷ ls) f (suc j) zero less h = absurd (omega (arith, less))
falling-at (l ∷ ls) f (suc j) (suc k) less h = falling-at ls f.1 j k (omega (arith, less)) (omega (arith, h))

module _ (ts : List Triple) (n : ℕ) (support levels : List ℕ) (enough : DependsOn ts n support) where
  pub place-none : AreAbsent support levels 0 → IsFreeOf ts n levels (length levels)
  place-none absent j less = free-absent ts n support enough (get_or levels j 0) (λ there.
      let i = listed-index support (get_or levels j 0) there in
      absent i.0 (omega arith) i.1.0 (subst (λ l. IsListed levels l) (sym i.1.1) (listed-at levels j less)))

  module _ (rise : IsStrictlyIncreasing support) (needed : (l : ℕ) → Contains support l → IsFree ts n l → ⊥) (falls : IsFalling levels) (at : ℕ) (last : IsLastOf support levels at) where
    at-level : at < length levels
    at-level = (position-Some (nat_eq (get_or support last.k 0)) levels at 0 last.is).0

    same : get_or levels at 0 ≡ get_or support last.k 0
    same = sym (eqb-true (get_or support last.k 0) (get_or levels at 0) (position-Some (nat_eq (get_or support last.k 0)) levels at 0 last.is).1)

    before : IsFreeOf ts n levels at
    before j less = free-absent ts n support enough (get_or levels j 0) (λ there.
        let i = listed-index support (get_or levels j 0) there in
        let above = falling-at levels falls j at less at-level in
        let eq = i.1.1 in
        let e = same in
        elim (cases_lt last.k i.0) [
          | inl later ↦ last.after i.0 (omega (arith, later)) i.1.0 (subst (λ l. IsListed levels l) (sym i.1.1) (listed-at levels j (let w = at-level in omega (arith, less, w))))
          | inr early ↦ let le = rising-le support rise i.0 last.k early last.room in absurd (omega (arith, above, eq, le, e))
        ])

    pub place-is : IsPlace ts n levels at
    place-is = record {
      within = at-level;
      before = before;
      needed = λ free. needed (get_or levels at 0)
          (Contains-from_any {eq = nat_eq} (λ x y d. eqb-true x y d) (get_or levels at 0) support (subst (λ l. IsListed support l) (sym same) (listed-at support last.k last.room))) free;
    }

pub absent-first : (support levels : List ℕ) → AreAbsent support levels (length support)
absent-first support levels j le less there = omega (arith, le, less)

pub absent-next : (support levels : List ℕ) (k : ℕ) → AreAbsent support levels (k + 1) → list_any (nat_eq (get_or support k 0)) levels ≡ false → AreAbsent support levels k
absent-next support levels k absent none j le less there = elim (cases_eq j k) [
  | inl same ↦ true≢false (sym (subst (λ i. IsListed levels (get_or support i 0)) same there) ∙ none)
  | inr other ↦ absent j (omega (arith, le, other)) less there
]

-- ---- where some part is 1

or-move : (a f c : Bool) → ((a || f) || c) ≡ (f || (a || c))
or-move true true c = refl
or-move true false c = refl
or-move false true c = refl
or-move false false c = refl

or-inside : (a f c d : Bool) → c ≡ (f || d) → (a || c) ≡ (f || (a || d))
or-inside true true c d e = refl
or-inside true false c d e = refl
or-inside false true c d e = e
or-inside false false c d e = e

pub part-at : (ts : List Triple) (ns : List Node) (k : ℕ) (d : Node) → AreParts ts ns → k < length ns → IsNode ts (get_or ns k d).0
part-at ts [] k d w h = absurd (omega (arith, h))
part-at ts (n ∷ ns) zero d w h = w.0
part-at ts (n ∷ ns) (suc k) d w h = part-at ts ns k d w.1 (omega (arith, h))

pub parts-grown : (s t : Store) → Grows s t → (ns : List Node) → AreParts s.triples ns → AreParts t.triples ns
parts-grown s t st [] w = tt
parts-grown s t st (n ∷ ns) w = (grown-node s t st n.0 w.0, parts-grown s t st ns w.1)

parts-set : (ts : List Triple) (ns : List Node) (k : ℕ) (n : Node) → AreParts ts ns → IsNode ts n.0 → AreParts ts (set ns k n)
parts-set ts [] k n w h = tt
parts-set ts (m ∷ ns) zero n w h = (h, w.1)
parts-set ts (m ∷ ns) (suc k) n w h = (w.0, parts-set ts ns k n w.1 h)

parts-drop : (ts : List Triple) (ns : List Node) (i : ℕ) → AreParts ts ns → AreParts ts (drop i ns)
parts-drop ts [] zero w = tt
parts-drop ts [] (suc i) w = tt
parts-drop ts (n ∷ ns) zero w = w
parts-drop ts (n ∷ ns) (suc i) w = parts-drop ts ns i w.1

pub some-grown : (s t : Store) → Grows s t → (ns : List Node) → AreParts s.triples ns → (p : Bits) → some_one t.triples ns p ≡ some_one s.triples ns p
some-grown s t st [] w p = refl
some-grown s t st (n ∷ ns) w p = ap₂ ◌||◌ (grown-function s t st n.0 w.0 p) (some-grown s t st ns w.1 p)

pub depend-grown : (s t : Store) → Grows s t → (ns : List Node) → AreParts s.triples ns → (ls : List ℕ) → PartsDepend s.triples ns ls → PartsDepend t.triples ns ls
depend-grown s t st [] w ls d = tt
depend-grown s t st (n ∷ ns) w ls d = (grown-depends s t st n.0 ls w.0 d.0, depend-grown s t st ns w.1 ls d.1)

depend-set : (ts : List Triple) (ns : List Node) (ls : List ℕ) (k : ℕ) (n : Node) → PartsDepend ts ns ls → DependsOn ts n.0 ls → PartsDepend ts (set ns k n) ls
depend-set ts [] ls k n w h = tt
depend-set ts (m ∷ ns) ls zero n w h = (h, w.1)
depend-set ts (m ∷ ns) ls (suc k) n w h = (w.0, depend-set ts ns ls k n w.1 h)

pub depend-at : (ts : List Triple) (ns : List Node) (ls : List ℕ) (k : ℕ) (d : Node) → PartsDepend ts ns ls → k < length ns → DependsOn ts (get_or ns k d).0 ls
depend-at ts [] ls k d w h = absurd (omega (arith, h))
depend-at ts (n ∷ ns) ls zero d w h = w.0
depend-at ts (n ∷ ns) ls (suc k) d w h = depend-at ts ns ls k d w.1 (omega (arith, h))

-- one node is another, which is 1 where it was or the part is
module _ (s t : Store) (st : Grows s t) (f : ℕ) (n d : Node) where
  some-set : (ns : List Node) (k : ℕ) → AreParts s.triples ns → k < length ns → ((p : Bits) → function_of t.triples n.0 p ≡ (function_of s.triples (get_or ns k d).0 p || function_of s.triples f p)) →
      (p : Bits) → some_one t.triples (set ns k n) p ≡ (function_of s.triples f p || some_one s.triples ns p)
  some-set [] k w h is p = absurd (omega (arith, h))
  some-set (m ∷ ns) zero w h is p =
      ap₂ ◌||◌ (is p) (some-grown s t st ns w.1 p) ∙ or-move (function_of s.triples m.0 p) (function_of s.triples f p) (some_one s.triples ns p)
  some-set (m ∷ ns) (suc k) w h is p =
      ap (λ b. b || some_one t.triples (set ns k n) p) (grown-function s t st m.0 w.0 p)
      ∙ or-inside (function_of s.triples m.0 p) (function_of s.triples f p) (some_one t.triples (set ns k n) p) (some_one s.triples ns p)
      (some-set ns k w.1 (omega (arith, h)) is p)

  some-set-from : (ns : List Node) (i k : ℕ) → i ≤ k → AreParts s.triples ns → k < length ns → ((p : Bits) → function_of t.triples n.0 p ≡ (function_of s.triples (get_or ns k d).0 p || function_of s.triples f p)) →
      (p : Bits) → some_one t.triples (drop i (set ns k n)) p ≡ (function_of s.triples f p || some_one s.triples (drop i ns) p)
  some-set-from [] i k le w h is p = absurd (omega (arith, h))
  some-set-from (m ∷ ns) zero k le w h is p =
      ap (λ xs. some_one t.triples xs p) (drop-none (set (m ∷ ns) k n)) ∙ some-set (m ∷ ns) k w h is p
  some-set-from (m ∷ ns) (suc i) zero le w h is p = absurd (omega (arith, le))
  some-set-from (m ∷ ns) (suc i) (suc k) le w h is p = some-set-from ns i k (omega (arith, le)) w.1 (omega (arith, h)) is p

pub free-grown : (s t : Store) → Grows s t → (n : ℕ) → IsNode s.triples n → (l : ℕ) → IsFree s.triples n l → IsFree t.triples n l
free-grown s t st n w l free a b = grown-function s t st n w (put l b a) ∙ free a b ∙ sym (grown-function s t st n w a)

-- ---- a part is added

module _ (s t : Store) (st : Grows s t) (levels : List ℕ) (f k : ℕ) (wf : IsNode s.triples f) (ns : List Node) (places : ArePlaces s.triples levels ns) (at : IsPlace s.triples f levels k) (d n : Node)
    (wn : IsNode t.triples n.0) (is : StandsFor t.triples n.0 (λ p. function_of s.triples (get_or ns k d).0 p || function_of s.triples f p)) where
  at-node : k < length ns
  at-node = let w = at.within in let e = places.number in omega (arith, w, e)

  n-free : (j : ℕ) → j < k → IsFree t.triples n.0 (get_or levels j 0)
  n-free j less a b =
      is.at (put (get_or levels j 0) b a)
      ∙ ap₂ ◌||◌ (places.ordered k d at-node j less a b) (at.before j less a b)
      ∙ sym (is.at a)

  in-order : AreOrdered t.triples levels (set ns k n)
  in-order j o less i below = elim (cases_eq j k) [
    | inl same ↦ subst (λ (m : Node). IsFree t.triples m.0 (get_or levels i 0)) (sym (ap (λ x. get_or (set ns k n) x o) same ∙ get_or-set_same ns k n o at-node)) (n-free i (omega (arith, below, same)))
    | inr other ↦
        let room : j < length ns = let l = length-set ns k n in omega (arith, less, l) in
        subst (λ (m : Node). IsFree t.triples m.0 (get_or levels i 0)) (sym (get_or-set_other ns k j n o other))
        (free-grown s t st (get_or ns j o).0 (part-at s.triples ns j o places.there room) (get_or levels i 0) (places.ordered j o room i below))
  ]

  place-past : (i : ℕ) → IsFreeOf s.triples f levels i → i ≤ k
  place-past i free = elim (cases_lt k i) [ inl less ↦ absurd (at.needed (free k less)) | inr le ↦ le ]

  pub placed : (ms : List Node) → ms ≡ set ns k n → IsPlaced s t levels f ns ms
  placed ms e = subst (λ (xs : List Node). IsPlaced s t levels f ns xs) (sym e) (record {
    places = record {
      number = length-set ns k n ∙ places.number;
      there = parts-set t.triples ns k n (parts-grown s t st ns places.there) wn;
      ordered = in-order;
    };
    before = λ i le free j o less. get_or-set_other ns k j n o (λ (same : j ≡ k). let p = place-past i free in omega (arith, same, less, p));
    one = λ i le free p. some-set-from s t st f n d ns i k (place-past i free) places.there at-node (λ q. is.at q) p;
    depend = λ ls df dn. depend-set t.triples ns ls k n (depend-grown s t st ns places.there ls dn) (record {
      agrees = λ a b h. is.at a ∙ ap₂ ◌||◌ ((depend-at s.triples ns ls k d dn at-node).agrees a b h) (df.agrees a b h) ∙ sym (is.at b);
    });
  })

pub placed-room : (s t : Store) (levels : List ℕ) (f k : ℕ) (ns : List Node) (d : Node) → ArePlaces s.triples levels ns → IsPlace s.triples f levels k → Room ((get_or ns k d).0 ∷ f ∷ []) 1 s t → PlacedRoom f ns s t
placed-room s t levels f k ns d places at room = record {
  most = λ ls df dn.
      let m = room.most ls (depend-at s.triples ns ls k d dn (let w = at.within in let e = places.number in omega (arith, w, e)), (df, tt)) in
      omega (arith, m);
}

pub room-same : (s : Store) (f : ℕ) (ns : List Node) → PlacedRoom f ns s s
room-same s f ns = record { most = λ ls df dn. omega arith }

-- 0 needs no place
pub zero-placed : (s : Store) (levels : List ℕ) (f : ℕ) (ns : List Node) → ArePlaces s.triples levels ns → f ≡ 0 → IsPlaced s s levels f ns ns
zero-placed s levels f ns places e = record {
  places = places;
  before = λ i le free j d less. refl;
  one = λ i le free p. sym (ap (λ b. b || some_one s.triples (drop i ns) p) (ap (λ n. function_of s.triples n p) e ∙ function_of-zero s.triples p));
  depend = λ ls df dn. dn;
}

pub out-of : (s : Store) → IsDiagram s.triples → (levels : List ℕ) (f : ℕ) → IsNode s.triples f → (f ≡ 0 → ⊥) → IsFreeOf s.triples f levels (length levels) → IsOut s.triples f levels
out-of s is levels f w some free = let o = somewhere-one s.triples is f w some in record { at = o.0; one = o.1; free = free }

pub some-map : {A : Type 0} (o : Option A) (P Q : A → Type 0) → IfSome o P → ((x : A) → P x → Q x) → IfSome o Q
some-map None P Q h f = tt
some-map (Some x) P Q h f = f x h

pub none-map : {A : Type 0} (o : Option A) (P Q : Type 0) → IfNone o P → (P → Q) → IfNone o Q
none-map None P Q h f = f h
none-map (Some x) P Q h f = tt

pub ok-is : (x y : Bool) → (let r : Result Bool Stop = Ok x in r ≡ Ok y) → x ≡ y
ok-is x y e = cc

-- a slice that was lent of a list, and given back
pub whole-slice : (n : ℕ) (vs ns : List Node) → length vs ≡ length ns → n ≡ length ns → take n (vs ++ drop (length vs) ns) ≡ vs
whole-slice n vs ns same e =
    ap (λ k. take k (vs ++ drop (length vs) ns)) (e ∙ sym same)
    ∙ take-append-le (length vs) vs (drop (length vs) ns) (omega arith)
    ∙ take-length vs
