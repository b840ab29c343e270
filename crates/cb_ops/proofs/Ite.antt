-- The laws behind `ite`.
use Rattle.std.proofs.Common.{◌≡◌, ℕ, ◌+◌, ◌*◌, ◌-◌, ◌<◌, ◌≤◌, ◌^◌, min, Bool, true, false, ◌||◌, List, [], ◌∷◌, ◌++◌, length, nat_eq, if◌then◌else◌, refl, sym, ap, subst, ◌∙◌, ◌⊎◌, inl, inr, arith, length-append, append-nil, append_assoc}
use Rattle.std.proofs.lemmas.Bool.{cases_Bool, cases_eq, cases_lt, eq-eqb, ne_eqb, eqb-true, eqb-false, true≢false}
use Rattle.std.proofs.Math.Pow.{pow_mono}
use Rattle.std.proofs.lemmas.Nat.{pow_pos, pow-add}
use Rattle.std.specs.List.{list_any}
use Rattle.std.specs.Prelude.{Result, Err}
use Rattle.cb_model.specs.Bits.{Bits, put}
use Rattle.cb_dd.specs.declared.Triple.{Triple}
use Rattle.cb_dd.specs.declared.Node.{Node}
use Rattle.cb_dd.specs.declared.Stop.{Stop}
use Rattle.cb_dd.specs.declared.Stop.TheVariants.{Nodes}
use Rattle.cb_dd.specs.Diagram.{fulls_after, IsFull, Store, IsNode, IsDiagram, IsChild, function_of, level_of}
use Rattle.cb_dd.proofs.Diagrams.{function_of-append, function_of-zero, function_of-one, function_of-put, function_of-lo, function_of-hi, level_of-append, level_of-node, level_of-zero, level_of-one, node-within, canonical, kind_of, bottom, top, inner}
use Rattle.cb_ops.specs.Ops.{Agree, DependsOn, IsIte, Room, HasCause, IsCofactor, Grows}

abbrev pub IteRoom : Store → Store → ℕ → ℕ → ℕ → Type 0
IteRoom s t f g h = Room (f ∷ g ∷ h ∷ []) 1 s t

pub choose : (b : Bool) (x y z w : Bool) → x ≡ z → y ≡ w → (if b then x else y) ≡ (if b then z else w)
choose b x y z w p q = λ j. if b then p j else q j

pub choose-all : (b c x y z w : Bool) → b ≡ c → x ≡ z → y ≡ w → (if b then x else y) ≡ (if c then z else w)
choose-all b c x y z w o p q = λ j. if o j then p j else q j

-- the bit that stands there already
pub put-id : (a : Bits) (l : ℕ) (b : Bool) → a l ≡ b → put l b a ≡ a
put-id a l b e = λ i k. at k i
  where
    at : (k : ℕ) → put l b a k ≡ a k
    at k = elim (cases_eq k l) [
      | inl same ↦ ap (λ c. if c then b else a k) (eq-eqb k l same) ∙ sym e ∙ ap a (sym same)
      | inr other ↦ ap (λ c. if c then b else a k) (ne_eqb k l other)
    ]

pub put-same : (a : Bits) (l k : ℕ) (b : Bool) → k ≡ l → put l b a k ≡ b
put-same a l k b e = ap (λ c. if c then b else a k) (eq-eqb k l e)

pub put-other : (a : Bits) (l : ℕ) (b : Bool) (k : ℕ) → (k ≡ l → ⊥) → put l b a k ≡ a k
put-other a l b k h = ap (λ c. if c then b else a k) (ne_eqb k l h)

-- a list of levels without one
unfoldable pub without : ℕ → List ℕ → List ℕ
without k [] = []
without k (l ∷ ls) = if nat_eq l k then without k ls else l ∷ without k ls

agree-put : (k : ℕ) (ls : List ℕ) (a b : Bits) (x : Bool) → Agree (without k ls) a b → Agree ls (put k x a) (put k x b)
unfolding without
agree-put k [] a b x h = tt
agree-put k (l ∷ ls) a b x h = elim (cases_Bool (nat_eq l k)) [
  | inl same ↦
      let e : l ≡ k = eqb-true l k same in
      let h2 : Agree (without k ls) a b = subst (λ c. Agree (if c then without k ls else l ∷ without k ls) a b) same h in
      (put-same a k l x e ∙ sym (put-same b k l x e), agree-put k ls a b x h2)
  | inr other ↦
      let e : l ≡ k → ⊥ = eqb-false l k other in
      let h2 : Agree (l ∷ without k ls) a b = subst (λ c. Agree (if c then without k ls else l ∷ without k ls) a b) other h in
      (put-other a k x l e ∙ h2.0 ∙ sym (put-other b k x l e), agree-put k ls a b x h2.1)
]

pub agree-absent : (k : ℕ) (ls : List ℕ) (a : Bits) (x : Bool) → list_any (nat_eq k) ls ≡ false → Agree ls (put k x a) a
agree-absent k [] a x h = tt
agree-absent k (l ∷ ls) a x h = elim (cases_Bool (nat_eq k l)) [
  | inl same ↦ absurd (true≢false (sym (ap (λ c. c || list_any (nat_eq k) ls) same) ∙ h))
  | inr other ↦
      let e : l ≡ k → ⊥ = λ (p : l ≡ k). eqb-false k l other (sym p) in
      (put-other a k x l e, agree-absent k ls a x (sym (ap (λ c. c || list_any (nat_eq k) ls) other) ∙ h))
]

without-le : (k : ℕ) (ls : List ℕ) → length (without k ls) ≤ length ls
unfolding without
without-le k [] = omega arith
without-le k (l ∷ ls) = elim (nat_eq l k) as (λ c. length (if c then without k ls else l ∷ without k ls) ≤ length (l ∷ ls)) [
  | true ↦ omega (arith, without-le k ls)
  | false ↦ omega (arith, without-le k ls)
]

pub without-lt : (k : ℕ) (ls : List ℕ) → list_any (nat_eq k) ls ≡ true → length (without k ls) + 1 ≤ length ls
unfolding without
without-lt k [] h = absurd (true≢false (sym h))
without-lt k (l ∷ ls) h = elim (cases_Bool (nat_eq l k)) [
  | inl same ↦ subst (λ c. length (if c then without k ls else l ∷ without k ls) + 1 ≤ length (l ∷ ls)) (sym same) (omega (arith, without-le k ls))
  | inr other ↦
      let ne : nat_eq k l ≡ false = ne_eqb k l (λ p. eqb-false l k other (sym p)) in
      let h2 : list_any (nat_eq k) ls ≡ true = sym (ap (λ c. c || list_any (nat_eq k) ls) ne) ∙ h in
      subst (λ c. length (if c then without k ls else l ∷ without k ls) + 1 ≤ length (l ∷ ls)) (sym other) (omega (arith, without-lt k ls h2))
]

module _ (ts : List Triple) (is : IsDiagram ts) where
  -- a node depends on its level
  pub essential : (n k : ℕ) → IsNode ts n → level_of ts n ≡ k → k < 2 ^ 32 → ((a : Bits) (b : Bool) → function_of ts n (put k b a) ≡ function_of ts n a) → ⊥
  essential n k w lev small same = elim (kind_of ts n w) [
    | bottom e ↦ let z : level_of ts n ≡ 2 ^ 32 = ap (level_of ts) e ∙ level_of-zero ts in omega arith
    | top e ↦ let z : level_of ts n ≡ 2 ^ 32 = ap (level_of ts) e ∙ level_of-one ts in omega arith
    | inner j t e at ↦
        let o = is.ordered j t at in
        let v = node-within ts is j t at in
        let z : k ≡ t.level = sym lev ∙ ap (level_of ts) e ∙ level_of-node ts j t at in
        let same2 : (a : Bits) (b : Bool) → function_of ts (j + 2) (put t.level b a) ≡ function_of ts (j + 2) a
        = λ a b. ap (λ x. function_of ts x (put t.level b a)) (sym e) ∙ ap (λ l. function_of ts n (put l b a)) (sym z) ∙ same a b ∙ ap (λ x. function_of ts x a) e in
        o.differ (canonical ts is t.lo t.hi v.1 v.2 (λ a. sym (function_of-lo ts is j t at a) ∙ same2 a false ∙ sym (same2 a true) ∙ function_of-hi ts is j t at a))
  ]

  -- a node that depends on the levels of a list alone has its level there
  pub listed : (n : ℕ) (ls : List ℕ) → IsNode ts n → level_of ts n < 2 ^ 32 → DependsOn ts n ls → list_any (nat_eq (level_of ts n)) ls ≡ true
  listed n ls w small d = elim (cases_Bool (list_any (nat_eq (level_of ts n)) ls)) [
    | inl there ↦ there
    | inr none ↦ absurd (essential n (level_of ts n) w refl small (λ a b. d.agrees (put (level_of ts n) b a) a (agree-absent (level_of ts n) ls a b none)))
  ]

  -- the level of an answer isn't below those of the arguments
  pub ite-above : (f g h r l : ℕ) → IsNode ts f → IsNode ts g → IsNode ts h → IsNode ts r → IsIte ts ts f g h r → l < level_of ts f → l < level_of ts g → l < level_of ts h → l < 2 ^ 32 → l < level_of ts r
  ite-above f g h r l wf wg wh wr is-ite lf lg lh small = elim (cases_lt l (level_of ts r)) [
    | inl lt ↦ lt
    | inr ge ↦
        let k : ℕ = level_of ts r in
        absurd (essential r (level_of ts r) wr refl (omega arith) (λ a b.
        is-ite.at (put (level_of ts r) b a)
        ∙ choose-all _ _ _ _ _ _ (function_of-put ts is f wf (level_of ts r) (omega arith) a b) (function_of-put ts is g wg (level_of ts r) (omega arith) a b) (function_of-put ts is h wh (level_of ts r) (omega arith) a b)
        ∙ sym (is-ite.at a)))
  ]

-- a cofactor depends on the other levels
pub cofactor-depends : (ts : List Triple) (n level : ℕ) (bit : Bool) (r : ℕ) (ls : List ℕ) → IsCofactor ts n level bit r → DependsOn ts n ls → DependsOn ts r (without level ls)
cofactor-depends ts n level bit r ls c d = record {
  agrees = λ a b h. c.function a ∙ d.agrees (put level bit a) (put level bit b) (agree-put level ls a b bit h) ∙ sym (c.function b);
}

depends-append : (ts us : List Triple) (n : ℕ) (ls : List ℕ) → IsNode ts n → DependsOn ts n ls → DependsOn (ts ++ us) n ls
depends-append ts us n ls w d = record { agrees = λ a b h. function_of-append ts us n w a ∙ d.agrees a b h ∙ sym (function_of-append ts us n w b) }

pub cofactor-self : (ts : List Triple) → IsDiagram ts → (n level : ℕ) (bit : Bool) → IsNode ts n → level < level_of ts n → IsCofactor ts n level bit n
cofactor-self ts is n level bit w lt = record { node = w; above = lt; function = λ a. sym (function_of-put ts is n w level lt a bit) }

pub grown-node : (s t : Store) → Grows s t → (n : ℕ) → IsNode s.triples n → IsNode t.triples n
grown-node s t g n w = omega (arith, ap length g.triples, length-append s.triples g.more)

pub grown-function : (s t : Store) → Grows s t → (n : ℕ) → IsNode s.triples n → (a : Bits) → function_of t.triples n a ≡ function_of s.triples n a
grown-function s t g n w a = ap (λ ts. function_of ts n a) g.triples ∙ function_of-append s.triples g.more n w a

pub grown-level : (s t : Store) → Grows s t → (n : ℕ) → IsNode s.triples n → level_of t.triples n ≡ level_of s.triples n
grown-level s t g n w = ap (λ ts. level_of ts n) g.triples ∙ level_of-append s.triples g.more n w

pub grown-depends : (s t : Store) → Grows s t → (n : ℕ) (ls : List ℕ) → IsNode s.triples n → DependsOn s.triples n ls → DependsOn t.triples n ls
grown-depends s t g n ls w d = subst (λ ts. DependsOn ts n ls) (sym g.triples) (depends-append s.triples g.more n ls w d)

pub Grows-same : (s : Store) → Grows s s
Grows-same s = record { budget = refl; more = []; triples = sym (append-nil s.triples); fulls = omega arith }

pub Grows-then : (s t u : Store) → Grows s t → Grows t u → Grows s u
Grows-then s t u g h = record {
  budget = h.budget ∙ g.budget;
  more = g.more ++ h.more;
  triples = h.triples ∙ ap (λ ts. ts ++ h.more) g.triples ∙ append_assoc s.triples g.more h.more;
  fulls = omega (arith, g.fulls, h.fulls);
}

-- an answer in the store that it was made in
ite-now : (s t : Store) → Grows s t → (f g h r : ℕ) → IsNode s.triples f → IsNode s.triples g → IsNode s.triples h → IsIte s.triples t.triples f g h r → IsIte t.triples t.triples f g h r
ite-now s t gr f g h r wf wg wh is = record {
  at = λ a. is.at a ∙ sym (choose-all _ _ _ _ _ _ (grown-function s t gr f wf a) (grown-function s t gr g wg a) (grown-function s t gr h wh a));
}

-- the answer for one bit of a level is a child at that level
pub ite-child : (s t : Store) → Grows s t → IsDiagram t.triples → (level : ℕ) (bit : Bool) (f g h f1 g1 h1 r : ℕ) → IsCofactor s.triples f level bit f1 → IsCofactor s.triples g level bit g1 → IsCofactor s.triples h level bit h1
    → level < 2 ^ 32 → IsNode t.triples r → IsIte s.triples t.triples f1 g1 h1 r → IsChild t.triples level r
ite-child s t gr is level bit f g h f1 g1 h1 r cf cg ch small w ite = record {
  node = w;
  below = ite-above t.triples is f1 g1 h1 r level (grown-node s t gr f1 cf.node) (grown-node s t gr g1 cg.node) (grown-node s t gr h1 ch.node) w (ite-now s t gr f1 g1 h1 r cf.node cg.node ch.node ite)
      (omega (arith, cf.above, grown-level s t gr f1 cf.node)) (omega (arith, cg.above, grown-level s t gr g1 cg.node)) (omega (arith, ch.above, grown-level s t gr h1 ch.node)) small;
}

pub grown-child : (s t : Store) → Grows s t → (level n : ℕ) → IsChild s.triples level n → IsChild t.triples level n
grown-child s t g level n c = record { node = grown-node s t g n c.node; below = omega (arith, c.below, grown-level s t g n c.node) }

pub grown-cofactor : (s t : Store) → Grows s t → (n level : ℕ) (bit : Bool) (r : ℕ) → IsNode s.triples n → IsCofactor s.triples n level bit r → IsCofactor t.triples n level bit r
grown-cofactor s t g n level bit r w c = record {
  node = grown-node s t g r c.node;
  above = omega (arith, c.above, grown-level s t g r c.node);
  function = λ a. grown-function s t g r c.node a ∙ c.function a ∙ sym (grown-function s t g n w (put level bit a));
}

pub cofactor-at : (ts : List Triple) (n level : ℕ) (bit : Bool) (r : ℕ) (a : Bits) → IsCofactor ts n level bit r → a level ≡ bit → function_of ts r a ≡ function_of ts n a
cofactor-at ts n level bit r a c e = c.function a ∙ ap (function_of ts n) (put-id a level bit e)

module _ (s t u v : Store) (st : Grows s t) (tu : Grows t u) (f g h : ℕ) (wf : IsNode s.triples f) (wg : IsNode s.triples g) (wh : IsNode s.triples h) (level f0 g0 h0 f1 g1 h1 lo hi : ℕ)
    (cf0 : IsCofactor s.triples f level false f0) (cg0 : IsCofactor s.triples g level false g0) (ch0 : IsCofactor s.triples h level false h0)
    (cf1 : IsCofactor s.triples f level true f1) (cg1 : IsCofactor s.triples g level true g1) (ch1 : IsCofactor s.triples h level true h1) where
  -- the node of the two answers is the answer
  pub ite-step : (r : ℕ) → IsNode t.triples lo → IsIte s.triples t.triples f0 g0 h0 lo → IsIte t.triples u.triples f1 g1 h1 hi
      → ((a : Bits) → function_of v.triples r a ≡ (if a level then function_of u.triples hi a else function_of u.triples lo a)) → IsIte s.triples v.triples f g h r
  ite-step r wlo low high made = record {
    at = λ a. elim (cases_Bool (a level)) [
      | inl is_one ↦
          made a ∙ ap (λ c. if c then function_of u.triples hi a else function_of u.triples lo a) is_one ∙ high.at a
          ∙ choose-all _ _ _ _ _ _
          (grown-function s t st f1 cf1.node a ∙ cofactor-at s.triples f level true f1 a cf1 is_one)
          (grown-function s t st g1 cg1.node a ∙ cofactor-at s.triples g level true g1 a cg1 is_one)
          (grown-function s t st h1 ch1.node a ∙ cofactor-at s.triples h level true h1 a ch1 is_one)
      | inr is_zero ↦
          made a ∙ ap (λ c. if c then function_of u.triples hi a else function_of u.triples lo a) is_zero ∙ grown-function t u tu lo wlo a ∙ low.at a
          ∙ choose-all _ _ _ _ _ _ (cofactor-at s.triples f level false f0 a cf0 is_zero) (cofactor-at s.triples g level false g0 a cg0 is_zero) (cofactor-at s.triples h level false h0 a ch0 is_zero)
    ];
  }

  module _ (is : IsDiagram s.triples) (small : level < 2 ^ 32) (one : (level ≡ level_of s.triples f) ⊎ ((level ≡ level_of s.triples g) ⊎ (level ≡ level_of s.triples h))) (low : IteRoom s t f0 g0 h0) where
    level-listed : (ls : List ℕ) → DependsOn s.triples f ls → DependsOn s.triples g ls → DependsOn s.triples h ls → list_any (nat_eq level) ls ≡ true
    level-listed ls df dg dh = elim one [
      | inl e ↦ ap (λ k. list_any (nat_eq k) ls) e ∙ listed s.triples is f ls wf (omega arith) df
      | inr other ↦ elim other [
        | inl e ↦ ap (λ k. list_any (nat_eq k) ls) e ∙ listed s.triples is g ls wg (omega arith) dg
        | inr e ↦ ap (λ k. list_any (nat_eq k) ls) e ∙ listed s.triples is h ls wh (omega arith) dh
      ]
    ]

    -- twice the room of the other levels is the room of all
    double : (ls : List ℕ) → list_any (nat_eq level) ls ≡ true → 2 ^ length (without level ls) + 2 ^ length (without level ls) ≤ 2 ^ length ls
    double ls there =
        let m : 2 ^ (length (without level ls) + 1) ≤ 2 ^ length ls = pow_mono (without-lt level ls there) in
        let e : 2 ^ (length (without level ls) + 1) ≡ 2 ^ length (without level ls) * 2 ^ 1 = pow-add 2 (length (without level ls)) 1 in
        omega arith

    pub room-low : IteRoom s t f g h
    room-low = record {
      most = λ ls ds.
          let df = ds.0 in
          let dg = ds.1.0 in
          let dh = ds.1.1.0 in
          let d = double ls (level-listed ls df dg dh) in
          let m = low.most (without level ls) (cofactor-depends s.triples f level false f0 ls cf0 df, (cofactor-depends s.triples g level false g0 ls cg0 dg, (cofactor-depends s.triples h level false h0 ls ch0 dh, tt))) in
          omega (arith, m, d);
    }

    pub room-high : IteRoom t u f1 g1 h1 → length v.triples ≤ length u.triples + 1 → IteRoom s v f g h
    room-high high last = record {
      most = λ ls ds.
          let df = ds.0 in
          let dg = ds.1.0 in
          let dh = ds.1.1.0 in
          let d = double ls (level-listed ls df dg dh) in
          let m = low.most (without level ls) (cofactor-depends s.triples f level false f0 ls cf0 df, (cofactor-depends s.triples g level false g0 ls cg0 dg, (cofactor-depends s.triples h level false h0 ls ch0 dh, tt))) in
          let n = high.most (without level ls) (
            grown-depends s t st f1 _ cf1.node (cofactor-depends s.triples f level true f1 ls cf1 df),
            (
              grown-depends s t st g1 _ cg1.node (cofactor-depends s.triples g level true g1 ls cg1 dg),
              (grown-depends s t st h1 _ ch1.node (cofactor-depends s.triples h level true h1 ls ch1 dh), tt),
            ),
          ) in
          omega (arith, m, n, d);
    }

pub room-none : (s : Store) (f g h : ℕ) → IteRoom s s f g h
room-none s f g h = record { most = λ ls ds. let p : 0 < 2 ^ length ls = pow_pos (length ls) in omega arith }

pub least-three : (l a b c : ℕ) → l ≡ min (min a b) c → (l ≡ a) ⊎ ((l ≡ b) ⊎ (l ≡ c))
least-three l a b c e = elim (cases_eq l a) [
  | inl p ↦ inl p
  | inr p ↦ elim (cases_eq l b) [ inl q ↦ inr (inl q) | inr q ↦ inr (inr (omega arith)) ]
]

pub ite-one : (ts : List Triple) (f g h : ℕ) → f ≡ 1 → IsIte ts ts f g h g
ite-one ts f g h e = record { at = λ a. sym (ap (λ b. if b then function_of ts g a else function_of ts h a) (ap (λ n. function_of ts n a) e ∙ function_of-one ts a)) }

pub ite-zero : (ts : List Triple) (f g h : ℕ) → f ≡ 0 → IsIte ts ts f g h h
ite-zero ts f g h e = record { at = λ a. sym (ap (λ b. if b then function_of ts g a else function_of ts h a) (ap (λ n. function_of ts n a) e ∙ function_of-zero ts a)) }

pub ite-kept : (s v : Store) → Grows s v → (f g h r : ℕ) → IsNode s.triples f → IsNode s.triples g → IsNode s.triples h → IsIte s.triples v.triples f g h r → IsIte v.triples v.triples f g h r
ite-kept s v gr f g h r wf wg wh is = ite-now s v gr f g h r wf wg wh is

pub room-same : (s u v : Store) (f g h : ℕ) → v ≡ u → IteRoom s u f g h → IteRoom s v f g h
room-same s u v f g h e r = subst (λ x. IteRoom s x f g h) (sym e) r

pub literal-is : (ts : List Triple) (b : Bool) (a : Bits) → (if b then function_of ts 1 a else function_of ts 0 a) ≡ b
literal-is ts true a = function_of-one ts a
literal-is ts false a = function_of-zero ts a

plain : (b : Bool) → b ≡ (if b then true else false)
plain true = refl
plain false = refl

pub ite-plain : (ts : List Triple) (f g h : ℕ) → g ≡ 1 → h ≡ 0 → IsIte ts ts f g h f
ite-plain ts f g h e z = record {
  at = λ a. plain (function_of ts f a)
      ∙ choose (function_of ts f a) _ _ _ _ (sym (ap (λ n. function_of ts n a) e ∙ function_of-one ts a)) (sym (ap (λ n. function_of ts n a) z ∙ function_of-zero ts a));
}

-- the cause of a stop for nodes: the store is full, and the call has added no more than its room
pub cause : (ns : List ℕ) (times : ℕ) (s v : Store) (fulls : ℕ) (r : Result Node Stop) → 0 < times → Room ns times s v → v.budget ≡ s.budget → fulls ≡ s.fulls → v.fulls ≡ fulls_after fulls r → (r ≡ Err Nodes → length v.triples ≡ v.budget)
    → r ≡ Err Nodes → HasCause ns times s v
cause ns times s v old r some room same before fulls full stop =
    let risen : v.fulls ≡ min (s.fulls + 1) (2 ^ 64 - 1) = fulls ∙ ap (fulls_after old) stop ∙ ap (λ n. min (n + 1) (2 ^ 64 - 1)) before in
    let filled = full stop in
    record {
      rose = omega arith;
      below = λ ls d. let m = room.most ls d in omega arith;
    }

-- a store whose node was refused is full
pub refused-full : (level lo hi : ℕ) (u v : Store) (r : Result Node Stop) → (r ≡ Err Nodes → IsFull u level lo hi) → v.triples ≡ u.triples → v.budget ≡ u.budget → r ≡ Err Nodes → length v.triples ≡ v.budget
refused-full level lo hi u v r full kept same stop = ap length kept ∙ (full stop).full ∙ sym same
