-- The laws behind `restrict` and `exists`.
use Rattle.std.proofs.Common.{◌≡◌, ℕ, ◌<◌, ◌≤◌, ◌^◌, Bool, true, false, cond, ◌||◌, List, [], ◌∷◌, length, Some, refl, sym, ap, ◌∙◌, ◌⊎◌, inl, inr, arith}
use Rattle.std.proofs.lemmas.Bool.{cases_Bool, cases_eq, cases_lt, eqb-true}
use Rattle.std.proofs.lemmas.Option.{same_Some}
use Rattle.std.specs.Map.{lookup}
use Rattle.indexmap.specs.IndexMap.{IndexMap, get}
use Rattle.cb_model.specs.Bits.{Bits, put}
use Rattle.cb_dd.specs.declared.Triple.{Triple}
use Rattle.cb_dd.specs.declared.Node.{Node}
use Rattle.cb_dd.specs.Diagram.{Store, IsNode, IsDiagram, function_of, level_of}
use Rattle.cb_dd.proofs.Diagrams.{function_of-put}
use Rattle.std.proofs.lemmas.Nat.{pow_pos}
use Rattle.cb_ops.specs.Ops.{Agree, DependsOn, StandsFor, Room, Grows}
use Rattle.cb_ops.specs.Done.{node_eq}
use Rattle.cb_ops.proofs.Ite.{put-same, put-other, essential, grown-function, grown-depends}

-- bits put at two places, in either order
pub put-swap : (k l : ℕ) (x y : Bool) (a : Bits) → (k ≡ l → ⊥) → put l y (put k x a) ≡ put k x (put l y a)
put-swap k l x y a ne = λ i j. at j i
  where
    at : (j : ℕ) → put l y (put k x a) j ≡ put k x (put l y a) j
    at j = elim (cases_eq j l) [
      | inl e ↦
          let other : j ≡ k → ⊥ = λ (h : j ≡ k). ne (sym h ∙ e) in
          put-same (put k x a) l j y e ∙ sym (put-other (put l y a) k x j other ∙ put-same a l j y e)
      | inr away ↦ put-other (put k x a) l y j away ∙ elim (cases_eq j k) [
        | inl e ↦ put-same a k j x e ∙ sym (put-same (put l y a) k j x e)
        | inr far ↦ put-other a k x j far ∙ sym (put-other (put l y a) k x j far ∙ put-other a l y j away)
      ]
    ]

-- a node that depends on no level up to l is a child at l
pub above-of : (ts : List Triple) → IsDiagram ts → (r l : ℕ) → IsNode ts r → l < 2 ^ 32 → ((k : ℕ) → k ≤ l → (a : Bits) (b : Bool) → function_of ts r (put k b a) ≡ function_of ts r a) → l < level_of ts r
above-of ts is r l w small free = elim (cases_lt l (level_of ts r)) [
  | inl lt ↦ lt
  | inr ge ↦ absurd (essential ts is r (level_of ts r) w refl (omega arith) (free (level_of ts r) ge))
]

-- nothing is to be done below the level
pub restricted-self : (ts : List Triple) → IsDiagram ts → (n level : ℕ) (bit : Bool) → IsNode ts n → level < level_of ts n → StandsFor ts n (λ a. function_of ts n (put level bit a))
restricted-self ts is n level bit w below = record { at = λ a. sym (function_of-put ts is n w level below a bit) }

pub node_eq-same : (x y : Node) → node_eq x y ≡ true → x ≡ y
node_eq-same x y e = λ i. record { 0 = eqb-true _ _ e i }

-- what an insertion says of each key
pub remembered : {S : Type 0} (old new : IndexMap Node Node S) (n r : Node) → ((q : Node) → get node_eq new q ≡ cond (node_eq n q) (Some r) (get node_eq old q))
    → (q v : Node) → get node_eq new q ≡ Some v → ((q ≡ n) × (v ≡ r)) ⊎ (get node_eq old q ≡ Some v)
remembered old new n r says q v at = elim (cases_Bool (node_eq n q)) [
  | inl same ↦ inl (sym (node_eq-same n q same), sym (same_Some r v (sym (says q ∙ ap (λ b. cond b (Some r) (get node_eq old q)) same) ∙ at)))
  | inr other ↦ inr (sym (says q ∙ ap (λ b. cond b (Some r) (get node_eq old q)) other) ∙ at)
]

-- nothing was inserted
pub remembered-same : {S : Type 0} (old new : IndexMap Node Node S) (n r : Node) → new.entries ≡ old.entries → (q v : Node) → get node_eq new q ≡ Some v → ((q ≡ n) × (v ≡ r)) ⊎ (get node_eq old q ≡ Some v)
remembered-same old new n r same q v at = inr (ap (lookup (node_eq q)) (sym same) ∙ at)

pub agree-both : (k : ℕ) (ls : List ℕ) (a b : Bits) (x : Bool) → Agree ls a b → Agree ls (put k x a) (put k x b)
agree-both k [] a b x h = tt
agree-both k (l ∷ ls) a b x h = (
  elim (cases_eq l k) [
    | inl e ↦ put-same a k l x e ∙ sym (put-same b k l x e)
    | inr ne ↦ put-other a k x l ne ∙ h.0 ∙ sym (put-other b k x l ne)
  ],
  agree-both k ls a b x h.1,
)

-- a restricted node depends on no more levels
pub restricted-depends : (s t : Store) (f r level : ℕ) (bit : Bool) (ls : List ℕ) → StandsFor t.triples r (λ a. function_of s.triples f (put level bit a)) → DependsOn s.triples f ls → DependsOn t.triples r ls
restricted-depends s t f r level bit ls is d = record { agrees = λ a b h. is.at a ∙ d.agrees (put level bit a) (put level bit b) (agree-both level ls a b bit h) ∙ sym (is.at b) }

either-of : (x y z w : Bool) → x ≡ z → y ≡ w → x || y ≡ z || w
either-of x y z w p q = λ i. p i || q i

module _ (s t u v : Store) (st : Grows s t) (tu : Grows t u) (f level low high : ℕ) (wf : IsNode s.triples f) where
  pub two-rooms : Room (f ∷ []) 1 s t → Room (f ∷ []) 1 t u → Room (f ∷ []) 3 s u
  two-rooms first second = record {
    most = λ ls d.
        let m = first.most ls d in
        let n = second.most ls (grown-depends s t st f ls wf d.0, tt) in
        let p : 0 < 2 ^ length ls = pow_pos (length ls) in
        omega arith;
  }

  module _ (wl : IsNode t.triples low) (is_low : StandsFor t.triples low (λ a. function_of s.triples f (put level false a))) (is_high : StandsFor u.triples high (λ a. function_of t.triples f (put level true a))) where
    pub exists-is : (r : ℕ) → StandsFor v.triples r (λ a. function_of u.triples low a || function_of u.triples high a) → StandsFor v.triples r (λ a. function_of s.triples f (put level false a) || function_of s.triples f (put level true a))
    exists-is r is = record {
      at = λ a. is.at a
          ∙ either-of _ _ _ _ (grown-function t u tu low wl a ∙ is_low.at a) (is_high.at a ∙ grown-function s t st f wf (put level true a));
    }

    pub exists-room : Room (f ∷ []) 1 s t → Room (f ∷ []) 1 t u → Room (low ∷ high ∷ []) 1 u v → Room (f ∷ []) 3 s v
    exists-room first second third = record {
      most = λ ls d.
          let df = grown-depends s t st f ls wf d.0 in
          let m = first.most ls d in
          let n = second.most ls (df, tt) in
          let o = third.most ls (grown-depends t u tu low ls wl (restricted-depends s t f low level false ls is_low d.0), (restricted-depends t u f high level true ls is_high df, tt)) in
          omega arith;
    }
