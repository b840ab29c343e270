-- The laws behind `compose`.
use Rattle.std.proofs.Common.{◌≡◌, ℕ, ◌<◌, Bool, true, false, List, [], ◌∷◌, length, if◌then◌else◌, refl, subst, ◌∙◌, arith}
use Rattle.cb_model.specs.Bits.{put}
use Rattle.cb_model.specs.Outside.{Rose}
use Rattle.cb_dd.specs.Diagram.{Store, IsNode, function_of}
use Rattle.cb_ops.specs.Ops.{StandsFor, IsIte, Room, HasCause, Grows}
use Rattle.cb_ops.proofs.Ite.{choose-all, grown-node, grown-function, grown-depends}
use Rattle.cb_ops.proofs.Connectives.{room-of}
use Rattle.cb_ops.proofs.Restrict.{restricted-depends, two-rooms}
use Rattle.cb_ops.proofs.Joins.{room-three}

-- a choice between the values of a function at both bits is its value at the choice
at-bit : (f : Bool → Bool) (x : Bool) → (if x then f true else f false) ≡ f x
at-bit f true = refl
at-bit f false = refl

module _ (s : Store) (f g : ℕ) where
  with_other : (times : ℕ) (v : Store) → Room (f ∷ []) times s v → Room (f ∷ g ∷ []) times s v
  with_other times v = room-of (f ∷ []) (f ∷ g ∷ []) times s v (λ ls d. (d.0, tt))

  pub composed-low : (t : Store) → Room (f ∷ []) 1 s t → Room (f ∷ g ∷ []) 3 s t
  composed-low t first = with_other 3 t (room-three (f ∷ []) s t first)

module _ (s t u v : Store) (st : Grows s t) (tu : Grows t u) (f level low high g : ℕ) (wf : IsNode s.triples f) (wg : IsNode s.triples g) where
  pub composed-high : Room (f ∷ []) 1 s t → Room (f ∷ []) 1 t u → Room (f ∷ g ∷ []) 3 s u
  composed-high first second = with_other s f g 3 u (two-rooms s t u v st tu f level low high wf first second)

  module _ (wl : IsNode t.triples low) (is_low : StandsFor t.triples low (λ a. function_of s.triples f (put level false a))) (is_high : StandsFor u.triples high (λ a. function_of t.triples f (put level true a))) where
    pub composed-is : (r : ℕ) → IsIte u.triples v.triples g high low r → StandsFor v.triples r (λ a. function_of s.triples f (put level (function_of s.triples g a) a))
    composed-is r is = record {
      at = λ a. is.at a
          ∙ choose-all _ _ _ _ _ _
          (grown-function t u tu g (grown-node s t st g wg) a ∙ grown-function s t st g wg a)
          (is_high.at a ∙ grown-function s t st f wf (put level true a))
          (grown-function t u tu low wl a ∙ is_low.at a)
          ∙ at-bit (λ x. function_of s.triples f (put level x a)) (function_of s.triples g a);
    }

    pub composed-room : Room (f ∷ []) 1 s t → Room (f ∷ []) 1 t u → Room (g ∷ high ∷ low ∷ []) 1 u v → Room (f ∷ g ∷ []) 3 s v
    composed-room first second third = record {
      most = λ ls d.
          let df = grown-depends s t st f ls wf d.0 in
          let dg = grown-depends t u tu g ls (grown-node s t st g wg) (grown-depends s t st g ls wg d.1.0) in
          let m = first.most ls (d.0, tt) in
          let n = second.most ls (df, tt) in
          let o = third.most ls (dg, (restricted-depends t u f high level true ls is_high df, (grown-depends t u tu low ls wl (restricted-depends s t f low level false ls is_low d.0), tt))) in
          omega (arith, m, n, o);
    }

-- a stop of the second part of a call is one of the whole
pub composed-cause : (ns ms : List ℕ) (times other : ℕ) (s t v : Store) → Room ns times s v → t.fulls ≡ s.fulls → v.budget ≡ s.budget → length v.triples ≡ v.budget → 0 < times → HasCause ms other t v → HasCause ns times s v
composed-cause ns ms times other s t v room same budget full some h = record {
  rose = subst (λ n. Rose n v.fulls) same h.rose;
  below = λ ls d. let m = room.most ls d in omega (arith, m, full, budget, some);
}
