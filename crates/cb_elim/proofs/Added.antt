-- A slot more: the older ones keep their bits.
use Rattle.std.proofs.Common.{◌≡◌, ◌≢◌, inl, inr, ℕ, ◌<◌, Option, Some, None, sym, ap, subst, ◌∙◌, arith}
use Rattle.cb_model.specs.Bits.{Bits}
use Rattle.cb_boole.specs.Elimination.{Function}
use Rattle.cb_boole.specs.View.{View, IsGood, IsLive, point, with_at, with_slot, with_variable}
use Rattle.cb_boole.proofs.Unify.{cases_stands, point_free, point_other}
use Rattle.cb_boole.proofs.Grow.{with_same, with_other}
use Rattle.cb_elim.specs.Store.{AddsSlot}

below-other : (y x : ℕ) → y < x → y ≢ x
below-other y x h e = absurd (omega arith)

module _ (S : View) (good : IsGood S) (x : ℕ) (new : S.IsVariable x → ⊥) where
  -- points agree at the levels that were live, where those of the variables stand for the same
  module _ (T : ℕ → Option ℕ) (still : (k : ℕ) → IsLive S k → T k ≡ S.stands k) (a w v : Bits) (same : (y : ℕ) → y ≢ x → w y ≡ v y) where
    alike : (k : ℕ) → IsLive S k → point T a v k ≡ point S.stands a w k
    alike k live = elim (cases_stands (S.stands k)) [
      | inl none ↦ point_other T a v k (still k live ∙ none) ∙ sym (point_other S.stands a w k none)
      | inr h ↦
          point_free T a v k h.0 (still k live ∙ h.1)
          ∙ sym (same h.0 (λ e. new (subst S.IsVariable e (good.variable k h.0 h.1))))
          ∙ sym (point_free S.stands a w k h.0 h.1)
    ]

  pub slot-adds : (f : Function) → AddsSlot S (with_slot S x f) x (λ a w. f (point S.stands a w))
  slot-adds f = record {
    stays = λ a w v same y h.
        ap (λ (g : Function). g (point S.stands a v)) (with_other S.values x f y (below-other y x h))
        ∙ (good.fit y).only (point S.stands a v) (point S.stands a w) (alike S.stands (λ k live. λ i. S.stands k) a w v same);
    added = λ a w. ap (λ (g : Function). g (point S.stands a w)) (with_same S.values x f);
  }

  module _ (l : ℕ) (unused : S.stands l ≡ None) (above : l < S.constants → ⊥) where
    no_some : (o : Option ℕ) (y : ℕ) → o ≡ None → o ≡ Some y → ⊥
    no_some o y e h = cc

    other-level : (k : ℕ) → IsLive S k → k ≢ l
    other-level k (inl less) e = above (subst (λ j. j < S.constants) e less)
    other-level k (inr h) e = no_some (S.stands k) h.0 (ap S.stands e ∙ unused) h.1

    pub variable-adds : AddsSlot S (with_variable S l x) x (λ a w. w x)
    variable-adds = record {
      stays = λ a w v same y h.
          ap (λ (g : Function). g (point (with_at S.stands l (Some x)) a v)) (with_other S.values x (λ p. p l) y (below-other y x h))
          ∙ (good.fit y).only (point (with_at S.stands l (Some x)) a v) (point S.stands a w)
          (alike (with_at S.stands l (Some x)) (λ k live. with_other S.stands l (Some x) k (other-level k live)) a w v same);
      added = λ a w.
          ap (λ (g : Function). g (point (with_at S.stands l (Some x)) a w)) (with_same S.values x (λ p. p l))
          ∙ point_free (with_at S.stands l (Some x)) a w l x (with_same S.stands l (Some x));
    }
