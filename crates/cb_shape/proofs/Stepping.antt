-- A step by what is pending.
use Rattle.std.proofs.Common.{◌≡◌, ℕ, ◌≤◌, List, length, drop, Option, subst, sym}
use Rattle.std.specs.Borrow.{Bor}
use Rattle.cb_laws.proofs.OpenTrees.{Plain, Plains}
use Rattle.cb_heap.specs.declared.Ref.{Ref}
use Rattle.cb_heap.specs.declared.Stored.{Stored}
use Rattle.cb_shape.specs.declared.Root.{Root}
use Rattle.cb_shape.specs.declared.walk.Pending.{Pending}
use Rattle.cb_shape.specs.declared.walk.Pending.TheVariants as pending
use Rattle.cb_shape.specs.declared.walk.Walk.{Walk}
use Rattle.cb_shape.specs.Terms.{IsBus, IsTerm, AreCells, AreTerms, AreRoots, how_many}
use Rattle.cb_shape.specs.Walk.{Work, Whole, Rest, Tail, Roots, IsWork, Steps, Begins}
use Rattle.cb_shape.proofs.Telling.{begun}

module _ (cs : List Stored) (roots : List Root) where
  pub cell-steps : (r : Ref) (w : Work) (old new : Walk) (before after : List Pending) → IsWork cs roots (pending.Cell r) w →
      ((p : Plain) → IsTerm cs r.0 p → Begins cs roots p old new before after) → Steps cs roots w old new before after
  cell-steps r (Whole p) old new before after h f = begun cs roots p old new before after (f p h)
  cell-steps r (Rest ps) old new before after h f = absurd h
  cell-steps r (Tail ss t) old new before after h f = absurd h
  cell-steps r (Roots i rs ps) old new before after h f = absurd h

  pub rest-steps : (at k : ℕ) (w : Work) (old new : Walk) (before after : List Pending) → IsWork cs roots (pending.Rest at k) w →
      ((ps : Plains) → k ≡ how_many ps → AreTerms cs at ps → Steps cs roots (Rest ps) old new before after) → Steps cs roots w old new before after
  rest-steps at k (Whole p) old new before after h f = absurd h
  rest-steps at k (Rest ps) old new before after h f = f ps h.0 h.1
  rest-steps at k (Tail ss t) old new before after h f = absurd h
  rest-steps at k (Roots i rs ps) old new before after h f = absurd h

  pub tail-steps : (r : Ref) (w : Work) (old new : Walk) (before after : List Pending) → IsWork cs roots (pending.Tail r) w →
      ((ss : List ℕ) (t : Option ℕ) → IsBus cs r.0 ss t → Steps cs roots (Tail ss t) old new before after) → Steps cs roots w old new before after
  tail-steps r (Whole p) old new before after h f = absurd h
  tail-steps r (Rest ps) old new before after h f = absurd h
  tail-steps r (Tail ss t) old new before after h f = f ss t h
  tail-steps r (Roots i rs ps) old new before after h f = absurd h

  pub arguments-step : (args : Bor (List Ref)) (w : Work) (old new : Walk) (before after : List Pending) → IsWork cs roots (pending.Arguments args) w →
      ((ps : Plains) → AreCells cs args.now ps → Steps cs roots (Rest ps) old new before after) → Steps cs roots w old new before after
  arguments-step args (Whole p) old new before after h f = absurd h
  arguments-step args (Rest ps) old new before after h f = f ps h
  arguments-step args (Tail ss t) old new before after h f = absurd h
  arguments-step args (Roots i rs ps) old new before after h f = absurd h

  pub roots-step : (at : ℕ) (w : Work) (old new : Walk) (before after : List Pending) → IsWork cs roots (pending.Roots at) w →
      ((ps : Plains) → at ≤ length roots → AreRoots cs (drop at roots) ps → Steps cs roots (Roots at (drop at roots) ps) old new before after) → Steps cs roots w old new before after
  roots-step at (Whole p) old new before after h f = absurd h
  roots-step at (Rest ps) old new before after h f = absurd h
  roots-step at (Tail ss t) old new before after h f = absurd h
  roots-step at (Roots i rs ps) old new before after h f =
      subst (λ k. Steps cs roots (Roots k rs ps) old new before after) (sym h.0)
      (subst (λ qs. Steps cs roots (Roots at qs ps) old new before after) (sym h.2) (f ps h.1 (subst (λ qs. AreRoots cs qs ps) h.2 h.3)))
