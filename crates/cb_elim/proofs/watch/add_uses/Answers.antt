use Rattle.std.proofs.Common.{◌≡◌, ℕ, ◌≤◌, inl, inr, List, get_or, subst, sym, arith}
use Rattle.cb_ops.specs.Support.{IsListed}
use Rattle.cb_trail.specs.declared.uses.Use.{Use}
use Rattle.cb_trail.specs.Uses.{IsUsed}
use Rattle.cb_trail.proofs.Linked.{used-new, used-old}
use Rattle.cb_elim.proofs.Moved.{levels-next}
use Rattle.cb_elim.proofs.watch.add_uses.Goals as goal
use Rattle.cb_elim.proofs.watch.add_uses.Goals.{then-is_gained+in_ok-add, else-is_gained}

pub loop-level-preserved : goal.loop-level-preserved
loop-level-preserved c =
    let kept : (l x t : ℕ) → IsUsed c.loop-level.uses l x t → IsUsed c.if-is_gained.uses l x t = λ l x t u. elim c.if-is_gained.branch [
      | then-is_gained+in_ok-add w ↦ rw w.uses-is (subst (λ (us : List Use). IsUsed us l x t) (sym w.in_ok-add.ensures.added) (used-old c.loop-level.uses _ l x t u))
      | else-is_gained w ↦ rw w.uses-is u
    ] in
    let own : (k : ℕ) → k ≡ get_or c.args.levels.now c.loop-level.level-index 0 → c.args.constants ≤ k → (IsListed c.args.before.now k → ⊥) → IsUsed c.if-is_gained.uses k c.args.slot c.args.since = λ k e free away. elim c.if-is_gained.branch [
      | then-is_gained+in_ok-add w ↦ rw w.uses-is (subst (λ j. IsUsed w.add.new.self j c.args.slot c.args.since) (sym e) (subst (λ (us : List Use). IsUsed us (get_or c.args.levels.now c.loop-level.level-index 0) c.args.slot c.args.since) (sym w.in_ok-add.ensures.added) (used-new c.loop-level.uses (record { level = get_or c.args.levels.now c.loop-level.level-index 0; slot = c.args.slot; since = c.args.since }))))
      | else-is_gained w ↦ absurd (elim (c.is_gained.ensures w.if-is_gained.false) [ inl less ↦ omega arith | inr there ↦ away (subst (λ j. IsListed c.args.before.now j) (sym e) there) ])
    ] in
    record {
      kept = λ l x t u. kept l x t (c.loop-level.invariant.kept l x t u);
      used = λ k there free away. elim (levels-next c.args.levels.now c.loop-level.level-index k c.loop-level-test.true there) [
        | inl before ↦ kept k c.args.slot c.args.since (c.loop-level.invariant.used k before free away)
        | inr here ↦ own k here free away
      ];
    }
