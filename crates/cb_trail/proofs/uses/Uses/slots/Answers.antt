use Rattle.std.proofs.Common.{◌≡◌, ◌⊎◌, inl, inr, ℕ, ◌-◌, ◌<◌, ◌≤◌, length, get_or, List, subst, sym, arith}
use Rattle.cb_trail.specs.declared.uses.Use.{Use}
use Rattle.cb_trail.specs.Uses.{IsIn, IsUsed}
use Rattle.cb_trail.proofs.Linked.{Met, insert-from, insert-kept, insert-own, met-next, met-all, read-at}
use Rattle.cb_trail.proofs.uses.Uses.slots.Goals as goal
use Rattle.cb_trail.proofs.uses.Uses.slots.Goals.{then-used-below+in_ok-insert, else-used-below}

pub loop-at-smaller : goal.loop-at-smaller
loop-at-smaller c =
    let le : c.loop-at.at ≤ length c.self.inside.uses.items = c.loop-at.invariant.met.within in
    let pos : 0 < c.loop-at.at = c.loop-at-test.true in
    let long : length c.self.inside.before.items ≡ length c.self.inside.uses.items = c.self.invariant.number in
    let e : c.index-at.result.now ≡ get_or c.self.inside.before.items (c.loop-at.at - 1) 0 = read-at c.self.inside.before.items (c.loop-at.at - 1) c.index-at.result.now (omega arith) c.index-at.ensures in
    let w : get_or c.self.inside.before.items (c.loop-at.at - 1) 0 ≤ c.loop-at.at - 1 = (c.self.invariant.before (c.loop-at.at - 1) (record { level = 0; slot = 0; since = 0 }) (omega arith)).within in
    omega arith

pub loop-at-preserved : goal.loop-at-preserved
loop-at-preserved c =
    let le : c.loop-at.at ≤ length c.self.inside.uses.items = c.loop-at.invariant.met.within in
    let pos : 0 < c.loop-at.at = c.loop-at-test.true in
    let long : length c.self.inside.before.items ≡ length c.self.inside.uses.items = c.self.invariant.number in
    let e : c.index-at.result.now ≡ get_or c.self.inside.before.items (c.loop-at.at - 1) 0 = read-at c.self.inside.before.items (c.loop-at.at - 1) c.index-at.result.now (omega arith) c.index-at.ensures in
    let own : c.index-used.result.now ≡ get_or c.self.inside.uses.items (c.loop-at.at - 1) c.index-used.result.now = c.index-used.ensures in
    let kept : (x : ℕ) → IsIn c.loop-at.into.keys x → IsIn c.if-used-below.into.keys x = λ x h. elim c.if-used-below.branch [
      | then-used-below+in_ok-insert w ↦ rw w.into-is (insert-kept c.index-used.result.now.slot c.loop-at.into.keys w.insert.new.self.keys w.in_ok-insert.ensures.updates.0 x h)
      | else-used-below w ↦ rw w.into-is h
    ] in
    let met : c.index-used.result.now.slot < c.args.below → IsIn c.if-used-below.into.keys c.index-used.result.now.slot = λ small. elim c.if-used-below.branch [
      | then-used-below+in_ok-insert w ↦ rw w.into-is (insert-own c.index-used.result.now.slot c.loop-at.into.keys w.insert.new.self.keys w.in_ok-insert.ensures.updates.0)
      | else-used-below w ↦ absurd (let le = w.if-used-below.false in omega arith)
    ] in
    let from : (x : ℕ) → IsIn c.if-used-below.into.keys x → (x < c.args.below) ⊎ IsIn c.loop-at.into.keys x = λ x h. elim c.if-used-below.branch [
      | then-used-below+in_ok-insert w ↦ elim (insert-from c.index-used.result.now.slot c.loop-at.into.keys w.insert.new.self.keys w.in_ok-insert.ensures.updates.0 x (rw w.into-is at h)) [
        | inl same ↦ inl (let less = w.if-used-below.true in omega arith)
        | inr old ↦ inr old
      ]
      | else-used-below w ↦ inr (rw w.into-is at h)
    ] in
    record {
      met = met-next c.self.inside.uses.items c.self.inside.before.items c.self.inside.last.items c.args.level c.args.below c.loop-at.at c.index-at.result.now c.index-used.result.now c.loop-at.into.keys c.if-used-below.into.keys
          c.self.invariant c.loop-at.invariant.met pos e kept (λ small. subst (λ (u : Use). IsIn c.if-used-below.into.keys u.slot) own (met (subst (λ (u : Use). u.slot < c.args.below) (sym own) small)));
      kept = λ x h. kept x (c.loop-at.invariant.kept x h);
      below = λ x h. elim (from x h) [ inl less ↦ inl less | inr old ↦ c.loop-at.invariant.below x old ];
    }

pub returns-clause-found : goal.returns-clause-found
returns-clause-found c = λ x t small v.
    met-all c.self.inside.uses.items c.args.level c.args.below c.loop-at.into.keys
    (subst (λ k. Met c.self.inside.uses.items c.args.level c.args.below k c.loop-at.into.keys) (let h : c.loop-at.at ≤ 0 = c.loop-at-test.false in omega arith) c.loop-at.invariant.met) x t small
    (subst (λ (us : List Use). IsUsed us c.args.level x t) (sym c.self.view_is) v)
